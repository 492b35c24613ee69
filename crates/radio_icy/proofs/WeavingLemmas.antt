-- How sound is woven: a byte, a part of an interval, a whole interval.
use Rattle.std.proofs.Common.{◌≡◌, ℕ, ◌+◌, ◌<◌, ◌≤◌, List, [], ◌∷◌, ◌++◌, length, Option, None, Some, refl, arith, ap, ◌∙◌, sym, ⊎_elim, add-zero, ◌-◌, take}
use Rattle.std.proofs.Common.{drop, append_assoc, length-take}
use Rattle.std.specs.Option.{option_map, option_or}
use Rattle.std.proofs.lemmas.Bool.{lt-ltb, le-ltb, cases_lt}
use Rattle.std.proofs.lemmas.List.{nil_from_length, length-take-le, take-append-drop, take-take, take-append-le}
use Rattle.radio_icy.specs.Block.{metadata_block, news_of, sent_with}
use Rattle.radio_icy.specs.Weaving.{Weaving, Call, after_woven_byte, after_calls, after_weaving, block_after_byte, from_place, woven, woven_by_calls}
use Rattle.radio_icy.proofs.BlockLemmas.{news_of_sent}

-- a weaver that has passed on n bytes more, inside an interval
abbrev pub moved : Weaving → ℕ → Weaving
moved w n = record w { place = w.place + n }

-- a weaver that has just sent a block
abbrev pub at_block : Weaving → Option (List ℕ) → Weaving
at_block w title = record w { place = 0; sent = sent_with (news_of title w.sent) w.sent }

woven_inside : (w : Weaving) (title : Option (List ℕ)) (b : ℕ) (sound : List ℕ) → w.place + 1 < w.interval
    → woven w title (b ∷ sound) ≡ b ∷ woven (moved w 1) title sound
woven_inside w title b sound h = rw (lt-ltb (w.place + 1) w.interval h) refl

woven_at_end : (w : Weaving) (title : Option (List ℕ)) (b : ℕ) (sound : List ℕ) → w.interval ≤ w.place + 1
    → woven w title (b ∷ sound) ≡ b ∷ (metadata_block (news_of title w.sent) ++ woven (at_block w title) title sound)
woven_at_end w title b sound h = rw (le-ltb (w.place + 1) w.interval h) refl

after_inside : (w : Weaving) (title : Option (List ℕ)) (b : ℕ) (sound : List ℕ) → w.place + 1 < w.interval
    → after_weaving w title (b ∷ sound) ≡ after_weaving (moved w 1) title sound
after_inside w title b sound h = rw (lt-ltb (w.place + 1) w.interval h) refl

after_at_end : (w : Weaving) (title : Option (List ℕ)) (b : ℕ) (sound : List ℕ) → w.interval ≤ w.place + 1
    → after_weaving w title (b ∷ sound) ≡ after_weaving (at_block w title) title sound
after_at_end w title b sound h = rw (le-ltb (w.place + 1) w.interval h) refl

-- the rest of an interval, and its block
pub woven_interval : (w : Weaving) (title : Option (List ℕ)) (part later : List ℕ) → w.place < w.interval → w.place + length part ≡ w.interval
    → woven w title (part ++ later) ≡ part ++ (metadata_block (news_of title w.sent) ++ woven (at_block w title) title later)
woven_interval w title [] later inside whole = absurd (omega arith)
woven_interval w title (b ∷ part) later inside whole =
    ⊎_elim
    (λ (h : w.place + 1 < w.interval). woven_inside w title b (part ++ later) h
    ∙ ap (λ t. b ∷ t) (woven_interval (moved w 1) title part later (omega arith) (omega arith)))
    (λ (h : w.interval ≤ w.place + 1).
    let none : part ≡ [] = nil_from_length part (omega arith) in
    rw none (woven_at_end w title b later h))
    (cases_lt (w.place + 1) w.interval)

pub after_interval : (w : Weaving) (title : Option (List ℕ)) (part later : List ℕ) → w.place < w.interval → w.place + length part ≡ w.interval
    → after_weaving w title (part ++ later) ≡ after_weaving (at_block w title) title later
after_interval w title [] later inside whole = absurd (omega arith)
after_interval w title (b ∷ part) later inside whole =
    ⊎_elim
    (λ (h : w.place + 1 < w.interval). after_inside w title b (part ++ later) h ∙ after_interval (moved w 1) title part later (omega arith) (omega arith))
    (λ (h : w.interval ≤ w.place + 1).
    let none : part ≡ [] = nil_from_length part (omega arith) in
    rw none (after_at_end w title b later h))
    (cases_lt (w.place + 1) w.interval)

-- a part that does not end the interval
pub woven_part : (w : Weaving) (title : Option (List ℕ)) (part : List ℕ) → w.place + length part < w.interval → woven w title part ≡ part
woven_part w title [] short = refl
woven_part w title (b ∷ part) short = woven_inside w title b part (omega arith) ∙ ap (λ t. b ∷ t) (woven_part (moved w 1) title part (omega arith))

pub after_part : (w : Weaving) (title : Option (List ℕ)) (part : List ℕ) → w.place + length part < w.interval
    → after_weaving w title part ≡ moved w (length part)
after_part w title [] short = ap (λ (n : ℕ). record w { place = n }) (sym (add-zero w.place))
after_part w title (b ∷ part) short =
    let sum : w.place + 1 + length part ≡ w.place + length (b ∷ part) = omega arith in
    after_inside w title b part (omega arith) ∙ (after_part (moved w 1) title part (omega arith) ∙ ap (λ (n : ℕ). record w { place = n }) sum)

-- what is woven depends on the news alone
pub woven_news : (w v : Weaving) (title news : Option (List ℕ)) (sound : List ℕ) → w.interval ≡ v.interval → w.place ≡ v.place
    → news_of title w.sent ≡ news_of news v.sent → woven w title sound ≡ woven v news sound
woven_news w v title news [] i p n = refl
woven_news w v title news (b ∷ sound) i p n =
    ⊎_elim
    (λ (h : w.place + 1 < w.interval).
    woven_inside w title b sound h
    ∙ (ap (λ t. b ∷ t) (woven_news (moved w 1) (moved v 1) title news sound i (omega arith) n) ∙ sym (woven_inside v news b sound (omega arith))))
    (λ (h : w.interval ≤ w.place + 1).
    let quiet : news_of title (at_block w title).sent ≡ news_of news (at_block v news).sent = news_of_sent title w.sent ∙ sym (news_of_sent news v.sent) in
    woven_at_end w title b sound h
    ∙ (ap (λ o. b ∷ (metadata_block o ++ woven (at_block w title) title sound)) n
    ∙ (ap (λ t. b ∷ (metadata_block (news_of news v.sent) ++ t)) (woven_news (at_block w title) (at_block v news) title news sound i refl quiet)
    ∙ sym (woven_at_end v news b sound (omega arith)))))
    (cases_lt (w.place + 1) w.interval)

-- a weaver's place does not depend on titles
pub place_same : (w v : Weaving) (title news : Option (List ℕ)) (sound : List ℕ) → w.interval ≡ v.interval → w.place ≡ v.place
    → (after_weaving w title sound).place ≡ (after_weaving v news sound).place
place_same w v title news [] i p = p
place_same w v title news (b ∷ sound) i p =
    ⊎_elim
    (λ (h : w.place + 1 < w.interval).
    rw (after_inside w title b sound h, after_inside v news b sound (omega arith)) (place_same (moved w 1) (moved v 1) title news sound i (omega arith)))
    (λ (h : w.interval ≤ w.place + 1).
    rw (after_at_end w title b sound h, after_at_end v news b sound (omega arith)) (place_same (at_block w title) (at_block v news) title news sound i refl))
    (cases_lt (w.place + 1) w.interval)

-- a weaver keeps its interval, and its place inside it
pub interval_same : (w : Weaving) (title : Option (List ℕ)) (sound : List ℕ) → (after_weaving w title sound).interval ≡ w.interval
interval_same w title [] = refl
interval_same w title (b ∷ sound) =
    ⊎_elim
    (λ (h : w.place + 1 < w.interval). rw (after_inside w title b sound h) (interval_same (moved w 1) title sound))
    (λ (h : w.interval ≤ w.place + 1). rw (after_at_end w title b sound h) (interval_same (at_block w title) title sound))
    (cases_lt (w.place + 1) w.interval)

pub place_below : (w : Weaving) (title : Option (List ℕ)) (sound : List ℕ) → w.place < w.interval → (after_weaving w title sound).place < w.interval
place_below w title [] inside = inside
place_below w title (b ∷ sound) inside =
    ⊎_elim
    (λ (h : w.place + 1 < w.interval). rw (after_inside w title b sound h) (place_below (moved w 1) title sound h))
    (λ (h : w.interval ≤ w.place + 1). rw (after_at_end w title b sound h) (place_below (at_block w title) title sound (omega arith)))
    (cases_lt (w.place + 1) w.interval)

-- the last title sent stays, if the present title is no news
sent_stays : (w : Weaving) (title : Option (List ℕ)) (sound : List ℕ) → news_of title w.sent ≡ None → (after_weaving w title sound).sent ≡ w.sent
sent_stays w title [] n = refl
sent_stays w title (b ∷ sound) n =
    ⊎_elim
    (λ (h : w.place + 1 < w.interval). rw (after_inside w title b sound h) (sent_stays (moved w 1) title sound n))
    (λ (h : w.interval ≤ w.place + 1).
    let same : sent_with (news_of title w.sent) w.sent ≡ w.sent = rw n refl in
    rw (after_at_end w title b sound h) (sent_stays (at_block w title) title sound (news_of_sent title w.sent) ∙ same))
    (cases_lt (w.place + 1) w.interval)

-- the last title sent after a piece of sound that ends an interval
pub sent_after_block : (w : Weaving) (title : Option (List ℕ)) (sound : List ℕ) → w.place < w.interval → w.interval ≤ w.place + length sound
    → (after_weaving w title sound).sent ≡ sent_with (news_of title w.sent) w.sent
sent_after_block w title sound inside due =
    let n = w.interval - w.place in
    let whole : w.place + length (take n sound) ≡ w.interval = omega (arith, length-take-le n sound (omega arith)) in
    ap (λ s. (after_weaving w title s).sent) (sym (take-append-drop n sound))
    ∙ (ap (λ (v : Weaving). v.sent) (after_interval w title (take n sound) (drop n sound) inside whole)
    ∙ sent_stays (at_block w title) title (drop n sound) (news_of_sent title w.sent))

-- a piece and then another are woven like both in one
pub woven_both : (w : Weaving) (title : Option (List ℕ)) (a b : List ℕ) → woven w title (a ++ b) ≡ woven w title a ++ woven (after_weaving w title a) title b
woven_both w title [] b = refl
woven_both w title (x ∷ a) b =
    ap (λ t. x ∷ (block_after_byte w title ++ t)) (woven_both (after_woven_byte w title) title a b)
    ∙ ap (λ t. x ∷ t) (sym
    (append_assoc (block_after_byte w title) (woven (after_woven_byte w title) title a) (woven (after_weaving (after_woven_byte w title) title a) title b)))

pub after_both : (w : Weaving) (title : Option (List ℕ)) (a b : List ℕ) → after_weaving w title (a ++ b) ≡ after_weaving (after_weaving w title a) title b
after_both w title [] b = refl
after_both w title (x ∷ a) b = after_both (after_woven_byte w title) title a b

-- and so are calls and further calls
pub woven_by_more : (w : Weaving) (calls more : List Call)
    → woven_by_calls w (calls ++ more) ≡ woven_by_calls w calls ++ woven_by_calls (after_calls w calls) more
woven_by_more w [] more = refl
woven_by_more w (c ∷ calls) more =
    let next = after_weaving w c.title c.sound in
    ap (λ t. woven w c.title c.sound ++ t) (woven_by_more next calls more)
    ∙ sym (append_assoc (woven w c.title c.sound) (woven_by_calls next calls) (woven_by_calls (after_calls next calls) more))

pub after_more : (w : Weaving) (calls more : List Call) → after_calls w (calls ++ more) ≡ after_calls (after_calls w calls) more
after_more w [] more = refl
after_more w (c ∷ calls) more = after_more (after_weaving w c.title c.sound) calls more

-- a weaver with no title sent yet carries whatever title there is
pub news_of_first : (title : Option (List ℕ)) → news_of title None ≡ title
news_of_first None = refl
news_of_first (Some title) = refl

-- one turn of the loop over whole intervals
pub woven_turn : (n place : ℕ) (news : Option (List ℕ)) (part later : List ℕ) → place < n → place + length part ≡ n
    → woven (from_place n place) news (part ++ later) ≡ part ++ (metadata_block news ++ woven (from_place n 0) None later)
woven_turn n place news part later inside whole =
    let w = from_place n place in
    woven_interval w news part later inside whole
    ∙ (ap (λ o. part ++ (metadata_block o ++ woven (at_block w news) news later)) (news_of_first news)
    ∙ ap (λ t. part ++ (metadata_block news ++ t)) (woven_news (at_block w news) (from_place n 0) news None later refl refl (news_of_sent news None)))

pub place_turn : (n place : ℕ) (news : Option (List ℕ)) (part later : List ℕ) → place < n → place + length part ≡ n
    → (after_weaving (from_place n place) news (part ++ later)).place ≡ (after_weaving (from_place n 0) None later).place
place_turn n place news part later inside whole =
    let w = from_place n place in
    ap (λ (v : Weaving). v.place) (after_interval w news part later inside whole) ∙ place_same (at_block w news) (from_place n 0) news None later refl refl

-- what begins with a list that begins with xs begins with xs
pub front_of_front : (n m : ℕ) (xs ys zs : List ℕ) → n ≤ m → take n ys ≡ xs → take m zs ≡ ys → take n zs ≡ xs
front_of_front n m xs ys zs le first second = sym (take-take n m zs le) ∙ (ap (take n) second ∙ first)

-- what has been written and what is to be woven, after one turn
pub written_turn : (out part block later out' out'' rest : List ℕ) → out' ≡ out ++ part → out'' ≡ out' ++ block → rest ≡ part ++ (block ++ later)
    → out'' ++ later ≡ out ++ rest
written_turn out part block later out' out'' rest first second turn = rw (second, first, turn) (simp append_assoc)

-- a list that begins with n bytes has at least n
pub front_fits : (n : ℕ) (xs out : List ℕ) → n ≡ length xs → take n out ≡ xs → n ≤ length out
front_fits n xs out size front = omega (arith, length-take n out, ap length front)

-- what is appended leaves the front
pub front_more : (n : ℕ) (xs out part : List ℕ) → n ≡ length xs → take n out ≡ xs → take n (out ++ part) ≡ xs
front_more n xs out part size front = take-append-le n out part (front_fits n xs out size front) ∙ front

-- weavers with equal parts are equal
pub same_weaving : (w v : Weaving) → w.interval ≡ v.interval → w.place ≡ v.place → w.sent ≡ v.sent → w ≡ v
same_weaving w v i p s =
    ap (λ (n : ℕ). record w { interval = n }) i
    ∙ (ap (λ (n : ℕ). record w { interval = v.interval; place = n }) p
    ∙ ap (λ (o : Option (List ℕ)). record v { sent = o }) s)

-- the last title sent, as the code keeps it
pub option_map-or : {X : Type 0} (f : X → List ℕ) (o p : Option X) → option_map f (option_or o p) ≡ sent_with (option_map f o) (option_map f p)
option_map-or f None p = refl
option_map-or f (Some x) p = refl
