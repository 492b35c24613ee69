-- What is woven of a list of calls is the woven stream: byte by byte with the title of each byte, then interval by interval.
use Rattle.std.proofs.Common.{◌≡◌, ℕ, zero, suc, ◌+◌, ◌-◌, ◌*◌, ◌<◌, ◌≤◌, List, [], ◌∷◌, ◌++◌, length, map, take, drop, get_or, Option, None, refl, arith, ap}
use Rattle.std.proofs.Common.{◌∙◌, sym, append_assoc}
use Rattle.std.proofs.lemmas.Bool.{lt-ltb, le-ltb}
use Rattle.std.proofs.lemmas.List.{length-append, length-map, length-drop, drop-drop, get_or-drop}
use Rattle.radio_icy.specs.Block.{metadata_block, news_of}
use Rattle.radio_icy.specs.Weaving.{Weaving, Call, new_weaving, woven, after_weaving, woven_by_calls, block_after_byte, after_woven_byte}
use Rattle.radio_icy.specs.Stream.{sound_of_calls, titles_of_calls, title_at, sent_before, woven_parts, interval_count, IsWoven, interval_sound}
use Rattle.radio_icy.proofs.WeavingLemmas.{at_block, moved}

-- the woven bytes of sound in which each byte has a title of its own
abbrev pub woven_titled : Weaving → List ℕ → List (Option (List ℕ)) → List ℕ
woven_titled w [] titles = []
woven_titled w (b ∷ sound) [] = []
woven_titled w (b ∷ sound) (title ∷ titles) = b ∷ (block_after_byte w title ++ woven_titled (after_woven_byte w title) sound titles)

-- the bytes of one call, and those of later ones
woven_titled-call : (w : Weaving) (title : Option (List ℕ)) (sound later : List ℕ) (titles : List (Option (List ℕ)))
    → woven_titled w (sound ++ later) (map (λ _. title) sound ++ titles) ≡ woven w title sound ++ woven_titled (after_weaving w title sound) later titles
woven_titled-call w title [] later titles = refl
woven_titled-call w title (b ∷ sound) later titles =
    ap (λ t. b ∷ (block_after_byte w title ++ t)) (woven_titled-call (after_woven_byte w title) title sound later titles)
    ∙ ap (λ t. b ∷ t) (sym
    (append_assoc (block_after_byte w title) (woven (after_woven_byte w title) title sound)
    (woven_titled (after_weaving (after_woven_byte w title) title sound) later titles)))

woven_by_calls-titled : (w : Weaving) (calls : List Call) → woven_by_calls w calls ≡ woven_titled w (sound_of_calls calls) (titles_of_calls calls)
woven_by_calls-titled w [] = refl
woven_by_calls-titled w (c ∷ calls) =
    ap (λ t. woven w c.title c.sound ++ t) (woven_by_calls-titled (after_weaving w c.title c.sound) calls)
    ∙ sym (woven_titled-call w c.title c.sound (sound_of_calls calls) (titles_of_calls calls))

length-titles_of_calls : (calls : List Call) → length (titles_of_calls calls) ≡ length (sound_of_calls calls)
length-titles_of_calls [] = refl
length-titles_of_calls (c ∷ calls) =
    length-append (map (λ _. c.title) c.sound) (titles_of_calls calls)
    ∙ omega (arith, length-map c.sound (λ _. c.title), length-titles_of_calls calls, length-append c.sound (sound_of_calls calls))

-- the rest of an interval with its block; `last` is the place of its last byte
interval_from : (last : ℕ) (w : Weaving) (sound : List ℕ) (titles : List (Option (List ℕ))) → w.place + suc last ≡ w.interval → last < length sound
    → last < length titles → woven_titled w sound titles
    ≡ take (suc last) sound
    ++ (metadata_block (news_of (get_or titles last None) w.sent)
    ++ woven_titled (at_block w (get_or titles last None)) (drop (suc last) sound) (drop (suc last) titles))
interval_from last w [] titles whole s t = absurd (omega arith)
interval_from last w (b ∷ sound) [] whole s t = absurd (omega arith)
interval_from zero w (b ∷ sound) (title ∷ titles) whole s t =
    let end : w.interval ≤ w.place + 1 = omega arith in
    rw (le-ltb (w.place + 1) w.interval end) refl
interval_from (suc last) w (b ∷ sound) (title ∷ titles) whole s t =
    let inside : w.place + 1 < w.interval = omega arith in
    rw (lt-ltb (w.place + 1) w.interval inside)
    (ap (λ u. b ∷ u) (interval_from last (moved w 1) sound titles (omega arith) (omega arith) (omega arith)))

interval_titled : (n last : ℕ) (w : Weaving) (sound : List ℕ) (titles : List (Option (List ℕ))) → n ≡ suc last → w.place + n ≡ w.interval
    → n ≤ length sound → n ≤ length titles → woven_titled w sound titles
    ≡ take n sound ++ (metadata_block (news_of (get_or titles last None) w.sent)
    ++ woven_titled (at_block w (get_or titles last None)) (drop n sound) (drop n titles))
interval_titled n last w sound titles size whole s t = rw size (interval_from last w sound titles (omega arith) (omega arith) (omega arith))

-- sound that does not end the interval
rest_titled : (w : Weaving) (sound : List ℕ) (titles : List (Option (List ℕ))) → w.place + length sound < w.interval → length titles ≡ length sound
    → woven_titled w sound titles ≡ sound
rest_titled w [] titles short size = refl
rest_titled w (b ∷ sound) [] short size = absurd (omega arith)
rest_titled w (b ∷ sound) (title ∷ titles) short size =
    let inside : w.place + 1 < w.interval = omega arith in
    rw (lt-ltb (w.place + 1) w.interval inside) (ap (λ u. b ∷ u) (rest_titled (moved w 1) sound titles (omega arith) (omega arith)))

-- a weaver after the first k parts of a stream
abbrev pub at_part : ℕ → List Call → ℕ → Weaving
at_part n calls k = record { interval = n; place = 0; sent = sent_before n calls k }

woven_by_parts : (n : ℕ) (calls : List Call) (k : ℕ) → 0 < n → n * k ≤ length (sound_of_calls calls)
    → woven_titled (new_weaving n) (sound_of_calls calls) (titles_of_calls calls)
    ≡ woven_parts n calls k ++ woven_titled (at_part n calls k) (drop (n * k) (sound_of_calls calls)) (drop (n * k) (titles_of_calls calls))
woven_by_parts n calls zero some fits = let none : n * 0 ≡ 0 = omega arith in rw none refl
woven_by_parts n calls (suc k) some fits =
    let w = at_part n calls k in
    let sound = sound_of_calls calls in
    let titles = titles_of_calls calls in
    let size : n * suc k ≡ n * k + n = omega arith in
    let title_is : get_or (drop (n * k) titles) (n - 1) None ≡ title_at n calls k = get_or-drop (n * k) titles (n - 1) None in
    let next = λ (title : Option (List ℕ)) (later : List ℕ) (rest : List (Option (List ℕ))). woven_parts n calls k
    ++ (interval_sound n calls k ++ (metadata_block (news_of title w.sent) ++ woven_titled (at_block w title) later rest)) in
    woven_by_parts n calls k some (omega arith)
    ∙ (ap (λ t. woven_parts n calls k ++ t)
    (interval_titled n (n - 1) w (drop (n * k) sound) (drop (n * k) titles) (omega arith) (omega arith)
    (omega (arith, length-drop (n * k) sound)) (omega (arith, length-drop (n * k) titles, length-titles_of_calls calls)))
    ∙ (ap (λ t. next t (drop n (drop (n * k) sound)) (drop n (drop (n * k) titles))) title_is
    ∙ (ap (λ t. next (title_at n calls k) t (drop n (drop (n * k) titles))) (drop-drop n (n * k) sound ∙ ap (λ (m : ℕ). drop m sound) (sym size))
    ∙ (ap (λ t. next (title_at n calls k) (drop (n * suc k) sound) t) (drop-drop n (n * k) titles ∙ ap (λ (m : ℕ). drop m titles) (sym size))
    ∙ simp append_assoc))))

-- the woven bytes of a list of calls, from the start of a stream
pub IsWoven-woven_by_calls : (n : ℕ) (calls : List Call) → 0 < n → IsWoven n calls (woven_by_calls (new_weaving n) calls)
IsWoven-woven_by_calls n calls some =
    let k = interval_count n calls in
    let sound = sound_of_calls calls in
    let titles = titles_of_calls calls in
    woven_by_calls-titled (new_weaving n) calls
    ∙ (woven_by_parts n calls k some (omega arith)
    ∙ ap (λ t. woven_parts n calls k ++ t)
    (rest_titled (at_part n calls k) (drop (n * k) sound) (drop (n * k) titles)
    (omega (arith, length-drop (n * k) sound))
    (omega (arith, length-drop (n * k) sound, length-drop (n * k) titles, length-titles_of_calls calls))))
