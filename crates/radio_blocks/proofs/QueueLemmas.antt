-- The tail of a stream that a queue keeps, and the slices that are drawn of it.
use Rattle.std.proofs.Common.{◌≡◌, ℕ, zero, suc, ◌+◌, ◌-◌, ◌<◌, ◌≤◌, min, Bool, true, false, List, [], ◌∷◌, ◌++◌, length, take, drop, ap, sym, ◌∙◌, refl}
use Rattle.std.proofs.Common.{subst, inl, inr, slice_index_or, Some, arith, length-append, append_assoc, append-nil}
use Rattle.std.specs.Prelude.{nat_le, ◌⊎◌, Option, None, find, unwrap_or, if◌then◌else◌}
use Rattle.std.specs.Option.{option_or}
use Rattle.std.specs.List.{concat}
use Rattle.std.proofs.lemmas.Bool.{le-leb, lt-leb, leb-false, leb-true}
use Rattle.std.proofs.lemmas.List.{take-append-drop, drop_min, drop_all, drop_more}
use Rattle.std.proofs.lemmas.List.Folds.{concat-append, find-append}
use Rattle.std.proofs.Math.Seq.{drop-append-add, drop-append_seam}
use Rattle.radio_blocks.proofs.BlockLemmas.{concat-push}
use Rattle.radio_blocks.specs.Chunk.{starts_of}
use Rattle.radio_blocks.specs.Queue.{KeptTail, nothing_kept, kept_end, shortest_tail, trimmed, with_pushed, starts_from, bytes_behind}
use Rattle.radio_blocks.specs.QueueLaws.{with_all, tail_after, IsShortestTail}

-- the bytes of the slices before one of them, and of those from it on
concat-parts : (slices : List (List ℕ)) (index : ℕ) → concat (take index slices) ++ concat (drop index slices) ≡ concat slices
concat-parts slices index = sym (concat-append (take index slices) (drop index slices)) ∙ ap concat (take-append-drop index slices)

-- the last bytes begin in a slice
pub tail_at : (slices : List (List ℕ)) (index lag skip : ℕ) → lag + skip ≡ length (concat (drop index slices))
    → bytes_behind index skip slices ≡ drop (length (concat slices) - lag) (concat slices)
tail_at slices index lag skip is =
    let before = concat (take index slices) in
    let behind = concat (drop index slices) in
    let parts = concat-parts slices index in
    let total : length (concat slices) ≡ length before + length behind = sym (ap (λ (t : List ℕ). length t) parts) ∙ length-append before behind in
    let here : length (concat slices) - lag ≡ length before + skip = omega (arith, total, is) in
    sym (ap (λ (n : ℕ). drop n (concat slices)) here
    ∙ (ap (λ (t : List ℕ). drop (length before + skip) t) (sym parts) ∙ drop-append-add before behind skip))

-- what is kept at a place, counted from the end
pub kept_at : (bytes : List ℕ) (offset place lag : ℕ) → offset ≤ place → lag ≡ (offset + length bytes) - place
    → drop (length bytes - lag) bytes ≡ drop (place - offset) bytes
kept_at bytes offset place lag inside is =
    let here : length bytes - lag ≡ min (place - offset) (length bytes) = omega (arith, inside, is) in
    ap (λ (n : ℕ). drop n bytes) here ∙ drop_min (place - offset) bytes

pub drop_twice : (n m : ℕ) (xs : List ℕ) → drop n (drop m xs) ≡ drop (m + n) xs
drop_twice n zero xs = let same : n ≡ zero + n = omega arith in ap (λ (k : ℕ). drop k xs) same
drop_twice n (suc m) [] = drop_all n [] (omega arith) ∙ sym (drop_all (suc m + n) [] (omega arith))
drop_twice n (suc m) (x ∷ xs) = let same : suc (m + n) ≡ suc m + n = omega arith in drop_twice n m xs ∙ ap (λ (k : ℕ). drop k (x ∷ xs)) same

-- a stream at a place behind the offset
pub stream_at : (stream bytes : List ℕ) (offset place : ℕ) → offset ≤ place → drop offset stream ≡ bytes → drop (place - offset) bytes ≡ drop place stream
stream_at stream bytes offset place inside ends =
    let here : offset + (place - offset) ≡ place = omega (arith, inside) in
    ap (λ (t : List ℕ). drop (place - offset) t) (sym ends) ∙ (drop_twice (place - offset) offset stream ∙ ap (λ (n : ℕ). drop n stream) here)

drop_over : (n : ℕ) (xs ys : List ℕ) → drop n (xs ++ ys) ≡ drop n xs ++ drop (n - length xs) ys
drop_over zero xs ys = let none : zero ≡ zero - length xs = omega arith in ap (λ (n : ℕ). xs ++ drop n ys) none
drop_over (suc n) [] ys = let same : suc n ≡ suc n - length {A = ℕ} [] = omega arith in ap (λ (k : ℕ). drop k ys) same
drop_over (suc n) (x ∷ xs) ys =
    let less : n - length xs ≡ suc n - length (x ∷ xs) = omega arith in drop_over n xs ys ∙ ap (λ (m : ℕ). drop n xs ++ drop m ys) less

take_over : (n : ℕ) (xs ys : List ℕ) → take n (xs ++ ys) ≡ take n xs ++ take (n - length (take n xs)) ys
take_over zero xs ys = refl
take_over (suc n) [] ys = let same : suc n ≡ suc n - length {A = ℕ} [] = omega arith in ap (λ (k : ℕ). take k ys) same
take_over (suc n) (x ∷ xs) ys =
    let less : n - length (take n xs) ≡ suc n - length (x ∷ take n xs) = omega arith in
    ap (λ (t : List ℕ). x ∷ t) (take_over n xs ys ∙ ap (λ (m : ℕ). take n xs ++ take m ys) less)

-- a slice, and what is drawn of those behind it
pub part_and_rest : (slice rest part : List ℕ) (skip room : ℕ) → part ≡ take room (drop skip slice)
    → take room (drop skip (slice ++ rest)) ≡ part ++ take (room - length part) (drop (skip - length slice) rest)
part_and_rest slice rest part skip room is =
    ap (λ (t : List ℕ). take room t) (drop_over skip slice rest)
    ∙ (take_over room (drop skip slice) (drop (skip - length slice) rest)
    ∙ ap (λ (p : List ℕ). p ++ take (room - length p) (drop (skip - length slice) rest)) (sym is))

-- the first start, of those from here on, that is at most so many bytes before the end
abbrev pub first_within : ℕ → ℕ → ℕ → List (List ℕ) → ℕ
first_within end burst here blocks = unwrap_or (find (λ start. nat_le (end - start) burst) (starts_from here blocks)) end

-- of sizes, it is here if here is a start
pub start_here : (end burst here : ℕ) (sizes : List ℕ) → 0 < length sizes → end - here ≤ burst
    → Some here ≡ find (λ place. nat_le (end - place) burst) (starts_of here sizes)
start_here end burst here [] some near = absurd (omega (arith, some))
start_here end burst here (size ∷ sizes) some near =
    ap (λ (b : Bool). if b then Some here else find (λ place. nat_le (end - place) burst) (starts_of (here + size) sizes)) (sym (le-leb (end - here) burst near))

-- how many bytes blocks have, the first of which are these
pub sizes_of : (blocks more all : List (List ℕ)) → all ≡ blocks ++ more → length (concat all) ≡ length (concat blocks) + length (concat more)
sizes_of blocks more all is =
    ap (λ (t : List (List ℕ)). length (concat t)) is
    ∙ (ap (λ (t : List ℕ). length t) (concat-append blocks more) ∙ length-append (concat blocks) (concat more))

starts_from-append : (here : ℕ) (blocks more : List (List ℕ)) → starts_from here (blocks ++ more) ≡ starts_from here blocks ++ starts_from (here + length (concat blocks)) more
starts_from-append here [] more = let same : here ≡ here + length {A = ℕ} [] = omega arith in ap (λ (n : ℕ). starts_from n more) same
starts_from-append here (block ∷ blocks) more =
    let sizes = length-append block (concat blocks) in
    let next : (here + length block) + length (concat blocks) ≡ here + length (concat (block ∷ blocks)) = omega (arith, sizes) in
    ap (λ (t : List ℕ). here ∷ t)
    (starts_from-append (here + length block) blocks more
    ∙ ap (λ (n : ℕ). starts_from (here + length block) blocks ++ starts_from n more) next)

-- it is among the first blocks, or else among the others
first_of_parts : (end burst here : ℕ) (blocks more : List (List ℕ)) (found : Option ℕ)
    → find (λ start. nat_le (end - start) burst) (starts_from here blocks) ≡ found
    → first_within end burst here (blocks ++ more)
    ≡ unwrap_or (option_or found (find (λ start. nat_le (end - start) burst) (starts_from (here + length (concat blocks)) more))) end
first_of_parts end burst here blocks more found is =
    let near : ℕ → Bool = λ start. nat_le (end - start) burst in
    ap (λ (t : List ℕ). unwrap_or (find near t) end) (starts_from-append here blocks more)
    ∙ (ap (λ (t : Option ℕ). unwrap_or t end) (find-append near (starts_from here blocks) (starts_from (here + length (concat blocks)) more))
    ∙ ap (λ (t : Option ℕ). unwrap_or (option_or t (find near (starts_from (here + length (concat blocks)) more))) end) is)

pub first_among : (end burst here start : ℕ) (blocks more : List (List ℕ)) → Some start ≡ find (λ start. nat_le (end - start) burst) (starts_from here blocks)
    → start ≡ first_within end burst here (blocks ++ more)
first_among end burst here start blocks more is = sym (first_of_parts end burst here blocks more (Some start) (sym is))

pub first_behind : (end burst here next : ℕ) (blocks more : List (List ℕ)) → None ≡ find (λ start. nat_le (end - start) burst) (starts_from here blocks)
    → next ≡ here + length (concat blocks) → first_within end burst next more ≡ first_within end burst here (blocks ++ more)
first_behind end burst here next blocks more is next_is =
    ap (λ (n : ℕ). first_within end burst n more) next_is ∙ sym (first_of_parts end burst here blocks more None (sym is))

-- the bytes from a slice on, and from the next one on
pub bytes_from : (slices : List (List ℕ)) (index : ℕ) (slice : List ℕ) → index < length slices → slice ≡ slice_index_or slices index slice
    → concat (drop index slices) ≡ slice ++ concat (drop (index + 1) slices)
bytes_from slices index slice inside is =
    ap concat (drop_more slices index slice inside) ∙ ap (λ (s : List ℕ). s ++ concat (drop (index + 1) slices)) (sym is)

pub sizes_from : (slices : List (List ℕ)) (before index : ℕ) (slice : List ℕ) → before + 1 ≡ index → index ≤ length slices
    → slice ≡ slice_index_or slices before slice
    → length (concat (drop before slices)) ≡ length slice + length (concat (drop index slices))
sizes_from slices before index slice next inside is =
    ap (λ (t : List ℕ). length t) (bytes_from slices before slice (omega (arith, next, inside)) is)
    ∙ (length-append slice (concat (drop (before + 1) slices)) ∙ ap (λ (n : ℕ). length slice + length (concat (drop n slices))) next)

-- the size of a queue with one more block
pub one_more : (blocks more : List (List ℕ)) (block : List ℕ) → more ≡ blocks ++ block ∷ [] → length (concat more) ≡ length (concat blocks) + length block
one_more blocks more block is =
    ap (λ (t : List (List ℕ)). length (concat t)) is ∙ (ap (λ (t : List ℕ). length t) (concat-push blocks block) ∙ length-append (concat blocks) block)

shortest_at_first : (slice : List ℕ) (slices : List (List ℕ)) (lag : ℕ) → length (concat slices) < lag → slice ∷ slices ≡ shortest_tail lag (slice ∷ slices)
shortest_at_first slice slices lag few =
    let none : nat_le lag (length (concat slices)) ≡ false = lt-leb lag (length (concat slices)) few in
    sym (ap (λ (b : Bool). if b then shortest_tail lag slices else slice ∷ slices) none)

shortest_at_index : (slices : List (List ℕ)) (index lag : ℕ) → index < length slices → length (concat (drop (suc index) slices)) < lag
    → lag ≤ length (concat (drop index slices)) → drop index slices ≡ shortest_tail lag slices
shortest_at_index [] index lag inside few enough = absurd (omega (arith, inside))
shortest_at_index (slice ∷ slices) zero lag inside few enough = shortest_at_first slice slices lag few
shortest_at_index (slice ∷ slices) (suc index) lag inside few enough =
    let parts = ap (λ (t : List ℕ). length t) (concat-parts slices index) in
    let sizes = length-append (concat (take index slices)) (concat (drop index slices)) in
    let all : lag ≤ length (concat slices) = omega (arith, parts, sizes, enough) in
    let yes_too : nat_le lag (length (concat slices)) ≡ true = le-leb lag (length (concat slices)) all in
    shortest_at_index slices index lag (omega (arith, inside)) few enough
    ∙ sym (ap (λ (b : Bool). if b then shortest_tail lag slices else slice ∷ slices) yes_too)

-- the fewest last slices that have so many bytes begin at the last one from which on there are so many
pub shortest_from : (slices : List (List ℕ)) (index next lag : ℕ) → index < length slices → next ≡ suc index → length (concat (drop next slices)) < lag
    → lag ≤ length (concat (drop index slices)) → drop index slices ≡ shortest_tail lag slices
shortest_from slices index next lag inside is few enough =
    let same = ap (λ (n : ℕ). length (concat (drop n slices))) is in
    shortest_at_index slices index lag inside (omega (arith, few, same)) enough

pub shortest_none : (slices : List (List ℕ)) → [] ≡ shortest_tail 0 slices
shortest_none [] = refl
shortest_none (slice ∷ slices) =
    let yes_too : nat_le 0 (length (concat slices)) ≡ true = le-leb 0 (length (concat slices)) (omega arith) in
    shortest_none slices ∙ sym (ap (λ (b : Bool). if b then shortest_tail 0 slices else slice ∷ slices) yes_too)

shortest-here : (limit : ℕ) (block : List ℕ) (blocks more : List (List ℕ)) (enough : Bool) → nat_le limit (length (concat blocks)) ≡ enough
    → shortest_tail limit (shortest_tail limit blocks ++ more) ≡ shortest_tail limit (blocks ++ more)
    → shortest_tail limit ((if enough then shortest_tail limit blocks else block ∷ blocks) ++ more) ≡ shortest_tail limit (block ∷ blocks ++ more)
shortest-here limit block blocks more true e later =
    let sizes = ap (λ (t : List ℕ). length t) (concat-append blocks more) ∙ length-append (concat blocks) (concat more) in
    let here = leb-true limit (length (concat blocks)) e in
    let yes_too : nat_le limit (length (concat (blocks ++ more))) ≡ true = le-leb limit (length (concat (blocks ++ more))) (omega (arith, sizes, here)) in
    later ∙ sym (ap (λ (b : Bool). if b then shortest_tail limit (blocks ++ more) else block ∷ blocks ++ more) yes_too)
shortest-here limit block blocks more false e later = refl

-- the tail of a tail with more behind it
shortest-over : (limit : ℕ) (blocks more : List (List ℕ)) → shortest_tail limit (shortest_tail limit blocks ++ more) ≡ shortest_tail limit (blocks ++ more)
shortest-over limit [] more = refl
shortest-over limit (block ∷ blocks) more =
    shortest-here limit block blocks more (nat_le limit (length (concat blocks))) refl (shortest-over limit blocks more)

is_nil : (front shorter : List (List ℕ)) → [] ≡ front ++ shorter → front ≡ []
is_nil [] shorter e = refl
is_nil (block ∷ front) shorter e = cc

same_tails : (block : List ℕ) (blocks : List (List ℕ)) (first : List ℕ) (others : List (List ℕ)) → block ∷ blocks ≡ first ∷ others → blocks ≡ others
same_tails block blocks first others e = cc

no_shorter : (limit : ℕ) (block : List ℕ) (blocks front shorter : List (List ℕ)) → length (concat blocks) < limit → block ∷ blocks ≡ front ++ shorter
    → limit ≤ length (concat shorter) → front ≡ []
no_shorter limit block blocks [] shorter few e h = refl
no_shorter limit block blocks (first ∷ front) shorter few e h =
    let sizes = ap (λ (t : List (List ℕ)). length (concat t)) (same_tails block blocks first (front ++ shorter) e)
    ∙ (ap (λ (t : List ℕ). length t) (concat-append front shorter) ∙ length-append (concat front) (concat shorter)) in
    absurd (omega (arith, sizes, few, h))

some_enough : (limit : ℕ) (blocks tail dropped : List (List ℕ)) → limit ≤ length (concat blocks) → blocks ≡ dropped ++ tail
    → (dropped ≡ []) ⊎ (limit ≤ length (concat tail)) → limit ≤ length (concat tail)
some_enough limit blocks tail dropped enough e (inl none) =
    let sizes : length (concat blocks) ≡ length (concat tail)
    = ap (λ (t : List (List ℕ)). length (concat t)) (e ∙ ap (λ (t : List (List ℕ)). t ++ tail) none) in
    omega (arith, sizes, enough)
some_enough limit blocks tail dropped enough e (inr h) = h

shortest_at : (limit : ℕ) (block : List ℕ) (blocks : List (List ℕ)) (enough : Bool) → nat_le limit (length (concat blocks)) ≡ enough
    → IsShortestTail limit blocks (shortest_tail limit blocks)
    → IsShortestTail limit (block ∷ blocks) (if enough then shortest_tail limit blocks else block ∷ blocks)
shortest_at limit block blocks true e later = record {
  dropped = block ∷ later.dropped;
  whole_blocks = ap (λ (t : List (List ℕ)). block ∷ t) later.whole_blocks;
  enough =
      let some = leb-true limit (length (concat blocks)) e in
      inr (some_enough limit blocks (shortest_tail limit blocks) later.dropped some later.whole_blocks later.enough);
  shortest = later.shortest;
}
shortest_at limit block blocks false e later = record {
  dropped = [];
  whole_blocks = refl;
  enough = inl refl;
  shortest = λ front shorter same h. no_shorter limit block blocks front shorter (leb-false limit (length (concat blocks)) e) same h;
}

shortest_is : (limit : ℕ) (blocks : List (List ℕ)) → IsShortestTail limit blocks (shortest_tail limit blocks)
shortest_is limit [] = record { dropped = []; whole_blocks = refl; enough = inl refl; shortest = λ front shorter same h. is_nil front shorter same }
shortest_is limit (block ∷ blocks) = shortest_at limit block blocks (nat_le limit (length (concat blocks))) refl (shortest_is limit blocks)

-- how long the stream is: what was dropped, and what is kept
shortest-sizes : (limit : ℕ) (blocks : List (List ℕ))
    → length (concat blocks) ≡ length (concat (shortest_is limit blocks).dropped) + length (concat (shortest_tail limit blocks))
shortest-sizes limit blocks =
    let is = shortest_is limit blocks in
    ap (λ (t : List (List ℕ)). length (concat t)) is.whole_blocks
    ∙ (ap (λ (t : List ℕ). length t) (concat-append is.dropped (shortest_tail limit blocks))
    ∙ length-append (concat is.dropped) (concat (shortest_tail limit blocks)))

-- trimming moves no end
pub trimmed-end : (tail : KeptTail) → kept_end (trimmed tail) ≡ kept_end tail
trimmed-end tail = let sizes = shortest-sizes tail.limit tail.blocks in omega (arith, sizes)

-- a queue keeps the tail of what came
record Keeps (limit : ℕ) (came : List (List ℕ)) (tail : KeptTail) : Type 0 where
  pub bound : tail.limit ≡ limit
  pub blocks : tail.blocks ≡ shortest_tail limit came
  pub ends : kept_end tail ≡ length (concat came)

keeps_more : (limit : ℕ) (came : List (List ℕ)) (tail : KeptTail) (block : List ℕ) → Keeps limit came tail
    → Keeps limit (came ++ block ∷ []) (with_pushed tail block)
keeps_more limit came tail block keeps =
    let longer : KeptTail = record tail { blocks = tail.blocks ++ block ∷ [] } in
    let kept : length (concat (tail.blocks ++ block ∷ [])) ≡ length (concat tail.blocks) + length block
    = ap (λ (t : List ℕ). length t) (concat-push tail.blocks block) ∙ length-append (concat tail.blocks) block in
    let all : length (concat (came ++ block ∷ [])) ≡ length (concat came) + length block
    = ap (λ (t : List ℕ). length t) (concat-push came block) ∙ length-append (concat came) block in
    let end = trimmed-end longer in
    let before = keeps.ends in
    record {
      bound = keeps.bound;
      blocks = ap (λ (n : ℕ). shortest_tail n (tail.blocks ++ block ∷ [])) keeps.bound
          ∙ (ap (λ (t : List (List ℕ)). shortest_tail limit (t ++ block ∷ [])) keeps.blocks ∙ shortest-over limit came (block ∷ []));
      ends = end ∙ omega (arith, kept, all, before);
    }

keeps_all : (limit : ℕ) (came : List (List ℕ)) (tail : KeptTail) (blocks : List (List ℕ)) → Keeps limit came tail
    → Keeps limit (came ++ blocks) (with_all tail blocks)
keeps_all limit came tail [] keeps = subst (λ (t : List (List ℕ)). Keeps limit t tail) (sym (append-nil came)) keeps
keeps_all limit came tail (block ∷ blocks) keeps =
    subst (λ (t : List (List ℕ)). Keeps limit t (with_all (with_pushed tail block) blocks)) (append_assoc came (block ∷ []) blocks)
    (keeps_all limit (came ++ block ∷ []) (with_pushed tail block) blocks (keeps_more limit came tail block keeps))

keeps_after : (limit : ℕ) (blocks : List (List ℕ)) → Keeps limit blocks (tail_after limit blocks)
keeps_after limit blocks = keeps_all limit [] (nothing_kept limit) blocks (record { bound = refl; blocks = refl; ends = refl })

pub tail_after-shortest : (limit : ℕ) (blocks : List (List ℕ)) → IsShortestTail limit blocks (tail_after limit blocks).blocks
tail_after-shortest limit blocks =
    subst (λ (t : List (List ℕ)). IsShortestTail limit blocks t) (sym (keeps_after limit blocks).blocks) (shortest_is limit blocks)

pub tail_after-end : (limit : ℕ) (blocks : List (List ℕ)) → kept_end (tail_after limit blocks) ≡ length (concat blocks)
tail_after-end limit blocks = (keeps_after limit blocks).ends

pub tail_after-stream : (limit : ℕ) (blocks : List (List ℕ)) → drop (tail_after limit blocks).offset (concat blocks) ≡ concat (tail_after limit blocks).blocks
tail_after-stream limit blocks =
    let is = tail_after-shortest limit blocks in
    let tail = tail_after limit blocks in
    let end = tail_after-end limit blocks in
    let parts : concat blocks ≡ concat is.dropped ++ concat tail.blocks = ap concat is.whole_blocks ∙ concat-append is.dropped tail.blocks in
    let sizes = ap (λ (t : List ℕ). length t) parts ∙ length-append (concat is.dropped) (concat tail.blocks) in
    let here : tail.offset ≡ length (concat is.dropped) = omega (arith, end, sizes) in
    ap (λ (n : ℕ). drop n (concat blocks)) here
    ∙ (ap (λ (t : List ℕ). drop (length (concat is.dropped)) t) parts ∙ drop-append_seam (concat is.dropped) (concat tail.blocks))

-- of too few blocks none is dropped
shortest_few : (limit : ℕ) (blocks : List (List ℕ)) → length (concat blocks) < limit → shortest_tail limit blocks ≡ blocks
shortest_few limit [] few = refl
shortest_few limit (block ∷ blocks) few =
    let sizes = length-append block (concat blocks) in
    sym (shortest_at_first block blocks limit (omega (arith, sizes, few)))

pub trimmed_few : (tail : KeptTail) → length (concat tail.blocks) < tail.limit → trimmed tail ≡ tail
trimmed_few tail few =
    let here : kept_end tail - length (concat tail.blocks) ≡ tail.offset = omega arith in
    ap (λ (t : List (List ℕ)). record tail { offset = kept_end tail - length (concat t); blocks = t }) (shortest_few tail.limit tail.blocks few)
    ∙ ap (λ (n : ℕ). record tail { offset = n }) here
