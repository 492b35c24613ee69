-- The slices that are drawn of blocks.
use Rattle.std.proofs.Common.{◌≡◌, ℕ, zero, suc, ◌+◌, ◌-◌, ◌<◌, ◌≤◌, min, Bool, true, false, List, [], ◌∷◌, ◌++◌, length, take, drop, map, ap, sym, ◌∙◌, refl}
use Rattle.std.proofs.Common.{slice_index_or, arith, length-append, append_assoc, append-nil, length-take, length-drop}
use Rattle.std.specs.Prelude.{nat_le}
use Rattle.std.specs.List.{concat}
use Rattle.std.proofs.lemmas.Bool.{leb-true, leb-false}
use Rattle.std.proofs.lemmas.List.{take-append-drop, take-append-le, drop_more, take_all, drop_all, drop-map, length-map}
use Rattle.std.proofs.lemmas.List.Folds.{concat-append}
use Rattle.std.proofs.Math.ListN.{get_or-map}
use Rattle.radio_blocks.specs.Chunk.{total, cut_by, all_blocks}
use Rattle.radio_blocks.specs.Parts.{slice_of, parts_of}
use Rattle.radio_blocks.specs.Queue.{bytes_behind}
use Rattle.radio_blocks.proofs.ChunkLemmas.{blocks_from, all_blocks-concat}
use Rattle.radio_blocks.proofs.QueueLemmas.{drop_twice, part_and_rest, sizes_from}

take_nothing : (n : ℕ) → take {A = ℕ} n [] ≡ []
take_nothing n = take_all n [] (omega arith)

take_twice : (n m : ℕ) (bytes : List ℕ) → take n (take m bytes) ≡ take (min n m) bytes
take_twice zero m bytes = let none : zero ≡ min zero m = omega arith in ap (λ (k : ℕ). take k bytes) none
take_twice (suc n) zero bytes =
    let none : zero ≡ min (suc n) zero = omega arith in take_nothing (suc n) ∙ ap (λ (k : ℕ). take k bytes) none
take_twice (suc n) (suc m) [] = sym (take_nothing (min (suc n) (suc m)))
take_twice (suc n) (suc m) (byte ∷ bytes) =
    let less : suc (min n m) ≡ min (suc n) (suc m) = omega arith in
    ap (λ (t : List ℕ). byte ∷ t) (take_twice n m bytes) ∙ ap (λ (k : ℕ). take k (byte ∷ bytes)) less

drop_of_take : (skip size : ℕ) (bytes : List ℕ) → drop skip (take size bytes) ≡ take (size - skip) (drop skip bytes)
drop_of_take zero size bytes = let same : size ≡ size - zero = omega arith in ap (λ (k : ℕ). take k bytes) same
drop_of_take (suc skip) zero bytes =
    let none : zero ≡ zero - suc skip = omega arith in ap (λ (k : ℕ). take k (drop (suc skip) bytes)) none
drop_of_take (suc skip) (suc size) [] = sym (take_nothing (suc size - suc skip))
drop_of_take (suc skip) (suc size) (byte ∷ bytes) =
    let less : size - skip ≡ suc size - suc skip = omega arith in
    drop_of_take skip size bytes ∙ ap (λ (k : ℕ). take k (drop skip bytes)) less

-- a part of a block, as a part of the bytes that it is cut from
part_at : (bytes : List ℕ) (from size skip left before : ℕ) (inside : Bool) → nat_le skip size ≡ inside → before ≡ min skip size
    → take (min left (size - skip)) (drop (from + skip) bytes) ≡ take (min left (size - before)) (drop (from + before) bytes)
part_at bytes from size skip left before true test is =
    let less = leb-true skip size test in
    let same : skip ≡ before = omega (arith, less, is) in
    ap (λ (n : ℕ). take (min left (size - n)) (drop (from + n) bytes)) same
part_at bytes from size skip left before false test is =
    let more = leb-false skip size test in
    let none : min left (size - skip) ≡ 0 = omega (arith, more) in
    let none_too : 0 ≡ min left (size - before) = omega (arith, more, is) in
    ap (λ (n : ℕ). take n (drop (from + skip) bytes)) none ∙ ap (λ (n : ℕ). take n (drop (from + before) bytes)) none_too

part_of_cut : (bytes : List ℕ) (from size skip left before : ℕ) → before ≡ min skip size
    → take left (drop skip (take size (drop from bytes))) ≡ take (min left (size - before)) (drop (from + before) bytes)
part_of_cut bytes from size skip left before is =
    ap (λ (t : List ℕ). take left t) (drop_of_take skip size (drop from bytes))
    ∙ (take_twice left (size - skip) (drop skip (drop from bytes))
    ∙ (ap (λ (t : List ℕ). take (min left (size - skip)) t) (drop_twice skip from bytes)
    ∙ part_at bytes from size skip left before (nat_le skip size) refl is))

-- one packed block more
pub cuts_more : (sizes bytes : List ℕ) (pushed more : List (List ℕ)) (index from skip left size before skip' left' : ℕ) → index < length sizes
    → size ≡ slice_index_or sizes index size → from + total (drop index sizes) ≡ length bytes → before ≡ min skip size
    → more ≡ pushed ++ slice_of (take (min left (size - before)) (drop (from + before) bytes))
    → skip' ≡ skip - before → left' ≡ left - (size - before)
    → more ++ parts_of skip' left' (cut_by (drop (index + 1) sizes) (drop (from + size) bytes))
    ≡ pushed ++ parts_of skip left (cut_by (drop index sizes) (drop from bytes))
cuts_more sizes bytes pushed more index from skip left size before skip' left' inside is fits before_is more_is skip_is left_is =
    let rest = drop (index + 1) sizes in
    let block = take size (drop from bytes) in
    let sizes_are : drop index sizes ≡ size ∷ rest = drop_more sizes index size inside ∙ ap (λ (n : ℕ). n ∷ rest) (sym is) in
    let all : total (drop index sizes) ≡ size + total rest = ap total sizes_are in
    let len : length block ≡ size = length-take size (drop from bytes) ∙ (let left_of = length-drop from bytes in omega (arith, left_of, all, fits)) in
    let skip_too : skip' ≡ skip - length block = omega (arith, skip_is, before_is, len) in
    let left_too : left' ≡ left - (length block - skip) = omega (arith, left_is, before_is, len) in
    let later = cut_by rest (drop (from + size) bytes) in
    ap (λ (t : List (List ℕ)). t ++ parts_of skip' left' later) more_is
    ∙ (append_assoc pushed (slice_of (take (min left (size - before)) (drop (from + before) bytes))) (parts_of skip' left' later)
    ∙ (ap (λ (t : List ℕ). pushed ++ (slice_of t ++ parts_of skip' left' later)) (sym (part_of_cut bytes from size skip left before before_is))
    ∙ (ap (λ (n : ℕ). pushed ++ (slice_of (take left (drop skip block)) ++ parts_of n left' later)) skip_too
    ∙ (ap (λ (n : ℕ). pushed ++ (slice_of (take left (drop skip block)) ++ parts_of (skip - length block) n later)) left_too
    ∙ (ap (λ (t : List ℕ). pushed ++ parts_of skip left (block ∷ cut_by rest t)) (sym (drop_twice size from bytes))
    ∙ ap (λ (t : List ℕ). pushed ++ parts_of skip left (cut_by t (drop from bytes))) (sym sizes_are))))))

pub total_from : (sizes : List ℕ) (index size : ℕ) → index < length sizes → size ≡ slice_index_or sizes index size
    → total (drop index sizes) ≡ size + total (drop (index + 1) sizes)
total_from sizes index size inside is = ap total (drop_more sizes index size inside) ∙ ap (λ (n : ℕ). n + total (drop (index + 1) sizes)) (sym is)

-- of no room there are no parts
pub parts_of-full : (skip left : ℕ) (blocks : List (List ℕ)) → left ≡ 0 → parts_of skip left blocks ≡ []
parts_of-full skip left [] none = refl
parts_of-full skip left (block ∷ blocks) none =
    ap (λ (n : ℕ). slice_of (take n (drop skip block)) ++ parts_of (skip - length block) (left - (length block - skip)) blocks) none
    ∙ parts_of-full (skip - length block) (left - (length block - skip)) blocks (omega (arith, none))

-- the parts of more blocks
parts_of-append : (skip room : ℕ) (blocks more : List (List ℕ)) → parts_of skip room (blocks ++ more)
    ≡ parts_of skip room blocks ++ parts_of (skip - length (concat blocks)) (room - (length (concat blocks) - skip)) more
parts_of-append skip room [] more =
    let same : skip ≡ skip - length {A = ℕ} [] = omega arith in
    let same_room : room ≡ room - (length {A = ℕ} [] - skip) = omega arith in
    ap (λ (n : ℕ). parts_of n room more) same ∙ ap (λ (n : ℕ). parts_of (skip - length {A = ℕ} []) n more) same_room
parts_of-append skip room (block ∷ blocks) more =
    let part = slice_of (take room (drop skip block)) in
    let later = skip - length block in
    let left = room - (length block - skip) in
    let sizes = length-append block (concat blocks) in
    let skips : later - length (concat blocks) ≡ skip - length (concat (block ∷ blocks)) = omega (arith, sizes) in
    let rooms : left - (length (concat blocks) - later) ≡ room - (length (concat (block ∷ blocks)) - skip) = omega (arith, sizes) in
    ap (λ (t : List (List ℕ)). part ++ t) (parts_of-append later left blocks more)
    ∙ (sym (append_assoc part (parts_of later left blocks) (parts_of (later - length (concat blocks)) (left - (length (concat blocks) - later)) more))
    ∙ (ap (λ (n : ℕ). parts_of skip room (block ∷ blocks) ++ parts_of n (left - (length (concat blocks) - later)) more) skips
    ∙ ap (λ (n : ℕ). parts_of skip room (block ∷ blocks) ++ parts_of (skip - length (concat (block ∷ blocks))) n more) rooms))

-- one chunk more
pub parts_more : (chunks : List (List (List ℕ))) (chunk pushed more : List (List ℕ)) (index skip left size skip' left' : ℕ) → index < length chunks
    → chunk ≡ slice_index_or chunks index chunk → size ≡ length (concat chunk) → more ≡ pushed ++ parts_of skip left chunk
    → skip' ≡ skip - size → left' ≡ left - (size - skip)
    → more ++ parts_of skip' left' (all_blocks (drop (index + 1) chunks)) ≡ pushed ++ parts_of skip left (all_blocks (drop index chunks))
parts_more chunks chunk pushed more index skip left size skip' left' inside is size_is more_is skip_is left_is =
    let rest = all_blocks (drop (index + 1) chunks) in
    let skip_too : skip' ≡ skip - length (concat chunk) = omega (arith, skip_is, size_is) in
    let left_too : left' ≡ left - (length (concat chunk) - skip) = omega (arith, left_is, size_is) in
    ap (λ (t : List (List ℕ)). t ++ parts_of skip' left' rest) more_is
    ∙ (append_assoc pushed (parts_of skip left chunk) (parts_of skip' left' rest)
    ∙ (ap (λ (n : ℕ). pushed ++ (parts_of skip left chunk ++ parts_of n left' rest)) skip_too
    ∙ (ap (λ (n : ℕ). pushed ++ (parts_of skip left chunk ++ parts_of (skip - length (concat chunk)) n rest)) left_too
    ∙ (ap (λ (t : List (List ℕ)). pushed ++ t) (sym (parts_of-append skip left chunk rest))
    ∙ ap (λ (t : List (List ℕ)). pushed ++ parts_of skip left t) (sym (blocks_from chunks index chunk inside is))))))

-- what stood in front is there still
pub still_front : (old pushed more : List (List ℕ)) → take (length old) pushed ≡ old → take (length pushed) more ≡ pushed → take (length old) more ≡ old
still_front old pushed more front kept =
    let sizes = sym (ap (λ (t : List (List ℕ)). length t) front) ∙ length-take (length old) pushed in
    let parts : more ≡ pushed ++ drop (length pushed) more
    = sym (take-append-drop (length pushed) more) ∙ ap (λ (t : List (List ℕ)). t ++ drop (length pushed) more) kept in
    ap (λ (t : List (List ℕ)). take (length old) t) parts
    ∙ (take-append-le (length old) pushed (drop (length pushed) more) (omega (arith, sizes)) ∙ front)

pub still_in_front : (old pushed more part : List (List ℕ)) → take (length old) pushed ≡ old → more ≡ pushed ++ part → take (length old) more ≡ old
still_in_front old pushed more part front is =
    let sizes = sym (ap (λ (t : List (List ℕ)). length t) front) ∙ length-take (length old) pushed in
    ap (λ (t : List (List ℕ)). take (length old) t) is ∙ (take-append-le (length old) pushed part (omega (arith, sizes)) ∙ front)

slice_of-concat : (bytes : List ℕ) (more : List (List ℕ)) → concat (slice_of bytes ++ more) ≡ bytes ++ concat more
slice_of-concat [] more = refl
slice_of-concat (byte ∷ bytes) more = refl

-- the bytes that are drawn
pub parts_of-concat : (skip room : ℕ) (blocks : List (List ℕ)) → concat (parts_of skip room blocks) ≡ take room (drop skip (concat blocks))
parts_of-concat skip room [] = sym (ap (λ (t : List ℕ). take room t) (drop_all skip [] (omega arith)) ∙ take_nothing room)
parts_of-concat skip room (block ∷ blocks) =
    let part = take room (drop skip block) in
    let rest = drop (skip - length block) (concat blocks) in
    let sizes = length-take room (drop skip block) in
    let left_of = length-drop skip block in
    let less : room - (length block - skip) ≡ room - length part = omega (arith, sizes, left_of) in
    slice_of-concat part (parts_of (skip - length block) (room - (length block - skip)) blocks)
    ∙ (ap (λ (t : List ℕ). part ++ t) (parts_of-concat (skip - length block) (room - (length block - skip)) blocks)
    ∙ (ap (λ (n : ℕ). part ++ take n rest) less ∙ sym (part_and_rest block (concat blocks) part skip room refl)))

-- the bytes of chunks from one of them on
pub behind-chunk : (chunks : List (List (List ℕ))) (index skip : ℕ)
    → bytes_behind index skip (map concat chunks) ≡ drop skip (concat (all_blocks (drop index chunks)))
behind-chunk chunks index skip =
    ap (λ (t : List (List ℕ)). drop skip (concat t)) (drop-map concat index chunks)
    ∙ ap (λ (t : List ℕ). drop skip t) (sym (all_blocks-concat (drop index chunks)))

pub parts-behind : (chunks : List (List (List ℕ))) (index skip room : ℕ)
    → concat (parts_of skip room (all_blocks (drop index chunks))) ≡ take room (bytes_behind index skip (map concat chunks))
parts-behind chunks index skip room =
    parts_of-concat skip room (all_blocks (drop index chunks)) ∙ ap (λ (t : List ℕ). take room t) (sym (behind-chunk chunks index skip))

-- a chunk among the bytes of chunks
pub bytes_at : (chunks : List (List (List ℕ))) (chunk : List (List ℕ)) (index : ℕ) → chunk ≡ slice_index_or chunks index chunk
    → concat chunk ≡ slice_index_or (map concat chunks) index (concat chunk)
bytes_at chunks chunk index is = ap concat is ∙ sym (get_or-map concat chunks index chunk)

-- the last chunk
pub last_bytes : (chunks : List (List (List ℕ))) (chunk : List (List ℕ)) (part : List ℕ) (index skip room : ℕ) → length chunks ≡ suc index
    → chunk ≡ slice_index_or chunks index chunk → part ≡ take room (drop skip (concat chunk))
    → part ≡ take room (bytes_behind index skip (map concat chunks))
last_bytes chunks chunk part index skip room last is part_is =
    let inside : index < length chunks = omega (arith, last) in
    let none : drop (index + 1) chunks ≡ [] = drop_all (index + 1) chunks (omega (arith, last)) in
    let blocks : all_blocks (drop index chunks) ≡ chunk
    = blocks_from chunks index chunk inside is ∙ (ap (λ (t : List (List (List ℕ))). chunk ++ all_blocks t) none ∙ append-nil chunk) in
    part_is
    ∙ (ap (λ (t : List (List ℕ)). take room (drop skip (concat t))) (sym blocks)
    ∙ ap (λ (t : List ℕ). take room t) (sym (behind-chunk chunks index skip)))

-- the bytes of the slices, where the parts of chunks came behind them
pub bytes_pushed : (chunks : List (List (List ℕ))) (old new : List (List ℕ)) (index skip room : ℕ)
    → new ≡ old ++ parts_of skip room (all_blocks (drop index chunks))
    → concat new ≡ concat old ++ take room (bytes_behind index skip (map concat chunks))
bytes_pushed chunks old new index skip room is =
    let parts = parts_of skip room (all_blocks (drop index chunks)) in
    ap concat is ∙ (concat-append old parts ∙ ap (λ (t : List ℕ). concat old ++ t) (parts-behind chunks index skip room))

-- all is pushed that is asked for, if no room is left or no chunk
pub pushed_full : (pushed asked : List (List ℕ)) (skip left : ℕ) (blocks : List (List ℕ)) → left ≤ 0 → pushed ++ parts_of skip left blocks ≡ asked → pushed ≡ asked
pushed_full pushed asked skip left blocks none is =
    sym (append-nil pushed) ∙ (ap (λ (t : List (List ℕ)). pushed ++ t) (sym (parts_of-full skip left blocks (omega (arith, none)))) ∙ is)

pub pushed_last : (pushed asked : List (List ℕ)) (skip left index : ℕ) (chunks : List (List (List ℕ))) → length chunks ≤ index
    → pushed ++ parts_of skip left (all_blocks (drop index chunks)) ≡ asked → pushed ≡ asked
pushed_last pushed asked skip left index chunks behind is =
    let none : drop index chunks ≡ [] = drop_all index chunks behind in
    sym (append-nil pushed) ∙ (ap (λ (t : List (List (List ℕ))). pushed ++ parts_of skip left (all_blocks t)) (sym none) ∙ is)

-- how many bytes there are from the chunk before one of them on
pub sizes_before : (chunks : List (List (List ℕ))) (chunk : List (List ℕ)) (before index : ℕ) → before + 1 ≡ index → index ≤ length chunks
    → chunk ≡ slice_index_or chunks before chunk
    → length (concat (drop before (map concat chunks))) ≡ length (concat chunk) + length (concat (drop index (map concat chunks)))
sizes_before chunks chunk before index next below is =
    let count = length-map chunks concat in
    sizes_from (map concat chunks) before index (concat chunk) next (omega (arith, count, below)) (bytes_at chunks chunk before is)
