-- Chunks: blocks that share a piece of memory.
use Rattle.std.proofs.Common.{◌≡◌, ℕ, ◌+◌, ◌<◌, ◌≤◌, List, [], ◌∷◌, ◌++◌, length, take, drop, map, ap, sym, ◌∙◌, refl}
use Rattle.std.proofs.Common.{get_or, Some, arith, length-append, append_assoc, append-nil, length-take, length-drop}
use Rattle.std.specs.Prelude.{Option, None}
use Rattle.std.specs.List.{concat}
use Rattle.std.proofs.lemmas.List.{take-append-drop, take-append-le, drop-append-le, nil_from_length, drop_more, take_all}
use Rattle.std.proofs.lemmas.List.Folds.{concat-append}
use Rattle.radio_blocks.specs.Chunk.{total, cut_by, blocks_in, Fit, all_blocks, starts_of}
use Rattle.radio_blocks.specs.Queue.{starts_from}

-- bytes that are cut are the same bytes
pub cut_by-concat : (sizes bytes : List ℕ) → total sizes ≡ length bytes → concat (cut_by sizes bytes) ≡ bytes
cut_by-concat [] bytes fits = sym (nil_from_length bytes (sym fits))
cut_by-concat (size ∷ sizes) bytes fits =
    let left = length-drop size bytes in
    ap (λ (t : List ℕ). take size bytes ++ t) (cut_by-concat sizes (drop size bytes) (omega (arith, left, fits)))
    ∙ take-append-drop size bytes

-- a chunk has the bytes of its blocks
pub blocks_in-concat : (sizes : Option (List ℕ)) (bytes : List ℕ) → Fit sizes bytes → concat (blocks_in sizes bytes) ≡ bytes
blocks_in-concat None bytes fit = append-nil bytes
blocks_in-concat (Some sizes) bytes fit = cut_by-concat sizes bytes fit.1

cut_by-some : (sizes bytes : List ℕ) → 0 < length sizes → 0 < length (cut_by sizes bytes)
cut_by-some [] bytes some = absurd (omega (arith, some))
cut_by-some (size ∷ sizes) bytes some = omega arith

-- and a block at least
pub blocks_in-some : (sizes : Option (List ℕ)) (bytes : List ℕ) → Fit sizes bytes → 0 < length (blocks_in sizes bytes)
blocks_in-some None bytes fit = omega arith
blocks_in-some (Some sizes) bytes fit = cut_by-some sizes bytes fit.0

-- one more block that is packed
pub cut_by-push : (sizes bytes block : List ℕ) (size : ℕ) → total sizes ≡ length bytes → size ≡ length block
    → cut_by (sizes ++ size ∷ []) (bytes ++ block) ≡ cut_by sizes bytes ++ block ∷ []
cut_by-push [] bytes block size fits is =
    let none : bytes ≡ [] = nil_from_length bytes (sym fits) in
    ap (λ (t : List ℕ). take size (t ++ block) ∷ []) none ∙ ap (λ (t : List ℕ). t ∷ []) (take_all size block (omega (arith, is)))
cut_by-push (first ∷ sizes) bytes block size fits is =
    let left = length-drop first bytes in
    let inside : first ≤ length bytes = omega (arith, fits) in
    ap (λ (t : List ℕ). t ∷ cut_by (sizes ++ size ∷ []) (drop first (bytes ++ block))) (take-append-le first bytes block inside)
    ∙ (ap (λ (t : List ℕ). take first bytes ∷ cut_by (sizes ++ size ∷ []) t) (drop-append-le first bytes block inside)
    ∙ ap (λ (t : List (List ℕ)). take first bytes ∷ t) (cut_by-push sizes (drop first bytes) block size (omega (arith, left, fits)) is))

pub total-push : (sizes : List ℕ) (size : ℕ) → total (sizes ++ size ∷ []) ≡ total sizes + size
total-push [] size = omega arith
total-push (first ∷ sizes) size = let more = total-push sizes size in omega (arith, more)

-- where packed blocks start
pub starts_from-cut : (sizes bytes : List ℕ) (here : ℕ) → total sizes ≡ length bytes → starts_from here (cut_by sizes bytes) ≡ starts_of here sizes
starts_from-cut [] bytes here fits = refl
starts_from-cut (size ∷ sizes) bytes here fits =
    let front = length-take size bytes in
    let left = length-drop size bytes in
    let next : here + length (take size bytes) ≡ here + size = omega (arith, front, fits) in
    ap (λ (n : ℕ). here ∷ starts_from n (cut_by sizes (drop size bytes))) next
    ∙ ap (λ (t : List ℕ). here ∷ t) (starts_from-cut sizes (drop size bytes) (here + size) (omega (arith, left, fits)))

-- the blocks of more chunks
pub all_blocks-append : (chunks more : List (List (List ℕ))) → all_blocks (chunks ++ more) ≡ all_blocks chunks ++ all_blocks more
all_blocks-append [] more = refl
all_blocks-append (chunk ∷ chunks) more =
    ap (λ (t : List (List ℕ)). chunk ++ t) (all_blocks-append chunks more) ∙ sym (append_assoc chunk (all_blocks chunks) (all_blocks more))

pub all_blocks-push : (chunks : List (List (List ℕ))) (chunk : List (List ℕ)) → all_blocks (chunks ++ chunk ∷ []) ≡ all_blocks chunks ++ chunk
all_blocks-push chunks chunk = all_blocks-append chunks (chunk ∷ []) ∙ ap (λ (t : List (List ℕ)). all_blocks chunks ++ t) (append-nil chunk)

-- chunks that are packed into one
pub all_blocks-packed : (chunks kept : List (List (List ℕ))) (chunk : List (List ℕ)) (from : ℕ) → kept ≡ take from chunks ++ chunk ∷ []
    → chunk ≡ all_blocks (drop from chunks) → all_blocks kept ≡ all_blocks chunks
all_blocks-packed chunks kept chunk from kept_is chunk_is =
    ap all_blocks kept_is
    ∙ (all_blocks-push (take from chunks) chunk
    ∙ (ap (λ (t : List (List ℕ)). all_blocks (take from chunks) ++ t) chunk_is
    ∙ (sym (all_blocks-append (take from chunks) (drop from chunks)) ∙ ap all_blocks (take-append-drop from chunks))))

-- the bytes of all chunks
pub all_blocks-concat : (chunks : List (List (List ℕ))) → concat (all_blocks chunks) ≡ concat (map concat chunks)
all_blocks-concat [] = refl
all_blocks-concat (chunk ∷ chunks) =
    concat-append chunk (all_blocks chunks) ∙ ap (λ (t : List ℕ). concat chunk ++ t) (all_blocks-concat chunks)

-- the blocks from a chunk on, and from the next one on
pub blocks_from : (chunks : List (List (List ℕ))) (index : ℕ) (chunk : List (List ℕ)) → index < length chunks → chunk ≡ get_or chunks index chunk
    → all_blocks (drop index chunks) ≡ chunk ++ all_blocks (drop (index + 1) chunks)
blocks_from chunks index chunk inside is =
    ap all_blocks (drop_more chunks index chunk inside) ∙ ap (λ (t : List (List ℕ)). t ++ all_blocks (drop (index + 1) chunks)) (sym is)

first_of_both : (first more chunk : List (List ℕ)) → chunk ≡ first → 0 < length chunk → get_or (first ++ more) 0 [] ≡ get_or chunk 0 []
first_of_both [] more [] is some = absurd (omega (arith, some))
first_of_both [] more (block ∷ blocks) is some = cc
first_of_both (block ∷ blocks) more chunk is some = sym (ap (λ (t : List (List ℕ)). get_or t 0 []) is)

-- the first block of the first chunk
pub first_block_of : (chunks : List (List (List ℕ))) (chunk : List (List ℕ)) → 0 < length chunks → chunk ≡ get_or chunks 0 chunk → 0 < length chunk
    → get_or (all_blocks chunks) 0 [] ≡ get_or chunk 0 []
first_block_of [] chunk inside is some = absurd (omega (arith, inside))
first_block_of (first ∷ chunks) chunk inside is some = first_of_both first (all_blocks chunks) chunk is some

some_blocks : (chunks : List (List (List ℕ))) (chunk : List (List ℕ)) → 0 < length chunks → chunk ≡ get_or chunks 0 chunk → 0 < length chunk
    → 0 < length (all_blocks chunks)
some_blocks chunks chunk inside is some =
    let blocks = blocks_from chunks 0 chunk inside is in
    let sizes = ap (λ (t : List (List ℕ)). length t) blocks ∙ length-append chunk (all_blocks (drop 1 chunks)) in
    omega (arith, sizes, some)

-- without the first block
pub without_first_block : (chunk : List (List ℕ)) (chunks : List (List (List ℕ))) → 0 < length chunk
    → drop 1 (all_blocks (chunk ∷ chunks)) ≡ drop 1 chunk ++ all_blocks chunks
without_first_block [] chunks some = absurd (omega (arith, some))
without_first_block (block ∷ blocks) chunks some = refl

-- one more block is packed
pub packed_more : (chunks : List (List (List ℕ))) (chunk : List (List ℕ)) (sizes bytes sizes' bytes' : List ℕ) (index size : ℕ) → index < length chunks
    → chunk ≡ get_or chunks index chunk → chunk ≡ concat chunk ∷ [] → total sizes ≡ length bytes → size ≡ length (concat chunk)
    → sizes' ≡ sizes ++ size ∷ [] → bytes' ≡ bytes ++ concat chunk
    → cut_by sizes' bytes' ++ all_blocks (drop (index + 1) chunks) ≡ cut_by sizes bytes ++ all_blocks (drop index chunks)
packed_more chunks chunk sizes bytes sizes' bytes' index size inside is single fits size_is sizes_are bytes_are =
    let rest = all_blocks (drop (index + 1) chunks) in
    ap (λ (t : List ℕ). cut_by t bytes' ++ rest) sizes_are
    ∙ (ap (λ (t : List ℕ). cut_by (sizes ++ size ∷ []) t ++ rest) bytes_are
    ∙ (ap (λ (t : List (List ℕ)). t ++ rest) (cut_by-push sizes bytes (concat chunk) size fits size_is)
    ∙ (append_assoc (cut_by sizes bytes) (concat chunk ∷ []) rest
    ∙ (ap (λ (t : List (List ℕ)). cut_by sizes bytes ++ (t ++ rest)) (sym single)
    ∙ ap (λ (t : List (List ℕ)). cut_by sizes bytes ++ t) (sym (blocks_from chunks index chunk inside is))))))

pub total-more : (sizes sizes' bytes bytes' block : List ℕ) (size : ℕ) → total sizes ≡ length bytes → size ≡ length block → sizes' ≡ sizes ++ size ∷ []
    → bytes' ≡ bytes ++ block → total sizes' ≡ length bytes'
total-more sizes sizes' bytes bytes' block size fits is sizes_are bytes_are =
    let more = ap total sizes_are ∙ total-push sizes size in
    let longer = ap (λ (t : List ℕ). length t) bytes_are ∙ length-append bytes block in
    omega (arith, more, longer, fits, is)

drop_of_single : (chunk more : List (List ℕ)) → length chunk ≡ 1 → more ≡ drop 1 (chunk ++ more)
drop_of_single [] more single = absurd (omega (arith, single))
drop_of_single (block ∷ []) more single = refl
drop_of_single (block ∷ next ∷ blocks) more single = absurd (omega (arith, single))

-- without the first chunk, if it is a single block
pub without_single : (chunks : List (List (List ℕ))) (chunk : List (List ℕ)) → 0 < length chunks → chunk ≡ get_or chunks 0 chunk → length chunk ≡ 1
    → all_blocks (drop 1 chunks) ≡ drop 1 (all_blocks chunks)
without_single [] chunk inside is single = absurd (omega (arith, inside))
without_single (first ∷ chunks) chunk inside is single =
    let same = ap (λ (t : List (List ℕ)). length t) is in
    drop_of_single first (all_blocks chunks) (omega (arith, same, single))
