-- Data cut into blocks, and blocks that are gathered one after another.
use Rattle.std.proofs.Common.{◌≡◌, ℕ, zero, suc, ◌+◌, get_or, ◌<◌, ◌≤◌, min, List, [], ◌∷◌, ◌++◌, length, take, drop, ap, sym, ◌∙◌, refl, arith, length-drop}
use Rattle.std.proofs.Common.{length-append, append_assoc, append-nil}
use Rattle.std.specs.List.{concat}
use Rattle.std.specs.Prelude.{All}
use Rattle.std.proofs.lemmas.List.{take_more, take_all, drop_all, take_min, drop_min, take-append-drop, length-take}
use Rattle.radio_blocks.specs.Block.{IsBlock}
use Rattle.std.proofs.Math.Seq.{take-append_seam, drop-append_seam}
use Rattle.std.proofs.lemmas.List.Elements.{All-cons, All-head, All-tail}
use Rattle.radio_blocks.specs.Cutting.{cut_into, blocks_of}
use Rattle.radio_blocks.specs.Gathering.{AreFull}

cut_nothing : (pieces : ℕ) → cut_into pieces [] ≡ []
cut_nothing zero = refl
cut_nothing (suc pieces) = refl

-- any number of pieces will do that is enough
cut_enough : (p q : ℕ) (bytes : List ℕ) → length bytes ≤ p → length bytes ≤ q → cut_into p bytes ≡ cut_into q bytes
cut_enough p q [] h k = cut_nothing p ∙ sym (cut_nothing q)
cut_enough zero q (b ∷ bytes) h k = absurd (omega arith)
cut_enough (suc p) zero (b ∷ bytes) h k = absurd (omega arith)
cut_enough (suc p) (suc q) (b ∷ bytes) h k =
    let less = length-drop 4096 (b ∷ bytes) in
    ap (λ blocks. take 4096 (b ∷ bytes) ∷ blocks) (cut_enough p q (drop 4096 (b ∷ bytes)) (omega (arith, less)) (omega (arith, less)))

-- the first block, and those of the rest
pub blocks_of-first : (bytes : List ℕ) → 0 < length bytes → blocks_of bytes ≡ take 4096 bytes ∷ blocks_of (drop 4096 bytes)
unfolding blocks_of
blocks_of-first [] h = absurd (omega arith)
blocks_of-first (b ∷ bytes) h =
    let less = length-drop 4096 (b ∷ bytes) in
    ap (λ blocks. take 4096 (b ∷ bytes) ∷ blocks)
    (cut_enough (length bytes) (length (drop 4096 (b ∷ bytes))) (drop 4096 (b ∷ bytes)) (omega (arith, less)) (omega arith))

pub blocks_of-nil : blocks_of [] ≡ []
unfolding blocks_of
blocks_of-nil = refl

-- a whole block, and those of what follows it
pub blocks_of-whole : (block rest : List ℕ) → length block ≡ 4096 → blocks_of (block ++ rest) ≡ block ∷ blocks_of rest
blocks_of-whole block rest whole =
    let some : 0 < length (block ++ rest) = omega (arith, length-append block rest) in
    let front : take 4096 (block ++ rest) ≡ block = ap (λ (n : ℕ). take n (block ++ rest)) (sym whole) ∙ take-append_seam block rest in
    let back : drop 4096 (block ++ rest) ≡ rest = ap (λ (n : ℕ). drop n (block ++ rest)) (sym whole) ∙ drop-append_seam block rest in
    blocks_of-first (block ++ rest) some
    ∙ (ap (λ b. b ∷ blocks_of (drop 4096 (block ++ rest))) front ∙ ap (λ r. block ∷ blocks_of r) back)

-- the first block, where it has so many bytes
pub blocks_of-front : (bytes : List ℕ) (size : ℕ) → 0 < length bytes → size ≡ min (length bytes) 4096
    → blocks_of bytes ≡ take size bytes ∷ blocks_of (drop size bytes)
blocks_of-front bytes size some e =
    let size_is : size ≡ min 4096 (length bytes) = omega (arith, e) in
    let front : take 4096 bytes ≡ take size bytes = sym (take_min 4096 bytes) ∙ ap (λ n. take n bytes) (sym size_is) in
    let back : drop 4096 bytes ≡ drop size bytes = sym (drop_min 4096 bytes) ∙ ap (λ n. drop n bytes) (sym size_is) in
    blocks_of-first bytes some
    ∙ ap (λ block. block ∷ blocks_of (drop 4096 bytes)) front
    ∙ ap (λ rest. take size bytes ∷ blocks_of rest) back

-- a part of a block
pub blocks_of-part : (last : List ℕ) → 0 < length last → length last < 4096 → blocks_of last ≡ last ∷ []
blocks_of-part last some short =
    blocks_of-first last some
    ∙ (ap (λ b. b ∷ blocks_of (drop 4096 last)) (take_all 4096 last (omega arith))
    ∙ (ap (λ r. last ∷ blocks_of r) (drop_all 4096 last (omega arith)) ∙ ap (λ r. last ∷ r) blocks_of-nil))

-- whole blocks, and what follows them
blocks_of-full : (blocks : List (List ℕ)) (rest : List ℕ) → AreFull blocks → blocks_of (concat blocks ++ rest) ≡ blocks ++ blocks_of rest
blocks_of-full [] rest full = refl
blocks_of-full (block ∷ blocks) rest full =
    let whole = All-head (λ (b : List ℕ). length b ≡ 4096) block blocks full in
    let others = All-tail (λ (b : List ℕ). length b ≡ 4096) block blocks full in
    ap blocks_of (append_assoc block (concat blocks) rest)
    ∙ (blocks_of-whole block (concat blocks ++ rest) whole ∙ ap (λ r. block ∷ r) (blocks_of-full blocks rest others))

-- what a gathering comes to, with a block begun and with none
pub gathered-part : (blocks : List (List ℕ)) (last : List ℕ) → AreFull blocks → 0 < length last → length last < 4096
    → blocks_of (concat blocks ++ last) ≡ blocks ++ last ∷ []
gathered-part blocks last full some short = blocks_of-full blocks last full ∙ ap (λ r. blocks ++ r) (blocks_of-part last some short)

pub gathered-whole : (blocks : List (List ℕ)) (last : List ℕ) → AreFull blocks → last ≡ [] → blocks_of (concat blocks ++ last) ≡ blocks
gathered-whole blocks last full none =
    blocks_of-full blocks last full ∙ (ap (λ r. blocks ++ blocks_of r) none ∙ (ap (λ r. blocks ++ r) blocks_of-nil ∙ append-nil blocks))

-- one more whole block
pub concat-push : (blocks : List (List ℕ)) (block : List ℕ) → concat (blocks ++ block ∷ []) ≡ concat blocks ++ block
concat-push [] block = append-nil block
concat-push (first ∷ blocks) block = ap (λ r. first ++ r) (concat-push blocks block) ∙ sym (append_assoc first (concat blocks) block)

-- a block that is filled up
pub gathered-step : (blocks pushed : List (List ℕ)) (block last front none rest : List ℕ) → pushed ≡ blocks ++ block ∷ [] → block ≡ last ++ front
    → none ≡ [] → (concat pushed ++ none) ++ rest ≡ (concat blocks ++ last) ++ (front ++ rest)
gathered-step blocks pushed block last front none rest e f g =
    ap (λ t. (concat t ++ none) ++ rest) e
    ∙ (ap (λ t. (t ++ none) ++ rest) (concat-push blocks block)
    ∙ (ap (λ t. ((concat blocks ++ block) ++ t) ++ rest) g
    ∙ (ap (λ t. ((concat blocks ++ t) ++ []) ++ rest) f ∙ simp (append_assoc, append-nil))))

-- the data of blocks, and that they are blocks
cut_into-concat : (pieces : ℕ) (bytes : List ℕ) → length bytes ≤ pieces → concat (cut_into pieces bytes) ≡ bytes
cut_into-concat zero [] h = refl
cut_into-concat zero (b ∷ bytes) h = absurd (omega arith)
cut_into-concat (suc pieces) [] h = refl
cut_into-concat (suc pieces) (b ∷ bytes) h =
    let less = length-drop 4096 (b ∷ bytes) in
    ap (λ t. take 4096 (b ∷ bytes) ++ t) (cut_into-concat pieces (drop 4096 (b ∷ bytes)) (omega (arith, less)))
    ∙ take-append-drop 4096 (b ∷ bytes)

pub blocks_of-concat : (bytes : List ℕ) → concat (blocks_of bytes) ≡ bytes
unfolding blocks_of
blocks_of-concat bytes = cut_into-concat (length bytes) bytes (omega arith)

cut_into-blocks : (pieces : ℕ) (bytes : List ℕ) → All IsBlock (cut_into pieces bytes)
cut_into-blocks zero bytes = λ k d h. absurd (omega arith)
cut_into-blocks (suc pieces) [] = λ k d h. absurd (omega arith)
cut_into-blocks (suc pieces) (b ∷ bytes) =
    let size = length-take 4096 (b ∷ bytes) in
    All-cons IsBlock (take 4096 (b ∷ bytes)) (cut_into pieces (drop 4096 (b ∷ bytes)))
    (omega (arith, size), omega (arith, size)) (cut_into-blocks pieces (drop 4096 (b ∷ bytes)))

pub blocks_of-IsBlock : (bytes : List ℕ) → All IsBlock (blocks_of bytes)
unfolding blocks_of
blocks_of-IsBlock bytes = cut_into-blocks (length bytes) bytes

-- one slice more, behind those before it
pub slices_more : (slices : List (List ℕ)) (i : ℕ) (d old now next slice : List ℕ) → i < length slices → slice ≡ get_or slices i d
    → now ≡ old ++ concat (take i slices) → next ≡ now ++ slice → next ≡ old ++ concat (take (i + 1) slices)
slices_more slices i d old now next slice inside is so_far more =
    let joined : concat (take (i + 1) slices) ≡ concat (take i slices) ++ slice
    = ap concat (take_more slices i d inside) ∙ (concat-push (take i slices) (get_or slices i d) ∙ ap (λ (t : List ℕ). concat (take i slices) ++ t) (sym is)) in
    more ∙ (ap (λ (t : List ℕ). t ++ slice) so_far ∙ (append_assoc old (concat (take i slices)) slice ∙ ap (λ (t : List ℕ). old ++ t) (sym joined)))
