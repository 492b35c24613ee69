-- What a queue keeps of all the blocks that came.
use Rattle.std.specs.Prelude.{◌≡◌, ℕ, ◌≤◌, ◌⊎◌, List, [], ◌∷◌, ◌++◌, length}
use Rattle.std.specs.List.{concat}
use Rattle.radio_blocks.specs.Queue.{KeptTail, nothing_kept, with_pushed}

-- blocks come one after another
abbrev pub with_all : KeptTail → List (List ℕ) → KeptTail
with_all tail [] = tail
with_all tail (block ∷ blocks) = with_all (with_pushed tail block) blocks

-- what a queue of this limit keeps of these blocks
abbrev pub tail_after : ℕ → List (List ℕ) → KeptTail
tail_after limit blocks = with_all (nothing_kept limit) blocks

-- a tail of whole blocks that has so many bytes, or is all blocks, and no shorter one has so many
pub record IsShortestTail (limit : ℕ) (blocks tail : List (List ℕ)) : Type 0 where
  pub dropped : List (List ℕ)
  pub whole_blocks : blocks ≡ dropped ++ tail
  pub enough : (dropped ≡ []) ⊎ (limit ≤ length (concat tail))
  pub shortest : (front shorter : List (List ℕ)) → tail ≡ front ++ shorter → limit ≤ length (concat shorter) → front ≡ []
