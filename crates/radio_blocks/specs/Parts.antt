-- The parts of blocks that are drawn.
use Rattle.std.specs.Prelude.{ℕ, ◌-◌, List, [], ◌∷◌, ◌++◌, length, take, drop}

-- a slice of these bytes; of no bytes there is none
abbrev pub slice_of : List ℕ → List (List ℕ)
slice_of [] = []
slice_of (byte ∷ bytes) = (byte ∷ bytes) ∷ []

-- at most `room` bytes of the blocks, but for the `skip` bytes at the front: a slice of each block that has some of them
abbrev pub parts_of : ℕ → ℕ → List (List ℕ) → List (List ℕ)
parts_of skip room [] = []
parts_of skip room (block ∷ blocks) =
    slice_of (take room (drop skip block)) ++ parts_of (skip - length block) (room - (length block - skip)) blocks
