-- Consecutive blocks that lie in one piece of memory.
use Rattle.std.specs.Prelude.{◌≡◌, ℕ, ◌+◌, ◌^◌, ◌<◌, Option, Some, None, List, [], ◌∷◌, ◌++◌, length, take, drop}

-- bytes cut into blocks of these sizes
abbrev pub cut_by : List ℕ → List ℕ → List (List ℕ)
cut_by [] bytes = []
cut_by (size ∷ sizes) bytes = take size bytes ∷ cut_by sizes (drop size bytes)

-- how many bytes blocks of these sizes have
abbrev pub total : List ℕ → ℕ
total [] = 0
total (size ∷ sizes) = size + total sizes

-- the bytes are as many as these sizes together, and there is a size
abbrev pub AreSizesOf : List ℕ → List ℕ → Type 0
AreSizesOf sizes bytes = (0 < length sizes) × (total sizes ≡ length bytes) × (length bytes < 2 ^ 63)

-- the blocks of a chunk: its bytes cut by its sizes, or all its bytes if it has no sizes
abbrev pub blocks_in : Option (List ℕ) → List ℕ → List (List ℕ)
blocks_in None bytes = bytes ∷ []
blocks_in (Some sizes) bytes = cut_by sizes bytes

-- the sizes of a chunk fit its bytes
abbrev pub Fit : Option (List ℕ) → List ℕ → Type 0
Fit None bytes = Unit {0}
Fit (Some sizes) bytes = AreSizesOf sizes bytes

-- the blocks of all chunks
abbrev pub all_blocks : List (List (List ℕ)) → List (List ℕ)
all_blocks [] = []
all_blocks (blocks ∷ chunks) = blocks ++ all_blocks chunks

-- the places where blocks of these sizes start, the first of them here
abbrev pub starts_of : ℕ → List ℕ → List ℕ
starts_of here [] = []
starts_of here (size ∷ sizes) = here ∷ starts_of (here + size) sizes
