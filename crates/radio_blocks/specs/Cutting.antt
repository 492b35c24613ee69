-- Data cut into blocks.
use Rattle.std.specs.Prelude.{ℕ, zero, suc, List, [], ◌∷◌, length, take, drop}

-- the bytes cut every 4096, in at most so many pieces
abbrev pub cut_into : ℕ → List ℕ → List (List ℕ)
cut_into zero bytes = []
cut_into (suc pieces) [] = []
cut_into (suc pieces) (b ∷ bytes) = take 4096 (b ∷ bytes) ∷ cut_into pieces (drop 4096 (b ∷ bytes))

-- the blocks of some data: cut every 4096 bytes, the last may be shorter (there are no more blocks than bytes)
-- rule: Cut into blocks
unfoldable pub blocks_of : List ℕ → List (List ℕ)
blocks_of bytes = cut_into (length bytes) bytes
