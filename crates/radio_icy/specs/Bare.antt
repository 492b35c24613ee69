-- What a woven stream holds: its sound, and the texts of its blocks.
use Rattle.std.specs.Prelude.{ℕ, zero, suc, ◌*◌, ◌||◌, ◌==◌, nat_le, nat_lt, List, [], ◌∷◌, ◌++◌, length, take, drop, if◌then◌else◌}
use Rattle.radio_icy.specs.Unweaving.{StreamItem, SoundByte, WholeText, without_padding}

-- past a byte q and 16 q bytes
abbrev pub after_block : List ℕ → List ℕ
after_block [] = []
after_block (q ∷ bytes) = drop (16 * q) bytes

-- `bare`, of a stream with at most k blocks
abbrev pub bare_within : ℕ → ℕ → List ℕ → List ℕ
bare_within zero n out = out
bare_within (suc k) n out =
    if nat_le (length out) n then out else take n out ++ bare_within k n (after_block (drop n out))

-- the sound of a woven stream: all of it up to the interval, or else the first interval, and past a block the same again
-- rule: Metadata block
unfoldable pub bare : ℕ → List ℕ → List ℕ
bare n out = bare_within (length out) n out

-- the text of the block at the front, if it has one and is whole
abbrev pub text_of_block : List ℕ → List (List ℕ)
text_of_block [] = []
text_of_block (q ∷ bytes) =
    if q == 0 || nat_lt (length bytes) (16 * q) then [] else without_padding (take (16 * q) bytes) ∷ []

-- `block_texts`, of a stream with at most k blocks
abbrev pub block_texts_within : ℕ → ℕ → List ℕ → List (List ℕ)
block_texts_within zero n out = []
block_texts_within (suc k) n out =
    if nat_le (length out) n then [] else text_of_block (drop n out) ++ block_texts_within k n (after_block (drop n out))

-- the texts of the blocks of a woven stream
unfoldable pub block_texts : ℕ → List ℕ → List (List ℕ)
block_texts n out = block_texts_within (length out) n out

-- the bytes of sound among atoms
abbrev pub sound_in : List StreamItem → List ℕ
sound_in [] = []
sound_in (SoundByte b ∷ atoms) = b ∷ sound_in atoms
sound_in (WholeText text ∷ atoms) = sound_in atoms

-- the texts among atoms
abbrev pub texts_in : List StreamItem → List (List ℕ)
texts_in [] = []
texts_in (SoundByte b ∷ atoms) = texts_in atoms
texts_in (WholeText text ∷ atoms) = text ∷ texts_in atoms
