-- A woven stream taken apart: one byte, a piece, a list of pieces.
use Rattle.std.specs.Prelude.{ℕ, zero, suc, ◌-◌, ◌*◌, List, [], ◌∷◌, ◌++◌, length, take, Option, None, Some, nat_lt, ◌==◌, if◌then◌else◌}
use Rattle.std.specs.List.{suffix_len}

-- What a reader of a stream learns, in order: a byte of sound, or the text of a metadata block.
pub data StreamItem : Type 0 where
  SoundByte : ℕ → StreamItem
  WholeText : List ℕ → StreamItem

-- The place of a reader in a woven stream. With no block begun, `left` bytes of sound come before the next length byte.
-- With `held` bytes of a block's text and padding, `left` bytes more end it.
pub record Unweaving : Type 0 where
  pub interval : ℕ
  pub left : ℕ
  pub block : Option (List ℕ)

abbrev pub reading : ℕ → ℕ → Option (List ℕ) → Unweaving
reading n left block = record { interval = n; left = left; block = block }

-- in the sound, with so many bytes before the next length byte
abbrev pub at_sound : ℕ → ℕ → Unweaving
at_sound n left = reading n left None

-- in a block, with so many bytes to come
abbrev pub in_block : ℕ → ℕ → List ℕ → Unweaving
in_block n left held = reading n left (Some held)

-- a reader at the start of a stream
abbrev pub new_unweaving : ℕ → Unweaving
new_unweaving n = at_sound n n

-- a text without the zero bytes at its end
unfoldable pub without_padding : List ℕ → List ℕ
without_padding text = take (length text - suffix_len (λ b. b == 0) text) text

-- after a length byte: back to sound, if the block is empty
abbrev pub after_length_byte : ℕ → ℕ → Unweaving
after_length_byte n q = if q == 0 then at_sound n n else in_block n (16 * q) []

-- past a byte with no block begun
abbrev pub after_sound_byte : ℕ → ℕ → ℕ → Unweaving
after_sound_byte n zero b = after_length_byte n b
after_sound_byte n (suc left) b = at_sound n left

-- past a byte of a block
abbrev pub after_block_byte : ℕ → ℕ → List ℕ → Unweaving
after_block_byte n left held = if nat_lt 1 left then in_block n (left - 1) held else at_sound n n

-- the reader after one byte of the stream
abbrev pub after_fed_byte_at : ℕ → ℕ → Option (List ℕ) → ℕ → Unweaving
after_fed_byte_at n left None b = after_sound_byte n left b
after_fed_byte_at n left (Some held) b = after_block_byte n left (held ++ b ∷ [])

abbrev pub after_fed_byte : Unweaving → ℕ → Unweaving
after_fed_byte u b = after_fed_byte_at u.interval u.left u.block b

-- what one byte brings
abbrev pub brought_by_sound : ℕ → ℕ → List StreamItem
brought_by_sound zero b = []
brought_by_sound (suc left) b = SoundByte b ∷ []

abbrev pub brought_by_block : ℕ → List ℕ → List StreamItem
brought_by_block left held = if nat_lt 1 left then [] else WholeText (without_padding held) ∷ []

abbrev pub brought_at : ℕ → Option (List ℕ) → ℕ → List StreamItem
brought_at left None b = brought_by_sound left b
brought_at left (Some held) b = brought_by_block left (held ++ b ∷ [])

abbrev pub atoms_of_byte : Unweaving → ℕ → List StreamItem
atoms_of_byte u b = brought_at u.left u.block b

-- what a piece of the stream brings
-- rule: Metadata block
abbrev pub atoms_of_piece : Unweaving → List ℕ → List StreamItem
atoms_of_piece u [] = []
atoms_of_piece u (b ∷ bytes) = atoms_of_byte u b ++ atoms_of_piece (after_fed_byte u b) bytes

-- the reader after a piece
abbrev pub after_feeding : Unweaving → List ℕ → Unweaving
after_feeding u [] = u
after_feeding u (b ∷ bytes) = after_feeding (after_fed_byte u b) bytes

-- what the pieces of a stream bring, one after another
abbrev pub heard_by_pieces : Unweaving → List (List ℕ) → List StreamItem
heard_by_pieces u [] = []
heard_by_pieces u (piece ∷ pieces) = atoms_of_piece u piece ++ heard_by_pieces (after_feeding u piece) pieces

-- the reader after them
abbrev pub after_pieces : Unweaving → List (List ℕ) → Unweaving
after_pieces u [] = u
after_pieces u (piece ∷ pieces) = after_pieces (after_feeding u piece) pieces
