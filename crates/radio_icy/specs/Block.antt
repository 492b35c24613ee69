-- A metadata block: a length byte n, and 16 n bytes of text and padding.
use Rattle.std.specs.Prelude.{ℕ, ◌+◌, ◌-◌, ◌*◌, ◌/◌, List, [], ◌∷◌, ◌++◌, length, replicate, Option, None, Some, codes}
use Rattle.std.specs.Prelude.{if◌then◌else◌}
use Rattle.std.specs.Str.{bytes_eq}

-- the text `StreamTitle='T';` of a title T
unfoldable pub title_text : List ℕ → List ℕ
title_text title = codes "StreamTitle='" ++ (title ++ codes "';")

-- how many units of 16 bytes a text of so many bytes takes
abbrev pub units_of : ℕ → ℕ
units_of size = (size + 15) / 16

-- a text with the zero bytes that fill its last unit
abbrev pub padded : List ℕ → List ℕ
padded text = text ++ replicate (16 * units_of (length text) - length text) 0

-- the block of a title, or the block that carries none: one zero byte
-- rule: Metadata block
unfoldable pub metadata_block : Option (List ℕ) → List ℕ
metadata_block None = 0 ∷ []
metadata_block (Some title) = let text = title_text title in units_of (length text) ∷ padded text

-- the title that the next block carries: the present title, unless it is the last one sent
-- rule: Metadata block
abbrev pub news_of : Option (List ℕ) → Option (List ℕ) → Option (List ℕ)
news_of None sent = None
news_of (Some title) None = Some title
news_of (Some title) (Some sent) = if bytes_eq title sent then None else Some title

-- the last title sent, once a block with these news has gone out
abbrev pub sent_with : Option (List ℕ) → Option (List ℕ) → Option (List ℕ)
sent_with None sent = sent
sent_with (Some title) sent = Some title
