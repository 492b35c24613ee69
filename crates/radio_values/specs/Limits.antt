-- How long the texts may be.
use Rattle.std.specs.Prelude.{ℕ}

-- a title: with `StreamTitle='` before it and `';` behind it, it fits a block of 255 times 16 bytes
-- rule: Cleaned texts
abbrev pub max_title : ℕ
max_title = 4065

-- a shown field: a stream's name, genre or type
-- rule: Cleaned texts
abbrev pub max_field : ℕ
max_field = 255
