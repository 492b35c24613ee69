-- Blanks at the ends of a text.
use Rattle.std.specs.Prelude.{ℕ, Bool, ◌-◌, ◌==◌, ◌||◌, List, length, take, drop}
use Rattle.std.specs.List.{prefix_len, suffix_len}

-- a space or a tab
abbrev pub is_blank : ℕ → Bool
is_blank b = b == 32 || b == 9

-- a text without the blanks at its ends
unfoldable pub without_blanks : List ℕ → List ℕ
without_blanks text = let rest = drop (prefix_len is_blank text) text in take (length rest - suffix_len is_blank rest) rest
