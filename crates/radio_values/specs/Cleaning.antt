-- Texts made fit to be shown.
use Rattle.std.specs.Prelude.{ℕ, Bool, not, ◌-◌, ◌&&◌, ◌==◌, nat_le, List, [], ◌∷◌, filter, encode_utf8_all, if◌then◌else◌}
use Rattle.std.specs.Str.{chars}
use Rattle.std.specs.Str.Lossy.{utf8_lossy}
use Rattle.std.specs.Char.{len_utf8}

-- a character that may be shown: none below U+0020, and not U+007F
abbrev pub is_shown : ℕ → Bool
is_shown c = nat_le 32 c && not (c == 127)

-- the longest front of some characters that takes at most n bytes in UTF-8
abbrev pub front_within : ℕ → List ℕ → List ℕ
front_within n [] = []
front_within n (c ∷ cs) = if nat_le (len_utf8 c) n then c ∷ front_within (n - len_utf8 c) cs else []

-- the characters of bytes that may be shown: the bytes are read as UTF-8, with U+FFFD for what is none
abbrev pub shown_chars : List ℕ → List ℕ
shown_chars bytes = filter is_shown (chars (utf8_lossy bytes))

-- bytes as a text that may be shown, cut to n bytes
-- rule: Cleaned texts
unfoldable pub cleaned : ℕ → List ℕ → List ℕ
cleaned n bytes = encode_utf8_all (front_within n (shown_chars bytes))
