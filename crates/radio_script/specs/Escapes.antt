-- How the bytes of a delivery are written in a script and in a transcript. The bytes 0x20 to 0x7E
-- other than the backslash are written as they are, the others as escapes.
use Rattle.std.specs.Prelude.{ℕ, ◌+◌, ◌*◌, ◌/◌, ◌%◌, nat_lt, nat_le, ◌==◌, ◌&&◌, not, Bool, List, [], ◌∷◌, ◌++◌, Option, Some, None, if◌then◌else◌}
use Rattle.std.specs.Option.{option_map, option_to_list}
use Rattle.std.specs.Char.{digit_value, digit_char}
use Rattle.std.specs.List.{flat_map}
use Rattle.radio_script.specs.declared.escapes.EscapePlace.{EscapePlace}
use Rattle.radio_script.specs.declared.escapes.EscapePlace.TheVariants.{Between, Escape, High, Low}
use Rattle.radio_script.specs.Steps.{◌>>=◌}

-- a byte that is written as it is
abbrev pub is_unescaped : ℕ → Bool
is_unescaped b = nat_le 32 b && nat_le b 126 && not (b == 92)

-- how a transcript writes a byte: `\r`, `\n`, `\\`, the byte itself, or `\xhh` in lower case
abbrev pub escape_of : ℕ → List ℕ
escape_of b =
    if b == 13 then 92 ∷ 114 ∷ [] else
    (if b == 10 then 92 ∷ 110 ∷ [] else
    (if b == 92 then 92 ∷ 92 ∷ [] else
    (if is_unescaped b then b ∷ [] else
    92 ∷ 120 ∷ digit_char (b / 16) ∷ digit_char (b % 16) ∷ [])))

-- the text that writes the bytes
-- rule: Escapes
unfoldable pub escaped : List ℕ → List ℕ
escaped bytes = flat_map escape_of bytes

-- the value of a hexadecimal digit, in either case
abbrev pub hex_value_of : ℕ → Option ℕ
hex_value_of b = if nat_lt (digit_value b) 16 then Some (digit_value b) else None

-- What one byte of a text means, by what the reading expects: what it expects next, and the byte that
-- is complete now, if any.
abbrev pub step_at : EscapePlace → ℕ → Option (EscapePlace × Option ℕ)
step_at Between b =
    if b == 92 then Some (Escape, None) else (if is_unescaped b then Some (Between, Some b) else None)
step_at Escape b =
    if b == 114 then Some (Between, Some 13) else
    (if b == 110 then Some (Between, Some 10) else
    (if b == 92 then Some (Between, Some 92) else
    (if b == 120 then Some (High, None) else None)))
step_at High b = do
  _ ← hex_value_of b
  Some (Low b, None)
step_at (Low high) b = do
  first ← hex_value_of high
  second ← hex_value_of b
  Some (Between, Some (first * 16 + second))

-- the bytes that the rest of a text writes, if the reading expects this
abbrev pub unescaped_from : EscapePlace → List ℕ → Option (List ℕ)
unescaped_from Between [] = Some []
unescaped_from place [] = None
unescaped_from place (b ∷ text) = do
  step ← step_at place b
  option_map (λ bytes. option_to_list step.1 ++ bytes) (unescaped_from step.0 text)

-- the bytes that a text writes, if each backslash in it begins an escape and each other byte is
-- written as it is
-- rule: Escapes
unfoldable pub unescaped : List ℕ → Option (List ℕ)
unescaped text = unescaped_from Between text
