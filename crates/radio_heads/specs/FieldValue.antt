-- Values that headers may have.
use Rattle.std.specs.Prelude.{ℕ, List}
use Rattle.httparse.specs.Grammar.{AllPass, is_value_byte}

-- no byte ends a line, and none is another control byte but tabs (RFC 9110, section 5.5)
-- rule: Answers are read back
abbrev pub IsFieldText : List ℕ → Type 0
IsFieldText value = AllPass is_value_byte value
