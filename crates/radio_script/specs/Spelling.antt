-- The texts of a script as a grammar: how a text may write each byte.
use Rattle.std.specs.Prelude.{ℕ, ◌≡◌, ◌+◌, ◌*◌, true, List, [], ◌∷◌, ◌++◌, Some}
use Rattle.radio_script.specs.Escapes.{is_unescaped, hex_value_of}

-- the text writes the byte: as itself, or as `\r`, `
-- `, `\\`, or `\xHH` in either case
pub data Spells : List ℕ → ℕ → Type 0 where
  as_itself : {b : ℕ} → is_unescaped b ≡ true → Spells (b ∷ []) b
  as_return : Spells (92 ∷ 114 ∷ []) 13
  as_feed : Spells (92 ∷ 110 ∷ []) 10
  as_backslash : Spells (92 ∷ 92 ∷ []) 92
  as_digits : {h l high low : ℕ} → hex_value_of h ≡ Some high → hex_value_of l ≡ Some low
      → Spells (92 ∷ 120 ∷ h ∷ l ∷ []) (high * 16 + low)

-- the text writes the bytes, one after the other
pub data SpellsAll : List ℕ → List ℕ → Type 0 where
  none : SpellsAll [] []
  more : {piece text bytes : List ℕ} {b : ℕ} → Spells piece b → SpellsAll text bytes
      → SpellsAll (piece ++ text) (b ∷ bytes)
