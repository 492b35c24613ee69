-- A reader's known bytes begin with what it holds in its buffer.
use Rattle.std.proofs.Common.{◌≡◌, ℕ, Bool, true, false, List, [], ◌∷◌, ◌++◌, Option, None, Some, if◌then◌else◌, length, subst, sym, refl, arith}
use Rattle.std.specs.Io.BufRead.{DropsConsumable}
use Rattle.radio_script.proofs.Words.{Consumes, prepend_known}

-- the bytes that are known, if the buffer has room at all
abbrev pub known_bytes : Bool → List ℕ → Option (List ℕ) → Option (List ℕ)
known_bytes no_room held behind = if no_room then None else prepend_known held behind

first_gone : (no_room : Bool) (behind now : Option (List ℕ)) (byte : ℕ) (rest : List ℕ)
    → DropsConsumable (known_bytes no_room (byte ∷ rest) behind) now (Some (length (byte ∷ rest))) 1
    → Consumes (known_bytes no_room (byte ∷ rest) behind) now (byte ∷ [])
first_gone true behind now byte rest drops = tt
first_gone false None now byte rest drops = tt
first_gone false (Some bytes) now byte rest drops =
    let left : now ≡ Some (rest ++ bytes) = drops (omega arith) in
    subst (λ (after : Option (List ℕ)). Consumes (Some (byte ∷ rest ++ bytes)) after (byte ∷ [])) (sym left) refl

-- the first byte of the buffer is consumed
pub first_consumed : (no_room : Bool) (held : List ℕ) (behind now : Option (List ℕ)) (byte : ℕ) (rest : List ℕ) → held ≡ byte ∷ rest
    → DropsConsumable (known_bytes no_room held behind) now (Some (length held)) 1 → Consumes (known_bytes no_room held behind) now (byte ∷ [])
first_consumed no_room held behind now byte rest is drops =
    subst (λ (xs : List ℕ). DropsConsumable (known_bytes no_room xs behind) now (Some (length xs)) 1
    → Consumes (known_bytes no_room xs behind) now (byte ∷ [])) (sym is) (first_gone no_room behind now byte rest) drops
