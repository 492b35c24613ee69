use Rattle.std.proofs.Common.{◌≡◌, Bool, true, false, List, [], ◌∷◌, ◌++◌, refl, ap, ◌∙◌}
use Rattle.radio_policy.specs.declared.rule.Rule.{Rule}
use Rattle.radio_policy.specs.declared.judgement.Verdict.TheVariants.{Allow, Deny}
use Rattle.radio_policy.specs.Table.{Row, row}
use Rattle.radio_policy.specs.Verdicts.{verdict_in, Denies, Allows}

-- one row more in front of rows of which it is known
denies_at : (name rule : Rule) (holds : Bool) (xs : List Row) → (verdict_in xs ≡ Deny rule → Denies xs rule)
    → verdict_in (row name holds ∷ xs) ≡ Deny rule → Denies (row name holds ∷ xs) rule
denies_at name rule true xs known e =
    let same : name ≡ rule = cc in
    ([], xs, ap (λ n. row n true ∷ xs) same, tt)
denies_at name rule false xs known e =
    let d : Denies xs rule = known e in
    (row name false ∷ d.0, d.1, ap (λ ys. row name false ∷ ys) d.2, (refl, d.3))

-- a verdict that denies names the first rule whose condition holds
pub Denies-verdict : (rows : List Row) (rule : Rule) → verdict_in rows ≡ Deny rule → Denies rows rule
Denies-verdict [] rule e = cc
Denies-verdict (x ∷ xs) rule e = denies_at x.rule rule x.holds xs (Denies-verdict xs rule) e

-- rows that deny nothing may be passed over
verdict_past : (before rest : List Row) → Allows before → verdict_in (before ++ rest) ≡ verdict_in rest
verdict_past [] rest h = refl
verdict_past (x ∷ xs) rest h = rw h.0 (verdict_past xs rest h.1)

-- and the first rule whose condition holds is the verdict's
pub verdict-Denies : (rows : List Row) (rule : Rule) → Denies rows rule → verdict_in rows ≡ Deny rule
verdict-Denies rows rule d = ap verdict_in d.2 ∙ verdict_past d.0 (row rule true ∷ d.1) d.3

-- a verdict that allows says that no condition holds, and the other way round
allows_at : (name : Rule) (holds : Bool) (xs : List Row) → (verdict_in xs ≡ Allow → Allows xs) → verdict_in (row name holds ∷ xs) ≡ Allow
    → Allows (row name holds ∷ xs)
allows_at name true xs known e = cc
allows_at name false xs known e = (refl, known e)

pub verdict-Allows : (rows : List Row) → verdict_in rows ≡ Allow → Allows rows
verdict-Allows [] e = tt
verdict-Allows (x ∷ xs) e = allows_at x.rule x.holds xs (verdict-Allows xs) e

pub Allows-verdict : (rows : List Row) → Allows rows → verdict_in rows ≡ Allow
Allows-verdict [] a = refl
Allows-verdict (x ∷ xs) a = rw a.0 (Allows-verdict xs a.1)
