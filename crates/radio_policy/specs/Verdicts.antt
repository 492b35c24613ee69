use Rattle.std.specs.Prelude.{◌≡◌, true, false, if◌then◌else◌, List, [], ◌∷◌, ◌++◌}
use Rattle.radio_policy.specs.declared.rule.Rule.{Rule}
use Rattle.radio_policy.specs.declared.judgement.Verdict.{Verdict}
use Rattle.radio_policy.specs.declared.judgement.Verdict.TheVariants.{Allow, Deny}
use Rattle.radio_policy.specs.Table.{Row, row}

-- the first row whose condition holds denies, by its rule
-- rule: First rule
abbrev pub verdict_in : List Row → Verdict
verdict_in [] = Allow
verdict_in (x ∷ xs) = (if x.holds then Deny x.rule else verdict_in xs)

-- no row denies
-- rule: First rule
abbrev pub Allows : List Row → Type 0
Allows [] = Unit {0}
Allows (x ∷ xs) = (x.holds ≡ false) × Allows xs

-- a row of this rule denies, and no earlier one does
-- rule: First rule
abbrev pub Denies : List Row → Rule → Type 0
Denies rows rule = (before : List Row) × (after : List Row) × (rows ≡ before ++ row rule true ∷ after) × Allows before
