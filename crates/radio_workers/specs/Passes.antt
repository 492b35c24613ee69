-- What a pass of an intake says.
use Rattle.std.specs.Prelude.{◌≡◌, ℕ, ◌+◌, ◌^◌, List, [], ◌∷◌, ◌++◌}
use Rattle.atomic_table.specs.Seated.{TableId}

-- which intake it is
abbrev pub IntakeId : Type 0
IntakeId = TableId

-- what a pass says: of which intake it is, how many parts it has, and what was put and taken through it, in that order
pub record PassRecord (L : Type 0) : Type 0 where
  pub intake : IntakeId
  pub parts : ℕ
  pub put : List L
  pub taken : List L

-- the parts of all passes of an intake together
abbrev pub all_parts : ℕ
all_parts = 2 ^ 32

-- a pass through which nothing was put or taken yet
abbrev pub unused : {L : Type 0} → IntakeId → ℕ → PassRecord L
unused intake parts = record { intake = intake; parts = parts; put = []; taken = [] }

-- two passes of an intake as one
abbrev pub joined : {L : Type 0} → PassRecord L → PassRecord L → PassRecord L
joined pass other = record pass { parts = pass.parts + other.parts; put = pass.put ++ other.put; taken = pass.taken ++ other.taken }

-- the weights of the lines, added up
abbrev pub weigh : {L : Type 0} → (L → ℕ) → List L → ℕ
weigh weight [] = 0
weigh weight (line ∷ lines) = weight line + weigh weight lines

-- what was put weighs what was taken and what is left, whatever each line weighs: so each was put as often as it was taken and is left
abbrev pub IsTakenOrLeft : {L : Type 0} → List L → List L → List L → Type 0
IsTakenOrLeft {L} put taken left = (weight : L → ℕ) → weigh weight put ≡ weigh weight taken + weigh weight left
