-- What holds of an intake and all its passes between any two steps, and what a step changes.
use Rattle.std.specs.Prelude.{◌≡◌, ℕ, ◌+◌, ◌-◌, ◌<◌, List, [], ◌∷◌, ◌++◌, length}
use mathlib.Core.Option.{some}
use lib.ListN.{get_elem?}
use Rattle.radio_workers.specs.declared.rule.Transfers.{Transfers}
use Rattle.radio_workers.specs.declared.intake.TheConstants.{ROOM}
use Rattle.radio_workers.specs.Passes.{IsTakenOrLeft, all_parts, weigh}

module _ {L : Type 0} where
  -- nothing was put or taken
  abbrev pub idle : ℕ → Transfers L
  idle parts = record { parts = parts; put = []; taken = [] }

  -- one part fewer
  abbrev pub less_one : Transfers L → Transfers L
  less_one transfers = record transfers { parts = transfers.parts - 1 }

  -- what two have put and taken
  abbrev pub sum_of_transfers : Transfers L → Transfers L → Transfers L
  sum_of_transfers transfers other = record { parts = transfers.parts + other.parts; put = transfers.put ++ other.put; taken = transfers.taken ++ other.taken }

  -- for the thread that has all parts, what it has put and taken and what is left add up
  abbrev pub IsKnown : Transfers L → List L → Type 0
  IsKnown transfers left = transfers.parts ≡ all_parts → IsTakenOrLeft transfers.put transfers.taken left

  -- a line was put; if it has all parts, there was room
  abbrev pub IsPut : Transfers L → L → Transfers L → Type 0
  IsPut transfers line transfers' = (transfers' ≡ record transfers { put = transfers.put ++ line ∷ [] }) × (left : List L) × (length left < ROOM) × IsKnown transfers left

  -- a line was taken
  abbrev pub IsTaken : Transfers L → L → Transfers L → Type 0
  IsTaken transfers line transfers' = transfers' ≡ record transfers { taken = transfers.taken ++ line ∷ [] }

  -- a thread without a part has put and taken nothing
  abbrev pub IdleIsEmpty : List (Transfers L) → Type 0
  IdleIsEmpty threads = (pass : ℕ) (transfers : Transfers L) → get_elem? threads pass ≡ some transfers → transfers.parts ≡ 0 → (transfers.put ≡ []) × (transfers.taken ≡ [])

-- f of each, added up
abbrev pub sum_of : {A : Type 0} → (A → ℕ) → List A → ℕ
sum_of f [] = 0
sum_of f (x ∷ xs) = f x + sum_of f xs

module _ {L : Type 0} where
  abbrev pub part_count : Transfers L → ℕ
  part_count transfers = transfers.parts

  -- what one has put weighs so much
  abbrev pub put_by : (L → ℕ) → Transfers L → ℕ
  put_by weight transfers = weigh weight transfers.put

  -- what one has taken weighs so much
  abbrev pub taken_by : (L → ℕ) → Transfers L → ℕ
  taken_by weight transfers = weigh weight transfers.taken

  -- all parts are there, and what was put by all is what was taken by all and what is left
  abbrev pub IsBalanced : List L → List (Transfers L) → Type 0
  IsBalanced left threads =
      (sum_of part_count threads ≡ all_parts)
      × ((weight : L → ℕ) → sum_of (put_by weight) threads ≡ sum_of (taken_by weight) threads + weigh weight left)
      × IdleIsEmpty threads
