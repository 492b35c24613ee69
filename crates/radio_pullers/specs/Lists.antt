-- The list of a slave's master.
use Rattle.std.specs.Prelude.{◌≡◌, ℕ, true, List, Ok}
use Rattle.radio_masters.specs.ListAnswers.{IsListBody}
use Rattle.radio_relay.specs.StreamList.{names_listed}

-- names are those of a whole answer of the master
-- rule: List of a slave
abbrev pub IsListOfAnswer : List (List ℕ) → Type 0
IsListOfAnswer names = (answer body : List ℕ) × IsListBody answer true (Ok body) × (names ≡ names_listed body)
