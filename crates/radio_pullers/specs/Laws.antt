-- What holds of relays that are kept running.
use Rattle.std.specs.Prelude.{◌≡◌, ◌≤◌, ◌+◌, ℕ, List, length}
use Rattle.radio_masters.specs.declared.turns.WaitingRelay.{WaitingRelay}
use Rattle.radio_pullers.specs.Running.{IsChosen}

-- with those that run, and the places that are kept, no more relays begin than there may be sources
abbrev pub RelaysFitTheSources : Type 0
RelaysFitTheSources = (ms sources running kept : ℕ) (waiting chosen : List WaitingRelay) → IsChosen ms sources running kept waiting chosen
    → running + kept ≤ sources → running + kept + length chosen ≤ sources

-- none begins if those are as many already
abbrev pub FullStationsBeginNone : Type 0
FullStationsBeginNone = (ms sources running kept : ℕ) (waiting chosen : List WaitingRelay) → IsChosen ms sources running kept waiting chosen
    → sources ≤ running + kept → length chosen ≡ 0
