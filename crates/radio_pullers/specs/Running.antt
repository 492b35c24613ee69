-- The relays that run.
use Rattle.std.specs.Prelude.{◌≡◌, ◌<◌, ℕ, Bool, List, [], map, Option}
use Rattle.std.specs.Str.{bytes_eq}
use lib.Pointwise.{pointwise}
use Rattle.radio_masters.specs.declared.failing.Failing.{Failing}
use Rattle.radio_masters.specs.declared.turns.WaitingRelay.{WaitingRelay}
use Rattle.radio_masters.specs.Turns.{HaveTheirTurn}
use Rattle.radio_settings_values.specs.declared.settings.RelaySetting.{RelaySetting}
use Rattle.radio_tries.specs.Tries.{free_places}

-- a relay that has begun, and how it had failed before
pub record Begun : Type 0 where
  pub setting : RelaySetting
  pub failing : Option Failing

-- the mounts that relays feed
abbrev pub pulled_mounts : List Begun → List (List ℕ)
pulled_mounts relays = map (λ (relay : Begun). relay.setting.local_mount) relays

-- whether these are the same names in the same order
abbrev pub are_same : List (List ℕ) → List (List ℕ) → Bool
are_same names others = pointwise bytes_eq names others

-- those of the waiting relays that begin at a moment. They have their turn in the places that are free, by how many sources there
-- may be, how many relays run, and how many places are kept
pub record IsChosen (ms sources running kept : ℕ) (waiting chosen : List WaitingRelay) : Type 0 where
  pub turn : 0 < free_places sources running kept → HaveTheirTurn ms (free_places sources running kept) waiting chosen
  pub full : free_places sources running kept ≡ 0 → chosen ≡ []
