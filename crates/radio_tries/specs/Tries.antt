-- When relays are tried. Moments are in milliseconds.
use Rattle.std.specs.Prelude.{◌≡◌, ℕ, Bool, true, false, ◌-◌, ◌^◌, ◌||◌, nat_lt, List, ◌∷◌, [], ◌++◌, filter, map, Option, None, Some, is_some, if◌then◌else◌}
use Rattle.std.specs.List.{enumerate_from}
use Rattle.std.specs.BTreeMap.{insert_entry, is_at}
use Rattle.std.specs.Map.{lookup}
use Rattle.radio_connections.specs.Moments.{later}
use Rattle.radio_masters.specs.declared.failing.Failing.{Failing}
use Rattle.radio_masters.specs.declared.relay_end.RelayEnd.{RelayEnd}
use Rattle.radio_masters.specs.declared.relay_end.RelayEnd.TheVariants.{NotWished}
use Rattle.radio_masters.specs.declared.turns.WaitingRelay.{WaitingRelay}
use Rattle.radio_masters.specs.Ends.{keeps_place}
use Rattle.radio_settings_values.specs.declared.settings.RelaySetting.{RelaySetting}
use Rattle.radio_settings_values.specs.declared.settings.Settings.{Settings}
use Rattle.radio_relay.specs.Orders.{is_among_names, relay_at}
use Rattle.radio_relay.specs.StreamList.{name_order}
use Rattle.radio_tries.specs.declared.outcome.RelayOutcome.{RelayOutcome}
use Rattle.radio_tries.specs.declared.tries.RelayTry.{RelayTry}
use Rattle.radio_tries.specs.Pauses.{rest}

-- whether a relay has ended since it is not wished any more
abbrev pub is_not_wished : RelayEnd → Bool
is_not_wished NotWished = true
is_not_wished end = false

-- how the thread of a relay has ended: if it was to stop, that is why
abbrev pub outcome_of : Bool → RelayEnd → ℕ → Option Failing → RelayOutcome
outcome_of stopped why ms failing = record { why = if stopped then NotWished else why; ms = ms; failing = failing }

-- from which moment on the relay may be tried again: after a rest, or at once if it was not wished any more
-- rule: Ten seconds
abbrev pub due_after : RelayOutcome → ℕ
due_after outcome = if is_not_wished outcome.why then 0 else later outcome.ms rest

-- when relays were tried, by the mounts that they feed; and until when each place is kept that no relay has
pub record Trials : Type 0 where
  pub tried : List (List ℕ × RelayTry)
  pub kept : List ℕ

-- none was tried, and no place is kept
abbrev pub no_trials : Trials
no_trials = record { tried = []; kept = [] }

-- when the relay of a mount was tried, if it was
abbrev pub tried_at : List ℕ → Trials → Option RelayTry
tried_at mount trials = lookup (is_at (name_order mount)) trials.tried

-- from which moment on a relay may be tried: from the first if it never was
abbrev pub due_of : Option RelayTry → ℕ
due_of None = 0
due_of (Some tried) = tried.due_ms

-- how a relay has failed, if it has since it was up last
abbrev pub failing_of : Option RelayTry → Option Failing
failing_of None = None
failing_of (Some tried) = tried.failing

-- the last of all moments, from which on a relay may be tried that runs
abbrev pub never : ℕ
never = 2 ^ 64 - 1

-- a relay that is tried now, and has failed so before
abbrev pub started : Option Failing → RelayTry
started failing = record { due_ms = never; failing = failing }

-- a relay whose thread has ended
-- rule: Keeping a place
abbrev pub thread_ended : RelayOutcome → RelayTry
thread_ended outcome = record { due_ms = due_after outcome; failing = outcome.failing }

-- a relay that could not be started
abbrev pub not_started : ℕ → Option RelayTry → RelayTry
not_started due tried = record { due_ms = due; failing = failing_of tried }

-- until when places are kept, once a thread has ended so: one that keeps its place does so until the relay may be tried again
-- rule: Keeping a place
abbrev pub kept_after : RelayOutcome → List ℕ → List ℕ
kept_after outcome kept = if keeps_place outcome.why then kept ++ due_after outcome ∷ [] else kept

-- the places that are still kept at a moment
-- rule: Keeping a place
abbrev pub kept_at : ℕ → List ℕ → List ℕ
kept_at ms kept = filter (λ until. nat_lt ms until) kept

-- a relay is of the settings, or of this list
abbrev pub is_wanted_relay : Settings → List (List ℕ) → List ℕ → Bool
is_wanted_relay settings names mount = is_among_names names mount || is_some (relay_at settings mount)

-- a relay that waits for a place, by its number in the queue
abbrev pub waiting_of : Trials → ℕ × RelaySetting → WaitingRelay
waiting_of trials relay = record { due_ms = due_of (tried_at relay.1.local_mount trials); number = relay.0 }

-- all that wait, in the order of the queue
-- rule: Relay places
abbrev pub queue : Trials → List RelaySetting → List WaitingRelay
queue trials relays = map (waiting_of trials) (enumerate_from 0 relays)

-- how many relays may begin: as many run or are kept a place for as there may be sources
-- rule: Relay places
abbrev pub free_places : ℕ → ℕ → ℕ → ℕ
free_places sources running kept = (sources - running) - kept

-- the relay of a mount is tried now: each other mount has what it had
pub record IsStarted (mount : List ℕ) (before after : Trials) : Type 0 where
  pub this : after.tried ≡ insert_entry name_order before.tried mount (started (failing_of (tried_at mount before)))
  pub kept : after.kept ≡ before.kept
