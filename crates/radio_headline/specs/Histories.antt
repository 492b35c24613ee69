-- What holds of a history, as a settled book gives it.
use Rattle.std.specs.Prelude.{◌≡◌, ℕ, List, [], ◌∷◌, ◌++◌, map}
use Rattle.radio_settings_values.specs.declared.settings.Settings.{Settings}
use Rattle.radio_access.specs.Lists.{Lists}
use Rattle.radio_events.specs.declared.event.Event.{Event}
use Rattle.radio_icy.specs.Weaving.{Call}
use Rattle.radio_icy.specs.Stream.{sound_of_calls}
use Rattle.radio_core.specs.Handing.{of_client, delivered}
use Rattle.radio_core.specs.Run.{run_after}
use Rattle.radio_parts.specs.Step.{reply_to}
use Rattle.radio_parts_station.specs.World.{opening}
use Rattle.radio_laws.specs.Stretches.{sittings, AreStretches}
use Rattle.radio_session.specs.Told.{draws_of}
use Rattle.radio_events.specs.declared.entry.Entry.{Entry}
use Rattle.radio_chronicle.specs.History.{IsRun}
use Rattle.radio_headline.specs.Lawful.{IsLawful}
use Rattle.radio_headline.specs.Listeners.{DrawsAreCut}
use Rattle.radio_headline.specs.Sources.{NobodyDelivers}

abbrev pub events_noted : List Entry → List Event
events_noted history = map (λ e. e.event) history

-- the draws of the listener of this number, as they are noted, in their order
abbrev pub draws_noted : List Entry → ℕ → List Call
draws_noted [] id = []
draws_noted (e ∷ history) id = of_client e.event id (draws_of (e.reply ∷ [])) ++ draws_noted history id

-- each reply that was noted is that of a step from the state after the entries before it, and lawful. The data in the noted draws of a
-- listener are slices, joined in order, one for each of its sittings. Each slice is of what the source of its session delivered, or
-- is empty if it waited for a session. The split between two slices is the moment at which it sat down
pub record IsLawfulHistory (settings : Settings) (lists : Lists) (history : List Entry) : Type 0 where
  pub replies : (before after : List Entry) (entry : Entry) → history ≡ before ++ entry ∷ after
      → entry.reply ≡ reply_to (run_after settings lists (events_noted before)) entry.event
  pub lawful : (before after : List Entry) (entry : Entry) → history ≡ before ++ entry ∷ after
      → IsLawful settings lists (events_noted before) entry.event
  pub slices : (id : ℕ) → AreStretches (delivered (opening settings lists) (events_noted history))
      (sittings (opening settings lists) (events_noted history) id) (sound_of_calls (draws_noted history id))
  pub cut : (id : ℕ) → DrawsAreCut settings lists (events_noted history) id
  pub nobody : NobodyDelivers settings lists (events_noted history)

-- a history that is a run from the opening state is lawful
abbrev pub HistoriesAreLawful : Type 0
HistoriesAreLawful = (settings : Settings) (lists : Lists) (history : List Entry) → IsRun (opening settings lists) history
    → IsLawfulHistory settings lists history
