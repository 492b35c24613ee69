-- what an outcome makes of the fallbacks that were set, and of the number that was given last
use Rattle.std.proofs.Common.{◌+◌, ◌≡◌, ℕ, Option, Some, None, List, [], ◌∷◌, refl, ap}
use Rattle.radio_laws.proofs.Words.{fold, Session, session_of, with_fallback, StationState, shown_for, World, MoveClients, KillClient, KillSource, SetFallback, AddUser, DeleteUser, Event, Obey, answered, changed}
use Rattle.radio_laws.proofs.Words.{before_silence, silent_in, session_silenced, session_killed, session_begun, session_raised, Outcome, IsCommanded, outcome, world_after, Way, Misplaced, IsFinished, IsDenied, IsRefused}
use Rattle.radio_laws.proofs.Words.{IsAdmitted, Begins, ComesUp, Receives, SetsTitle, TakesSeat, HandsOut, Ends, EndsAndLeaves, Leaves, GoesDown, Obeys, Shows, HasPassed, Ticks, station_called, way_of}
use Rattle.radio_events.specs.declared.command.Command.{Command as TheCommand}
use Rattle.radio_events.specs.declared.command.Command.TheVariants.{SetTitle as NewTitle}
use Rattle.radio_core.proofs.Commands.CommandLemmas.{obeyed_last}

pub data StationStep (w : World) (event : Event) (station : StationState) : Type 0 where
  -- they are as they were
  IsAlike : station.fallbacks ≡ w.station.fallbacks → station.last_id ≡ w.station.last_id → StationStep w event station
  -- the next number is given
  GivesNumber : station.fallbacks ≡ w.station.fallbacks → station.last_id ≡ w.station.last_id + 1 → StationStep w event station
  -- a command sets a fallback
  SetsFallback : (mount : List ℕ) (fallback : Option (List ℕ)) → IsCommanded w event (SetFallback mount fallback)
      → station.fallbacks ≡ with_fallback w.station.fallbacks mount fallback → station.last_id ≡ w.station.last_id → StationStep w event station

-- the end of sessions leaves them as they are
pub silence_keeps : (sessions : List Session) (v : World) → ((fold session_silenced v sessions).station.fallbacks ≡ v.station.fallbacks)
    × ((fold session_silenced v sessions).station.last_id ≡ v.station.last_id)
silence_keeps [] v = (refl, refl)
silence_keeps (session ∷ sessions) v = silence_keeps sessions (session_silenced v session)

module _ (w : World) where
  killed_sets : (him : ℕ) (found : Option Session) → (session_killed (answered w him) found).station.fallbacks ≡ w.station.fallbacks
  killed_sets him None = refl
  killed_sets him (Some session) = refl

  by_command : (event : Event) (command : TheCommand) (c : IsCommanded w event command) → StationStep w event (changed w (Obey c.asked.id command)).station
  by_command event (MoveClients mount destination) c = IsAlike refl refl
  by_command event (KillClient mount listener) c = IsAlike refl refl
  by_command event (KillSource mount) c =
      IsAlike (killed_sets c.asked.id (session_of w.station.live mount)) (obeyed_last w c.asked.id (KillSource mount))
  by_command event (NewTitle mount text) c = IsAlike refl refl
  by_command event (SetFallback mount fallback) c = SetsFallback mount fallback c refl refl
  by_command event (AddUser mount user password) c = IsAlike refl refl
  by_command event (DeleteUser mount user) c = IsAlike refl refl

  by_way : (event : Event) (o : Outcome) → Way w event o → StationStep w event (changed w o.change).station
  by_way event o (Misplaced _) = IsAlike refl refl
  by_way event o (IsFinished _ him rule its told) = IsAlike refl refl
  by_way event o (IsDenied _ rule v nobody) = IsAlike refl refl
  by_way event o (IsRefused _ him rule v its undecided) = IsAlike refl refl
  by_way event o (IsAdmitted peer allowed) = GivesNumber refl refl
  by_way event o (Begins asked undecided none allowed) =
      let same = station_called (session_begun w asked.id asked.mount (shown_for w.station asked.mount asked.shown)) asked.mount in
      IsAlike (ap (λ (station : StationState). station.fallbacks) same) (ap (λ (station : StationState). station.last_id) same)
  by_way event o (ComesUp mount shown unfed allowed) =
      let same = station_called (session_raised w (w.station.last_id + 1) mount (shown_for w.station mount shown)) mount in
      GivesNumber (ap (λ (station : StationState). station.fallbacks) same) (ap (λ (station : StationState). station.last_id) same)
  by_way event o (Receives him mount block feeding) = IsAlike refl refl
  by_way event o (SetsTitle him mount text feeding) = IsAlike refl refl
  by_way event o (TakesSeat asked peer session undecided lands live allowed) = IsAlike refl refl
  by_way event o (HandsOut him room seat session sits has live) = IsAlike refl refl
  by_way event o (Ends him mount feeding no_relay) = IsAlike refl refl
  by_way event o (EndsAndLeaves _ him mount closes feeding) = IsAlike refl refl
  by_way event o (Leaves him no_relay other) = IsAlike refl refl
  by_way event o (GoesDown him rule relay told) = IsAlike refl refl
  by_way event o (Obeys _ command c) = by_command event command c
  by_way event o (Shows _ asker peer text its undecided what) = IsAlike refl refl
  by_way event o (HasPassed ms e) = IsAlike refl refl
  by_way event o (Ticks ms e) = let same = silence_keeps (silent_in (before_silence w ms)) (before_silence w ms) in IsAlike same.0 same.1

  pub station_step : (event : Event) → StationStep w event (world_after w event).station
  unfolding world_after
  station_step event = by_way event (outcome w event) (way_of w event)
