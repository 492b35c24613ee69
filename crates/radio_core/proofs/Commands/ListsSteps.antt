-- what an event does to the lists of who is let in
use Rattle.std.proofs.Common.{◌≡◌, ◌+◌, ap, sym, subst}
use Rattle.radio_core.proofs.Words.{Lists, Command, MoveClients, KillClient, KillSource, SetTitle, SetFallback, AddUser, DeleteUser, Event, Obey, Outcome, StationState, shown_for, World, session_of, IsCommanded}
use Rattle.radio_core.proofs.Words.{answered, changed, session_begun, session_raised, IsSound, outcome, world_after, Way, Misplaced, IsFinished, IsDenied, IsRefused, IsAdmitted, Begins, ComesUp, Receives, SetsTitle}
use Rattle.radio_core.proofs.Words.{TakesSeat, HandsOut, Ends, EndsAndLeaves, Leaves, GoesDown, Obeys, Shows, HasPassed, Ticks, station_called, way_of}
use Rattle.radio_core.specs.ListsSteps.{ListsStep, Stay, IsAdded, IsDeleted, ListsAreStepped}
use Rattle.radio_core.proofs.Commands.CommandLemmas.{killed_lists}
use Rattle.radio_core.proofs.Sessions.TickLemmas.{ticked_fates}

module _ (w : World) (s : IsSound w) where
  -- they stay as they are
  stays : (event : Event) {later : Lists} → later ≡ w.station.lists → ListsStep w event w.station.lists later
  stays event same = subst (λ (x : Lists). ListsStep w event w.station.lists x) (sym same) Stay

  obeys : (event : Event) (command : Command) (c : IsCommanded w event command)
      → ListsStep w event w.station.lists (changed w (Obey c.asked.id command)).station.lists
  obeys event (MoveClients mount destination) c = Stay
  obeys event (KillClient mount listener) c = Stay
  obeys event (KillSource mount) c = stays event (killed_lists (answered w c.asked.id) (session_of w.station.live mount))
  obeys event (SetTitle mount text) c = Stay
  obeys event (SetFallback mount fallback) c = Stay
  obeys event (AddUser mount user password) c = IsAdded mount user password c
  obeys event (DeleteUser mount user) c = IsDeleted mount user c

  step_by : (event : Event) (o : Outcome) → Way w event o → ListsStep w event w.station.lists (changed w o.change).station.lists
  step_by event o (Ticks ms e) = stays event (ticked_fates w s ms).lists
  step_by event o (Misplaced _) = Stay
  step_by event o (IsFinished _ him by its known) = Stay
  step_by event o (IsDenied _ by v nobody) = Stay
  step_by event o (IsRefused _ him by v its undecided) = Stay
  step_by event o (IsAdmitted peer allowed) = Stay
  step_by event o (Begins asked undecided none allowed) =
      let same = station_called (session_begun w asked.id asked.mount (shown_for w.station asked.mount asked.shown)) asked.mount in
      stays event (ap (λ (h : StationState). h.lists) same)
  step_by event o (ComesUp there shown none allowed) =
      let same = station_called (session_raised w (w.station.last_id + 1) there (shown_for w.station there shown)) there in
      stays event (ap (λ (h : StationState). h.lists) same)
  step_by event o (Receives him fed block feeding) = Stay
  step_by event o (SetsTitle him fed text feeding) = Stay
  step_by event o (TakesSeat asked peer session undecided lands live allowed) = Stay
  step_by event o (HandsOut him room seat session sits has live) = Stay
  step_by event o (Ends him fed feeding no_relay) = Stay
  step_by event o (EndsAndLeaves _ him fed closes feeding) = Stay
  step_by event o (Leaves him no_relay other) = Stay
  step_by event o (GoesDown him rule relay told) = Stay
  step_by event o (Shows _ asker peer text its undecided what) = Stay
  step_by event o (Obeys _ command c) = obeys event command c
  step_by event o (HasPassed ms e) = Stay

  pub lists_step : (event : Event) → ListsAreStepped w event
  unfolding world_after
  lists_step event = step_by event (outcome w event) (way_of w event)
