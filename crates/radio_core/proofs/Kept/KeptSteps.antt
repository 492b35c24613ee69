-- a change of a state in which only a queue is kept of each stream is the change of the state; and blocks rise still
use Rattle.std.proofs.Common.{◌≡◌, ℕ, Option, None, Some, List, [], ◌∷◌, refl, ap, sym, subst, ◌∙◌, arith, length-append}
use Rattle.radio_core.proofs.Words.{not, fold, option_map, Rule, Lagged, SourceSilent, SourceKilled, Command, MoveClients, KillClient, KillSource, SetFallback, AddUser, DeleteUser, Each, Each_kept, Each_updated}
use Rattle.radio_core.proofs.Words.{Each_placed, with_ended, Nothing, Answer, Admit, Begin, Raise, Receive, TakeSeat, Advance, End, EndAndLeave, Forget, Tick, Obey, StationState, answered, done, session_ended_by}
use Rattle.radio_core.proofs.Words.{session_killed, changed, carried_along, session_over, session_ended, called_home, client_gone, laggards_ended, session_begun, session_raised, finished_in, before_silence}
use Rattle.radio_core.proofs.Words.{session_silenced, silent_in, ticked, on_air, is_on_air, is_taken_in, in_state, kept_session, kept_live, kept_of, kept_changed, Session, session_of, is_of, by_mount, opened}
use Rattle.radio_core.proofs.Words.{with_session, longer, fed, with_title, HasRisingStarts, end_of, with_block, lags_behind, World, Shown, To, station_called, rising_more, kept_found, kept_silent, kept_ends, fed_kept}
use Rattle.radio_core.proofs.Words.{titled_kept, ended_kept, begun_kept}
use Rattle.radio_events.specs.declared.command.Command.TheVariants.{SetTitle as NewTitle}
use Rattle.radio_parts_station.specs.declared.clients.ClientState.TheVariants.{Answered}
use Rattle.radio_parts_changes.specs.declared.change.Change.{Change}
use Rattle.radio_parts_changes.specs.declared.change.Change.TheVariants.{SetTitle}
use Rattle.radio_fallback.specs.declared.moves.Move.TheVariants.{Ended as HasEnded}
use Rattle.radio_core.proofs.Kept.KeptSights.{carried_alike, called_alike}

-- the world with other sessions
abbrev with_live : World → List Session → World
with_live w live = record w { station = record w.station { live = live } }

-- blocks rise still

longer_rises : (block : List ℕ) (moment : ℕ) (session : Session) → HasRisingStarts session → HasRisingStarts (longer block moment session)
longer_rises block moment session r =
    rising_more session.stream.starts (end_of session.stream) (end_of (with_block session.stream block))
    (omega (arith, length-append session.stream.bytes block)) r

rise_fed : (live : List Session) (mount block : List ℕ) (moment : ℕ) → Each HasRisingStarts live → Each HasRisingStarts (fed live mount block moment)
rise_fed live mount block moment rise = Each_updated HasRisingStarts (is_of mount) (longer block moment) (longer_rises block moment) live rise

rise_ended : (w : World) (mount : List ℕ) → Each HasRisingStarts w.station.live → Each HasRisingStarts (session_ended w mount).station.live
rise_ended w mount rise = Each_kept HasRisingStarts HasRisingStarts (λ session. not (is_of mount session)) (λ x r e. r) w.station.live rise

rise_silenced : (sessions : List Session) (w : World) → Each HasRisingStarts w.station.live
    → Each HasRisingStarts (fold session_silenced w sessions).station.live
rise_silenced [] w rise = rise
rise_silenced (session ∷ sessions) w rise = rise_silenced sessions (session_silenced w session) (rise_ended w session.mount rise)

rise_begun : (w : World) (id : ℕ) (mount : List ℕ) (shown : Shown) → Each HasRisingStarts w.station.live
    → Each HasRisingStarts (with_session w.station.live (opened mount id shown w.station.time))
rise_begun w id mount shown rise = Each_placed HasRisingStarts by_mount (opened mount id shown w.station.time) w.station.live tt rise

rise_killed : (w : World) → Each HasRisingStarts w.station.live → (found : Option Session) → Each HasRisingStarts (session_killed w found).station.live
rise_killed w rise None = rise
rise_killed w rise (Some session) = rise_ended w session.mount rise

rise_on_air : (w : World) → Each HasRisingStarts w.station.live → (mount title : List ℕ) → Each HasRisingStarts (on_air w mount title).station.live
rise_on_air w rise mount title = subst (λ (later : World). Each HasRisingStarts later.station.live) (sym (is_on_air w mount title))
    (Each_updated HasRisingStarts (is_of mount) (with_title (Some title)) (λ x r. r) w.station.live rise)

rise_done : (w : World) → Each HasRisingStarts w.station.live → (command : Command) → Each HasRisingStarts (done w command).station.live
rise_done w rise (MoveClients mount destination) = rise
rise_done w rise (KillClient mount listener) = rise
rise_done w rise (KillSource mount) = rise_killed w rise (session_of w.station.live mount)
rise_done w rise (NewTitle mount title) = rise_on_air w rise mount title
rise_done w rise (SetFallback mount fallback) = rise
rise_done w rise (AddUser mount user password) = rise
rise_done w rise (DeleteUser mount user) = rise

pub rise_changed : (w : World) → Each HasRisingStarts w.station.live → (change : Change) → Each HasRisingStarts (changed w change).station.live
rise_changed w rise Nothing = rise
rise_changed w rise (Answer id) = rise
rise_changed w rise (Admit id peer) = rise
rise_changed w rise (Begin id mount shown) =
    subst (λ (h : StationState). Each HasRisingStarts h.live) (sym (station_called (session_begun w id mount shown) mount))
    (rise_begun w id mount shown rise)
rise_changed w rise (Raise id mount shown) =
    subst (λ (h : StationState). Each HasRisingStarts h.live) (sym (station_called (session_raised w id mount shown) mount))
    (rise_begun w id mount shown rise)
rise_changed w rise (Receive mount block) =
    subst (λ (later : World). Each HasRisingStarts later.station.live) (sym (is_taken_in w mount block)) (rise_fed w.station.live mount block w.station.time rise)
rise_changed w rise (SetTitle mount title) = rise_on_air w rise mount title
rise_changed w rise (TakeSeat id seat) = rise
rise_changed w rise (Advance id place) = rise
rise_changed w rise (End id mount) = rise_ended w mount rise
rise_changed w rise (EndAndLeave id mount) = rise_ended w mount rise
rise_changed w rise (Forget id) = rise
rise_changed w rise (Tick ms) =
    let later = before_silence w ms in
    rise_silenced (silent_in later) later rise
rise_changed w rise (Obey id command) = rise_done (answered w id) rise command

-- sessions end alike

module _ (w : World) where
  abbrev queue : ℕ
  queue = w.station.settings.limits.queue_size

  over_alike : (mount : List ℕ) → session_over (kept_of w) mount ≡ kept_of (session_over w mount)
  over_alike mount = ap (λ (live : List Session). with_live w live) (ended_kept queue w.station.live mount)

  ended_alike : (mount : List ℕ) → Each HasRisingStarts w.station.live → session_ended (kept_of w) mount ≡ kept_of (session_ended w mount)
  ended_alike mount rise =
      ap (λ (v : World). carried_along v (HasEnded mount)) (over_alike mount) ∙ carried_alike (session_over w mount) (rise_ended w mount rise) (HasEnded mount)

  ended_by_alike : (rule : Rule) (session : Session) → Each HasRisingStarts w.station.live
      → session_ended_by rule (kept_of w) (kept_session queue session) ≡ kept_of (session_ended_by rule w session)
  ended_by_alike rule session rise =
      ap (λ (v : World). record v { station = finished_in v.station session.number rule }) (ended_alike session.mount rise)

  killed_alike : (found : Option Session) → Each HasRisingStarts w.station.live
      → session_killed (kept_of w) (option_map (kept_session queue) found) ≡ kept_of (session_killed w found)
  killed_alike None rise = refl
  killed_alike (Some session) rise = ended_by_alike SourceKilled session rise

  on_air_alike : (mount title : List ℕ) → on_air (kept_of w) mount title ≡ kept_of (on_air w mount title)
  on_air_alike mount title =
      is_on_air (kept_of w) mount title ∙ ap (λ (live : List Session). with_live w live) (titled_kept queue w.station.live mount title)
      ∙ ap kept_of (sym (is_on_air w mount title))

  -- a command is done alike
  done_alike : Each HasRisingStarts w.station.live → (command : Command) → done (kept_of w) command ≡ kept_of (done w command)
  done_alike rise (MoveClients mount destination) = carried_alike w rise (To mount destination)
  done_alike rise (KillClient mount listener) = refl
  done_alike rise (KillSource mount) = ap (session_killed (kept_of w)) (kept_found queue w.station.live mount) ∙ killed_alike (session_of w.station.live mount) rise
  done_alike rise (NewTitle mount title) = on_air_alike mount title
  done_alike rise (SetFallback mount fallback) = refl
  done_alike rise (AddUser mount user password) = refl
  done_alike rise (DeleteUser mount user) = refl

silence_kept : (sessions : List Session) (w : World) → Each HasRisingStarts w.station.live
    → fold session_silenced (kept_of w) (kept_live w.station.settings.limits.queue_size sessions) ≡ kept_of (fold session_silenced w sessions)
silence_kept [] w rise = refl
silence_kept (session ∷ sessions) w rise =
    ap (λ (v : World). fold session_silenced v (kept_live w.station.settings.limits.queue_size sessions)) (ended_by_alike w SourceSilent session rise)
    ∙ silence_kept sessions (session_silenced w session) (rise_ended w session.mount rise)

module _ (w : World) (rise : Each HasRisingStarts w.station.live) where
  received_alike : (mount block : List ℕ) → kept_changed (kept_of w) (Receive mount block) ≡ kept_of (changed w (Receive mount block))
  received_alike mount block =
      let live = fed w.station.live mount block w.station.time in
      ap (λ (sessions : List Session). laggards_ended (with_live w sessions) mount) (fed_kept (queue w) w.station.live mount block w.station.time rise)
      ∙ ap (λ (end : ℕ). record (with_live w (kept_live (queue w) live)) { seats = with_ended w.seats (lags_behind mount end (queue w)) Lagged })
      (kept_ends (queue w) live mount (rise_fed w.station.live mount block w.station.time rise))
      ∙ ap kept_of (sym (is_taken_in w mount block))

  ticked_alike : (ms : ℕ) → ticked (kept_of w) ms ≡ kept_of (ticked w ms)
  ticked_alike ms =
      let later = before_silence w ms in
      ap (λ (sessions : List Session). fold session_silenced (kept_of later) sessions)
      (kept_silent (queue w) later.station.live later.station.settings.limits.source_timeout later.station.time)
      ∙ silence_kept (silent_in later) later rise

  pub changed_kept : (change : Change) → kept_changed (kept_of w) change ≡ kept_of (changed w change)
  changed_kept Nothing = refl
  changed_kept (Answer id) = refl
  changed_kept (Admit id peer) = refl
  changed_kept (Begin id mount shown) =
      let up = session_begun w id mount shown in
      ap (λ (live : List Session). called_home (with_live up live) mount) (begun_kept (queue w) w.station.live (opened mount id shown w.station.time))
      ∙ called_alike up (rise_begun w id mount shown rise) mount
  changed_kept (Raise id mount shown) =
      let up = session_raised w id mount shown in
      ap (λ (live : List Session). called_home (with_live up live) mount) (begun_kept (queue w) w.station.live (opened mount id shown w.station.time))
      ∙ called_alike up (rise_begun w id mount shown rise) mount
  changed_kept (Receive mount block) = received_alike mount block
  changed_kept (SetTitle mount title) = on_air_alike w mount title
  changed_kept (TakeSeat id seat) = refl
  changed_kept (Advance id place) = refl
  changed_kept (End id mount) = ap (λ (v : World). record v { station = record v.station { clients = in_state v.station.clients id Answered } }) (ended_alike w mount rise)
  changed_kept (EndAndLeave id mount) = ap (λ (v : World). client_gone v id) (ended_alike w mount rise)
  changed_kept (Forget id) = refl
  changed_kept (Tick ms) = ticked_alike ms
  changed_kept (Obey id command) = done_alike (answered w id) rise command
