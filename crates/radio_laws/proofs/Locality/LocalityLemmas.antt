-- what an event does depends on the mounts that it can reach
use Rattle.std.proofs.Common.{◌≡◌, Bool, true, false, ℕ, Option, Some, None, List, refl, ap, sym, subst, ◌∙◌}
use Rattle.radio_laws.proofs.Words.{◌+◌, length, bytes_eq-Decides, found_passes, Shown, options_for, Lagged, Killed, Listener, Seat, Session, is_of, session_of, opened, with_session, fed, titled, lags_behind, To}
use Rattle.radio_laws.proofs.Words.{MoveClients, KillClient, KillSource, SetFallback, AddUser, DeleteUser, Event, Command, Draw, Change, Nothing, Begin, Raise, Receive, End, EndAndLeave, Tick, Obey, Outcome, Feeds}
use Rattle.radio_laws.proofs.Words.{changed, session_over, session_ended, session_killed, answered, laggards_ended, block_received, on_air, is_taken_in, is_on_air, received, retitled, kept_taken_in, kept_changed}
use Rattle.radio_laws.proofs.Words.{kept_fed, MayDraw, CanStep, control_after, planned, uncounted, planned_so, sits_last, Closes, OfClient, OfRelay, IsCommanded, end_in, first_seat, shown_for, data_at, StationState}
use Rattle.radio_laws.proofs.Words.{outcome, reply_to, world_after, Way, Misplaced, IsFinished, IsDenied, IsRefused, IsAdmitted, Begins, ComesUp, Receives, SetsTitle, TakesSeat, HandsOut, Ends, EndsAndLeaves, Leaves}
use Rattle.radio_laws.proofs.Words.{GoesDown, Obeys, Shows, HasPassed, Ticks, World, standing_of, killed_seat, way_of, AgreeWithin, SessionsAgree, SameSession, ListenersAgree, SameListener, IsAll, IsWithinReach}
use Rattle.radio_laws.proofs.Words.{LastWithin, ReachesWithin, AsksWithin, ComesUpWithin, WalksWithin, AnswersAlike, Lists, with_user_at, without_user_at, ListenerPassword, seat_in, seat_of, with_ended, with_session_at}
use Rattle.radio_laws.proofs.Words.{is_shut_out}
use Rattle.radio_fallback.specs.declared.moves.Move.TheVariants.{Ended as HasEnded}
use Rattle.radio_events.specs.declared.command.Asked.TheVariants.{Command as Asks}
use Rattle.radio_events.specs.declared.command.Command.{Command as TheCommand}
use Rattle.radio_events.specs.declared.command.Command.TheVariants.{SetTitle as NewTitle}
use Rattle.radio_laws.proofs.Locality.AgreeingLists.{agree_all}
use Rattle.radio_laws.proofs.Locality.Agreeing.{beyond, SessionsDo, session_alike, with_session_alike, without_session_alike, fed_alike, titled_alike, ListenersDo}
use Rattle.radio_laws.proofs.Locality.Agreeing.{with_seat_alike, without_alike, with_place_alike, with_end_alike, with_ended_alike, given_alike, listener_same, kept_fed_alike}
use Rattle.radio_laws.proofs.Locality.AgreeingWalks.{carried_alike}
use Rattle.radio_laws.proofs.Locality.AgreeingOutcomes.{in_place, onward_by, all_one, standing_alike, outcome_alike}
use Rattle.radio_laws.proofs.Locality.Agreeing.{none_out}

-- a state agrees with itself
pub agrees : (within : List ℕ → Bool) (w : World) → AgreeWithin within w w
agrees within w = record {
  station = refl;
  sessions = agree_all (SessionsAgree within) (λ a. SameSession refl) w.station.live;
  listeners = agree_all (ListenersAgree within) (λ a. SameListener refl) w.seats;
}

-- what an allowed command reaches is what was asked
pub asks_within : (within : List ℕ → Bool) (w : World) (event : Event) (command : TheCommand) → IsCommanded w event command → ReachesWithin w within event
    → AsksWithin w within (Asks command)
asks_within within w event command c near =
    let its : ReachesWithin w within (Command c.asked) = subst (ReachesWithin w within) c.is_event near in
    subst (AsksWithin w within) c.is_asked its

-- states agree if they are equal to states that agree
comes_alike : (within : List ℕ → Bool) (a b x y : World) → a ≡ x → b ≡ y → AgreeWithin within x y → AgreeWithin within a b
comes_alike within a b x y one two agree =
    subst (λ (c : World). AgreeWithin within c b) (sym one) (subst (λ (c : World). AgreeWithin within x c) (sym two) agree)

-- and after a title is set in both
on_air_alike : (within : List ℕ → Bool) (x y : World) (mount title : List ℕ) → AgreeWithin within x y
    → AgreeWithin within (on_air x mount title) (on_air y mount title)
on_air_alike within x y mount title agree =
    comes_alike within (on_air x mount title) (on_air y mount title)
    (record x { station = retitled x.station mount title }) (record y { station = retitled y.station mount title }) (is_on_air x mount title) (is_on_air y mount title)
    (record {
      station = ap (λ (station : StationState). record station { live = titled x.station.live mount title }) agree.station;
      sessions = titled_alike within x.station.live y.station.live agree.sessions mount title;
      listeners = agree.listeners;
    })

module _ (within : List ℕ → Bool) (w : World) (live : List Session) (seats : List Listener) (r : SessionsDo within live w.station.live) (s : ListenersDo within seats w.seats) where
  abbrev v : World
  v = in_place w live seats

  abbrev Agree : Change → Type 0
  Agree change = AgreeWithin within (changed v change) (changed w change)

  all_agree : IsAll within → (change : Change) → Agree change
  all_agree all change =
      subst (λ (x : World). AgreeWithin within (changed x change) (changed w change)) (sym (all_one within w live seats r s all)) (agrees within (changed w change))

  -- a session begins, and the listeners that wait for one draw it
  heard_by_all : (id : ℕ) (mount : List ℕ) (shown : Shown)
      → SessionsDo within (with_session live (opened mount id shown w.station.time)) (with_session w.station.live (opened mount id shown w.station.time))
      × ListenersDo within (with_session_at seats mount id) (with_session_at w.seats mount id)
  heard_by_all id mount shown = (
    with_session_alike within live w.station.live r (opened mount id shown w.station.time),
    given_alike within seats w.seats s mount id,
  )

  -- if its mount calls its listeners home, all is within reach
  begins : (id : ℕ) (mount : List ℕ) (shown : Shown) → ComesUpWithin w within mount → Agree (Begin id mount shown)
  begins id mount shown near = by_home (options_for w.station.settings mount).listeners.fallback_override refl where
    by_home : (home : Bool) → (options_for w.station.settings mount).listeners.fallback_override ≡ home → Agree (Begin id mount shown)
    by_home true e = all_agree (near.home e) (Begin id mount shown)
    by_home false e = let given = heard_by_all id mount shown in rw e (record { station = refl; sessions = given.0; listeners = given.1 })

  raises : (id : ℕ) (mount : List ℕ) (shown : Shown) → ComesUpWithin w within mount → Agree (Raise id mount shown)
  raises id mount shown near = by_home (options_for w.station.settings mount).listeners.fallback_override refl where
    by_home : (home : Bool) → (options_for w.station.settings mount).listeners.fallback_override ≡ home → Agree (Raise id mount shown)
    by_home true e = all_agree (near.home e) (Raise id mount shown)
    by_home false e = let given = heard_by_all id mount shown in rw e (record { station = refl; sessions = given.0; listeners = given.1 })

  -- each listener that is too far behind the end of the mount's stream loses its seat
  laggards_alike : (mount : List ℕ) → within mount ≡ true → (one other : List Session) → SessionsDo within one other
      → AgreeWithin within (laggards_ended (in_place w one seats) mount) (laggards_ended (in_place w other w.seats) mount)
  laggards_alike mount near one other longer =
      let same = session_alike within one other longer mount near in
      record {
        station = refl;
        sessions = longer;
        listeners = rw same (with_ended_alike within seats w.seats s
            (lags_behind mount (end_in (session_of other mount)) w.station.settings.limits.queue_size) Lagged (none (end_in (session_of other mount))));
      } where
        none : (end : ℕ) (seat : Seat) → within seat.mount ≡ false → lags_behind mount end w.station.settings.limits.queue_size seat ≡ false
        none end seat out = rw (beyond within seat.mount mount out near) refl

  -- a block comes
  receives : (mount block : List ℕ) → within mount ≡ true → Agree (Receive mount block)
  receives mount block near =
      comes_alike within (block_received v mount block) (block_received w mount block) (laggards_ended (record v { station = received v.station mount block }) mount)
      (laggards_ended (record w { station = received w.station mount block }) mount) (is_taken_in v mount block) (is_taken_in w mount block)
      (laggards_alike mount near (fed live mount block w.station.time) (fed w.station.live mount block w.station.time)
      (fed_alike within live w.station.live r mount block w.station.time))

  -- a session ends, and its listeners walk on
  over : (mount : List ℕ) → SessionsDo within (session_over v mount).station.live (session_over w mount).station.live
  over mount = without_session_alike within live w.station.live r mount

  walked : (mount : List ℕ) → WalksWithin w within mount → ListenersDo within (session_ended v mount).seats (session_ended w mount).seats
  walked mount near =
      carried_alike within (session_over w mount) (session_over v mount).station.live (over mount) (HasEnded mount)
      (near.there, onward_by within w near.onward live r) seats w.seats s

  ends : (id : ℕ) (mount : List ℕ) → WalksWithin w within mount → Agree (End id mount)
  ends id mount near = record { station = refl; sessions = over mount; listeners = walked mount near }

  ends_and_leaves : (id : ℕ) (mount : List ℕ) → WalksWithin w within mount → Agree (EndAndLeave id mount)
  ends_and_leaves id mount near = record {
    station = refl;
    sessions = over mount;
    listeners = without_alike within (session_ended v mount).seats (session_ended w mount).seats (walked mount near) id;
  }

  -- the listeners at the mount whom its users do not let in lose their seats
  outsiders_alike : (lists : Lists) (mount : List ℕ) → within mount ≡ true
      → ListenersDo within (with_ended seats (is_shut_out lists mount) ListenerPassword) (with_ended w.seats (is_shut_out lists mount) ListenerPassword)
  outsiders_alike lists mount near =
      with_ended_alike within seats w.seats s (is_shut_out lists mount) ListenerPassword (λ seat out. none_out within lists mount seat out near)

  -- a command is done
  obeys : (event : Event) (id : ℕ) (command : TheCommand) → IsCommanded w event command → AsksWithin w within (Asks command) → Agree (Obey id command)
  obeys event id (MoveClients mount destination) c near = record {
    station = refl;
    sessions = r;
    listeners = carried_alike within (answered w id) live r (To mount destination) near seats w.seats s;
  }
  obeys event id (KillClient mount listener) c near =
      let his = killed_seat w event mount listener c in
      record {
        station = refl;
        sessions = r;
        listeners = with_end_alike within seats w.seats s listener (his.0, his.1, ap within his.2 ∙ near) Killed;
      }
  obeys event id (KillSource mount) c near =
      rw (session_alike within live w.station.live r mount near.there) (by_session (session_of w.station.live mount) refl) where
        by_session : (session : Option Session) → session_of w.station.live mount ≡ session
            → AgreeWithin within (session_killed (answered v id) session) (session_killed (answered w id) session)
        by_session None e = record { station = refl; sessions = r; listeners = s }
        by_session (Some session) e =
            let named : session.mount ≡ mount = (bytes_eq-Decides session.mount mount).0 (found_passes (is_of mount) w.station.live session e) in
            record {
              station = refl;
              sessions = over session.mount;
              listeners = walked session.mount (record { there = ap within named ∙ near.there; onward = near.onward });
            }
  obeys event id (NewTitle mount title) c near =
      on_air_alike within (answered v id) (answered w id) mount title (record { station = refl; sessions = r; listeners = s })
  obeys event id (SetFallback mount fallback) c near = record { station = refl; sessions = r; listeners = s }
  obeys event id (AddUser mount user password) c near = record {
    station = refl;
    sessions = r;
    listeners = outsiders_alike (with_user_at w.station.lists mount user password) mount near;
  }
  obeys event id (DeleteUser mount user) c near = record {
    station = refl;
    sessions = r;
    listeners = outsiders_alike (without_user_at w.station.lists mount user) mount near;
  }

  -- what the event changes
  unchanged : Agree Nothing
  unchanged = record { station = refl; sessions = r; listeners = s }

  closes : (event : Event) (id : ℕ) (mount : List ℕ) → Closes w id event → standing_of w id ≡ Feeds mount → ReachesWithin w within event → WalksWithin w within mount
  closes _ id mount (OfClient no_relay) feeding near = near mount feeding
  closes _ id mount (OfRelay relay) feeding near = near mount feeding

  by_way : (event : Event) (o : Outcome) → Way w event o → ReachesWithin w within event → Agree o.change
  by_way event o (Misplaced _) near = unchanged
  by_way event o (IsFinished _ him by its known) near = unchanged
  by_way event o (IsDenied _ by verdict nobody) near = unchanged
  by_way event o (IsRefused _ him by verdict its undecided) near = record { station = refl; sessions = r; listeners = s }
  by_way event o (IsAdmitted peer allowed) near = record { station = refl; sessions = r; listeners = s }
  by_way event o (Begins asked undecided none allowed) near = begins asked.id asked.mount (shown_for w.station asked.mount asked.shown) near
  by_way event o (ComesUp mount shown unfed allowed) near = raises (w.station.last_id + 1) mount (shown_for w.station mount shown) near
  by_way event o (Receives him mount block feeding) near = receives mount block (near mount feeding)
  by_way event o (SetsTitle him mount title feeding) near = on_air_alike within v w mount title unchanged
  by_way event o (TakesSeat asked peer session undecided lands is_live allowed) near = record {
    station = refl;
    sessions = r;
    listeners = with_seat_alike within seats w.seats s asked.id (first_seat w.station asked peer session);
  }
  by_way event o (HandsOut him room seat session sits has is_live) near = record {
    station = refl;
    sessions = r;
    listeners = with_place_alike within seats w.seats s him (seat.place + length (data_at session.stream seat.place room));
  }
  by_way event o (Ends him mount feeding no_relay) near = ends him mount (near mount feeding)
  by_way event o (EndsAndLeaves _ him mount closing feeding) near = ends_and_leaves him mount (closes event him mount closing feeding near)
  by_way event o (Leaves him no_relay other) near = record { station = refl; sessions = r; listeners = without_alike within seats w.seats s him }
  by_way event o (GoesDown him by relay over_by) near = record { station = refl; sessions = r; listeners = without_alike within seats w.seats s him }
  by_way event o (Obeys _ command c) near = obeys event c.asked.id command c (asks_within within w event command c near)
  by_way event o (Shows _ him peer text its undecided what) near = record { station = refl; sessions = r; listeners = s }
  by_way event o (HasPassed ms past) near = unchanged
  by_way event o (Ticks ms past) near = all_agree near (Tick ms)

  -- and where of each stream the last blocks are kept
  kept_receives : (mount block : List ℕ) → within mount ≡ true → AgreeWithin within (kept_taken_in v mount block) (kept_taken_in w mount block)
  kept_receives mount block near =
      let queue = w.station.settings.limits.queue_size in
      laggards_alike mount near (kept_fed queue live mount block w.station.time) (kept_fed queue w.station.live mount block w.station.time)
      (kept_fed_alike within live w.station.live r queue mount block w.station.time)

  kept_by_way : (event : Event) (o : Outcome) → Way w event o → ReachesWithin w within event
      → AgreeWithin within (kept_changed v o.change) (kept_changed w o.change)
  kept_by_way event o (Receives him mount block feeding) near = kept_receives mount block (near mount feeding)
  kept_by_way event o way near = by_way event o way near

  in_control : (event : Event) → IsWithinReach w within event → AgreeWithin within (control_after v event) (control_after w event)
  in_control event near =
      let other : (planned w event).change ≡ (outcome w event).change = ap (λ (o : Outcome). o.change) (planned_so w event) in
      let one : (planned v event).change ≡ (outcome w event).change
      = ap (λ (o : Outcome). o.change) (planned_so v event ∙ ap uncounted (outcome_alike within w live seats r s event near)) in
      rw (one, other) (kept_by_way event (outcome w event) (way_of w event) near.reached)

  -- who may draw in one may in the other
  may_draw : (id : ℕ) → LastWithin w within id → MayDraw w id → MayDraw v id
  may_draw id near may = record {
    sits = λ seat has. standing_alike within w live seats r s id near ∙ may.sits seat (sym its ∙ has);
    kept = λ seat has.
        let his : seat_of w.seats id ≡ Some seat = sym its ∙ has in
        rw (session_alike within live w.station.live r seat.mount (near seat.mount (sits_last w.seats id seat his))) (may.kept seat his);
  } where
    its : seat_of seats id ≡ seat_of w.seats id
    its = ap seat_in (listener_same within seats w.seats s id near)

  can_step : (event : Event) → IsWithinReach w within event → CanStep w event → CanStep v event
  can_step (Draw id room) near can = may_draw id (near.client id refl) can
  can_step event near can = can

  in_step : (event : Event) → IsWithinReach w within event
      → (reply_to v event ≡ reply_to w event) × AgreeWithin within (world_after v event) (world_after w event)
  unfolding reply_to world_after
  in_step event near =
      let same = outcome_alike within w live seats r s event near in
      (ap (λ (o : Outcome). o.reply) same, rw same (by_way event (outcome w event) (way_of w event) near.reached))

pub answers_alike : (within : List ℕ → Bool) (v w : World) (event : Event) → AnswersAlike within v w event
answers_alike within v w event agree near =
    let is : v ≡ in_place w v.station.live v.seats = ap (λ (h : StationState). record { station = h; seats = v.seats }) agree.station in
    subst (λ (x : World). (reply_to x event ≡ reply_to w event) × AgreeWithin within (world_after x event) (world_after w event)) (sym is)
    (in_step within w v.station.live v.seats agree.sessions agree.listeners event near)

-- a control agrees with another afterwards if it does before, on all that the event can reach
pub controls_alike : (within : List ℕ → Bool) (v w : World) (event : Event) → AgreeWithin within v w → IsWithinReach w within event
    → AgreeWithin within (control_after v event) (control_after w event)
controls_alike within v w event agree near =
    let is : v ≡ in_place w v.station.live v.seats = ap (λ (h : StationState). record { station = h; seats = v.seats }) agree.station in
    subst (λ (x : World). AgreeWithin within (control_after x event) (control_after w event)) (sym is)
    (in_control within w v.station.live v.seats agree.sessions agree.listeners event near)

-- and it can step if the other can
pub steps_alike : (within : List ℕ → Bool) (v w : World) (event : Event) → AgreeWithin within v w → IsWithinReach w within event
    → CanStep w event → CanStep v event
steps_alike within v w event agree near can =
    let is : v ≡ in_place w v.station.live v.seats = ap (λ (h : StationState). record { station = h; seats = v.seats }) agree.station in
    subst (λ (x : World). CanStep x event) (sym is) (can_step within w v.station.live v.seats agree.sessions agree.listeners event near can)
