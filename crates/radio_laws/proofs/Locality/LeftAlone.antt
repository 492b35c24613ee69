-- what an event cannot reach is left alone: by the server, and by a control that was lent what it can reach
use Rattle.std.proofs.Common.{◌≡◌, ◌⊎◌, inl, inr, Bool, true, false, ℕ, ◌==◌, Option, Some, None, List, refl, ap, sym, subst, ◌∙◌}
use Rattle.radio_laws.proofs.Words.{◌+◌, ◌↔◌, length, option_map, nat_cmp, bytes_eq, find_apart, by_name, by_number, Lists, with_user_at, without_user_at, Rule, Killed, Lagged, ListenerPassword, options_for, Shown}
use Rattle.radio_laws.proofs.Words.{Listener, Seat, Seating, Finished, AreByNumber, advanced, heard_to, is_listener, listener_of, seat_held, seat_in, seat_of, with_ended, with_end, with_place, with_seat, with_session_at}
use Rattle.radio_laws.proofs.Words.{without_listener, LosesSeat, same_or_loses, seat_hearing, seat_of_hearing, same_number, beside_left, beside_moved, beside_seated, has_sat_down, is_no_listener, Move, To, at_his_turn}
use Rattle.radio_laws.proofs.Words.{found_changed, out_beside, out_himself, Faring, HasGone, HasLost, HasStayed, fares, sits_last, kept_fed, longer_kept, Session, fed, is_of, opened, session_of, with_session, end_in}
use Rattle.radio_laws.proofs.Words.{data_at, lags_behind, beside_begun, beside_ended, beside_fed, found_named, sight_of, is_shut_out, StationState, shown_for, World, standing_of, Feeds, answered, carried_along, changed}
use Rattle.radio_laws.proofs.Words.{laggards_ended, session_killed, session_over, kept_changed, Advance, Begin, End, EndAndLeave, Forget, Obey, Raise, Receive, SetTitle, TakeSeat, Tick, is_taken_in, on_air_beside}
use Rattle.radio_laws.proofs.Words.{MoveClients, KillClient, KillSource, SetFallback, AddUser, DeleteUser, Event, client_in, IsCommanded, Closes, OfClient, OfRelay, control_after, first_seat, planned, uncounted, outcome}
use Rattle.radio_laws.proofs.Words.{world_after, Way, Misplaced, IsFinished, IsDenied, IsRefused, IsAdmitted, Begins, ComesUp, Receives, SetsTitle, TakesSeat, HandsOut, Ends, EndsAndLeaves, Leaves, GoesDown, Obeys}
use Rattle.radio_laws.proofs.Words.{Shows, HasPassed, Ticks, Outcome, planned_so, way_of, IsSound, killed_seat, AgreeWithin, AsksWithin, ComesUpWithin, IsAll, IsLeftAlone, IsWithinReach, LastWithin, LeavesAlone}
use Rattle.radio_laws.proofs.Words.{ReachesWithin, SameSession, SessionsAgree, WalksWithin}
use Rattle.std.specs.List.Sorted.{IsStrictlySortedBy}
use Rattle.radio_seats_rows.specs.declared.seat.Seating.TheVariants.{Sits}
use Rattle.radio_fallback.specs.declared.moves.Move.TheVariants.{Ended as HasEnded}
use Rattle.radio_parts_mount.proofs.SessionLookups.{named}
use Rattle.radio_events.specs.declared.command.Command.{Command as TheCommand}
use Rattle.radio_events.specs.declared.command.Command.TheVariants.{SetTitle as NewTitle}
use Rattle.radio_events.specs.declared.command.Asked.TheVariants.{Command as Asks}
use Rattle.radio_laws.proofs.Locality.AgreeingLists.{agree_all}
use Rattle.radio_laws.proofs.Locality.Agreeing.{BothBeyond, IsBeyond, ListenersDo, SameSeat, SeatsAgree, SessionsDo, beyond, listener_same, none_out, numbers_alike, seat_alike}
use Rattle.radio_laws.proofs.Locality.AgreeingWalks.{MovesWithin, concerned, goes_within, lands_within}
use Rattle.radio_laws.proofs.Locality.AgreeingOutcomes.{in_place, onward_by, outcome_alike}
use Rattle.radio_laws.proofs.Locality.LocalityLemmas.{agrees, asks_within}

contrary : {A : Type 0} {b : Bool} → b ≡ true → b ≡ false → A
contrary one other = cc

module _ (within : List ℕ → Bool) where
  abbrev IsNear : Option Seat → Type 0
  IsNear None = Unit {0}
  IsNear (Some seat) = within seat.mount ≡ true

  -- a seat is as before, or it was within reach and still is
  abbrev Stays : Option Seat → Option Seat → Type 0
  Stays before later = (later ≡ before) ⊎ (IsNear before × IsNear later)

  near_on : (before later : Option Seat) → Stays before later → IsNear before → IsNear later
  near_on before later (inl same) near = subst IsNear (sym same) near
  near_on before later (inr both) near = both.1

  twice : (before between later : Option Seat) → Stays before between → Stays between later → Stays before later
  twice before between later (inl one) (inl other) = inl (other ∙ one)
  twice before between later (inl one) (inr near) = inr (subst IsNear one near.0, near.1)
  twice before between later (inr near) (inl other) = inr (near.0, subst IsNear (sym other) near.1)
  twice before between later (inr near) (inr last) = inr (near.0, last.1)

  not_near : (found : Option Seat) (seat : Seat) → IsNear found → within seat.mount ≡ false → {A : Type 0} → found ≡ Some seat → A
  not_near found seat near out e = contrary (subst IsNear e near) out

  same_beyond : (before later : Option Seat) → Stays before later → (seat : Seat) → within seat.mount ≡ false → (later ≡ Some seat) ↔ (before ≡ Some seat)
  same_beyond before later (inl same) seat out = (λ e. sym same ∙ e, λ e. same ∙ e)
  same_beyond before later (inr near) seat out = (not_near later seat near.1 out, not_near before seat near.0 out)

  -- the seats of a table, and sessions beyond reach
  abbrev SeatsStay : List Listener → List Listener → Type 0
  SeatsStay seats later = (id : ℕ) → Stays (seat_of seats id) (seat_of later id)

  abbrev SessionsStay : List Session → List Session → Type 0
  SessionsStay live later = (mount : List ℕ) → within mount ≡ false → session_of later mount ≡ session_of live mount

  apart : (there mount : List ℕ) → within there ≡ true → within mount ≡ false → bytes_eq there mount ≡ false
  apart there mount near out = by_name there mount (λ same. let clash : within mount ≡ true = ap within (sym same) ∙ near in cc) (λ e. e)

  module _ (p : Seat → Bool) (rule : Rule) (none : (seat : Seat) → within seat.mount ≡ false → p seat ≡ false) (seats : List Listener) where
    holds_near : (seat : Seat) → p seat ≡ true → within seat.mount ≡ true
    holds_near seat holds = by_test (within seat.mount) refl where
      by_test : (b : Bool) → within seat.mount ≡ b → b ≡ true
      by_test true e = refl
      by_test false e = let not : p seat ≡ false = none seat e in cc

    ended_stay : SeatsStay seats (with_ended seats p rule)
    ended_stay id = by_loss (same_or_loses p rule seats id) where
      by_loss : (listener_of (with_ended seats p rule) id ≡ listener_of seats id) ⊎ LosesSeat p rule (listener_of seats id) (listener_of (with_ended seats p rule) id)
          → Stays (seat_of seats id) (seat_of (with_ended seats p rule) id)
      by_loss (inl same) = inl (ap seat_in same)
      by_loss (inr loses) = inr (subst IsNear (sym loses.had_a_seat) (holds_near loses.seat loses.holds), subst IsNear (sym (ap seat_in loses.finished)) tt)

  given_stay : (seats : List Listener) (mount : List ℕ) (number : ℕ) → within mount ≡ true → SeatsStay seats (with_session_at seats mount number)
  given_stay seats mount number near id =
      subst (Stays (seat_of seats id)) (sym (seat_of_hearing mount number seats id)) (by_seat (seat_of seats id)) where
        by_seat : (found : Option Seat) → Stays found (option_map (seat_hearing mount number) found)
        by_seat None = inl refl
        by_seat (Some seat) =
            by_name seat.mount mount (λ same. let there : within seat.mount ≡ true = ap within same ∙ near in inr (there, there)) (λ away. inl (rw away refl))

  -- one listener's seat changes, and it is within reach before and afterwards
  one_stays : (seats later : List Listener) (him : ℕ) → IsNear (seat_of seats him) → IsNear (seat_of later him)
      → ((id : ℕ) → (him == id) ≡ false → seat_of later id ≡ seat_of seats id) → SeatsStay seats later
  one_stays seats later him before after others id =
      by_number him id (λ same. subst (λ (n : ℕ). Stays (seat_of seats n) (seat_of later n)) same (inr (before, after))) (λ other. inl (others id other))

  gone_stay : (seats : List Listener) (him : ℕ) → IsNear (seat_of seats him) → SeatsStay seats (without_listener seats him)
  gone_stay seats him near =
      one_stays seats (without_listener seats him) him near (subst IsNear (sym (ap seat_in (is_no_listener seats him))) tt) (λ id other. ap seat_in (beside_left seats him id other))

  still_near : (place : ℕ) (listener : Option Listener) → IsNear (seat_in listener) → IsNear (seat_in (option_map (advanced place) listener))
  still_near place None near = tt
  still_near place (Some listener) near = by_seating listener.seating near where
    by_seating : (seating : Seating) → IsNear (seat_held seating) → IsNear (seat_held (heard_to place seating))
    by_seating (Sits seat) near = near
    by_seating (Finished rule mount) near = tt

  live_itself : (live : List Session) → SessionsDo within live live
  live_itself live = agree_all (SessionsAgree within) (λ a. SameSession refl) live

  carried_stay : (w : World) (move : Move) → MovesWithin within w w.station.live (live_itself w.station.live) move → AreByNumber w.seats
      → SeatsStay w.seats (carried_along w move).seats
  carried_stay w move near rising id = by_faring (fares (sight_of w.station) move w.seats rising id) where
    by_faring : Faring (sight_of w.station) move w.seats id → Stays (seat_of w.seats id) (seat_of (carried_along w move).seats id)
    by_faring (HasStayed same turn) = inl (ap seat_in same)
    by_faring (HasGone seat to goes had concerns fits is) = inr (
      subst IsNear (sym had) (concerned within w w.station.live (live_itself w.station.live) move near seat concerns),
      subst IsNear (sym (ap seat_in is))
          (goes_within within w w.station.live (live_itself w.station.live) move near (at_his_turn (sight_of w.station) move w.seats id) id to goes),
    )
    by_faring (HasLost seat rule out had concerns is) = inr (
      subst IsNear (sym had) (concerned within w w.station.live (live_itself w.station.live) move near seat concerns),
      subst IsNear (sym (ap seat_in is)) tt,
    )

  module _ (w : World) (live : List Session) (seats : List Listener) (r : SessionsDo within live w.station.live) (s : ListenersDo within seats w.seats) (ordered : AreByNumber w.seats) where
    abbrev v : World
    v = in_place w live seats

    rising : AreByNumber seats
    rising = subst (IsStrictlySortedBy nat_cmp) (sym (numbers_alike within seats w.seats s)) ordered

    -- if the event's client has a seat, that is within reach
    abbrev ClientIsNear : Event → Type 0
    ClientIsNear event = (id : ℕ) → client_in event ≡ Some id → IsNear (seat_of seats id)

    abbrev Alone : World → Type 0
    Alone later = IsLeftAlone within v later

    alone : {later : World} → SessionsStay live later.station.live → SeatsStay seats later.seats → Alone later
    alone {later} sessions stay = record { sessions = sessions; seats = λ id seat out. same_beyond (seat_of seats id) (seat_of later.seats id) (stay id) seat out }

    same_live : SessionsStay live live
    same_live mount out = refl

    same_seats : SeatsStay seats seats
    same_seats id = inl refl

    all_alone : IsAll within → (later : World) → Alone later
    all_alone all later = record {
      sessions = λ mount out. let there : within mount ≡ true = all mount in cc;
      seats = λ id seat out. let there : within seat.mount ≡ true = all seat.mount in contrary there out;
    }

    -- a session begins
    begun_stay : (id : ℕ) (mount : List ℕ) (shown : Shown) → within mount ≡ true
        → SessionsStay live (with_session live (opened mount id shown w.station.time)) × SeatsStay seats (with_session_at seats mount id)
    begun_stay id mount shown near = (
      λ other out. beside_begun live (opened mount id shown w.station.time) other (apart mount other near out),
      given_stay seats mount id near,
    )

    begins : (id : ℕ) (mount : List ℕ) (shown : Shown) → ComesUpWithin w within mount → Alone (kept_changed v (Begin id mount shown))
    begins id mount shown near = by_home (options_for w.station.settings mount).listeners.fallback_override refl where
      by_home : (home : Bool) → (options_for w.station.settings mount).listeners.fallback_override ≡ home → Alone (kept_changed v (Begin id mount shown))
      by_home true e = all_alone (near.home e) (kept_changed v (Begin id mount shown))
      by_home false e = let both = begun_stay id mount shown near.there in rw e (alone both.0 both.1)

    raises : (id : ℕ) (mount : List ℕ) (shown : Shown) → ComesUpWithin w within mount → Alone (kept_changed v (Raise id mount shown))
    raises id mount shown near = by_home (options_for w.station.settings mount).listeners.fallback_override refl where
      by_home : (home : Bool) → (options_for w.station.settings mount).listeners.fallback_override ≡ home → Alone (kept_changed v (Raise id mount shown))
      by_home true e = all_alone (near.home e) (kept_changed v (Raise id mount shown))
      by_home false e = let both = begun_stay id mount shown near.there in rw e (alone both.0 both.1)

    -- a block comes, after which the mount has another session
    laggards_alone : (mount : List ℕ) → within mount ≡ true → (later : List Session) → SessionsStay live later
        → Alone (laggards_ended (in_place w later seats) mount)
    laggards_alone mount near later stay =
        alone stay (ended_stay (lags_behind mount (end_in (session_of later mount)) w.station.settings.limits.queue_size) Lagged none seats) where
          none : (seat : Seat) → within seat.mount ≡ false
              → lags_behind mount (end_in (session_of later mount)) w.station.settings.limits.queue_size seat ≡ false
          none seat out = rw (beyond within seat.mount mount out near) refl

    kept_beside : (mount block : List ℕ) → within mount ≡ true → SessionsStay live (kept_fed w.station.settings.limits.queue_size live mount block w.station.time)
    kept_beside mount block near other out =
        find_apart (is_of other) (is_of mount) (longer_kept w.station.settings.limits.queue_size block w.station.time) (λ x e. (not_there x e, not_there x e)) live where
          not_there : (session : Session) → is_of mount session ≡ true → is_of other session ≡ false
          not_there session e = ap (λ (name : List ℕ). bytes_eq name other) (named mount session e) ∙ apart mount other near out

    receives : (mount block : List ℕ) → within mount ≡ true → Alone (kept_changed v (Receive mount block))
    receives mount block near =
        laggards_alone mount near (kept_fed w.station.settings.limits.queue_size live mount block w.station.time) (kept_beside mount block near)

    received_whole : (mount block : List ℕ) → within mount ≡ true → Alone (changed v (Receive mount block))
    received_whole mount block near =
        subst Alone (sym (is_taken_in v mount block)) (laggards_alone mount near (fed live mount block w.station.time)
        (λ other out. beside_fed live mount other (apart mount other near out) block w.station.time))

    titled : (mount title : List ℕ) → within mount ≡ true → Alone (kept_changed v (SetTitle mount title))
    titled mount title near = alone (λ other out. on_air_beside v mount title other (apart mount other near out)) same_seats

    -- a session ends
    over_stay : (mount : List ℕ) → within mount ≡ true → SessionsStay live (session_over v mount).station.live
    over_stay mount near other out = beside_ended live mount other (apart mount other near out)

    walked : (mount : List ℕ) → WalksWithin w within mount → SeatsStay seats (carried_along (session_over v mount) (HasEnded mount)).seats
    walked mount near = carried_stay (session_over v mount) (HasEnded mount) (near.there, onward_by within w near.onward live r) rising

    ends : (id : ℕ) (mount : List ℕ) → WalksWithin w within mount → Alone (kept_changed v (End id mount))
    ends id mount near = alone (over_stay mount near.there) (walked mount near)

    module _ (id : ℕ) (mount : List ℕ) (near : WalksWithin w within mount) (his : IsNear (seat_of seats id)) where
      abbrev moved_on : List Listener
      moved_on = (carried_along (session_over v mount) (HasEnded mount)).seats

      ends_and_leaves : Alone (kept_changed v (EndAndLeave id mount))
      ends_and_leaves = alone (over_stay mount near.there) (λ other.
          twice (seat_of seats other) (seat_of moved_on other) (seat_of (without_listener moved_on id) other) (walked mount near other)
          (gone_stay moved_on id (near_on (seat_of seats id) (seat_of moved_on id) (walked mount near id) his) other))

    leaves : (id : ℕ) → IsNear (seat_of seats id) → Alone (kept_changed v (Forget id))
    leaves id his = alone same_live (gone_stay seats id his)

    -- a command is done
    killed_near : (listener : ℕ) → (seat : Seat) × (seat_of w.seats listener ≡ Some seat) × (within seat.mount ≡ true) → IsNear (seat_of seats listener)
    killed_near listener his = by_seats (seat_of seats listener) (seat_of w.seats listener) (seat_alike within seats w.seats s listener) his.1 where
      by_seats : (one other : Option Seat) → SeatsAgree within one other → other ≡ Some his.0 → IsNear one
      by_seats _ _ (SameSeat seat) e = subst IsNear (sym e) his.2
      by_seats _ _ (BothBeyond one other out away) e = let gone : within his.0.mount ≡ false = subst (IsBeyond within) e away in contrary his.2 gone

    outsiders : (lists : Lists) (mount : List ℕ) → within mount ≡ true → SeatsStay seats (with_ended seats (is_shut_out lists mount) ListenerPassword)
    outsiders lists mount near = ended_stay (is_shut_out lists mount) ListenerPassword (λ seat out. none_out within lists mount seat out near) seats

    obeys : (event : Event) (id : ℕ) (command : TheCommand) → IsCommanded w event command → AsksWithin w within (Asks command)
        → Alone (kept_changed v (Obey id command))
    obeys event id (MoveClients mount destination) c near = alone same_live (carried_stay v (To mount destination) near rising)
    obeys event id (KillClient mount listener) c near =
        let his = killed_seat w event mount listener c in
        alone same_live (one_stays seats (with_end seats listener Killed) listener (killed_near listener (his.0, his.1, ap within his.2 ∙ near))
        (subst IsNear (sym (out_himself seats listener Killed)) tt) (λ other away. out_beside seats listener Killed other away))
    obeys event id (KillSource mount) c near = by_session (session_of live mount) refl where
      by_session : (session : Option Session) → session_of live mount ≡ session → Alone (session_killed (answered v id) session)
      by_session None e = alone same_live same_seats
      by_session (Some session) e =
          let there : within session.mount ≡ true = ap within (found_named live mount session e) ∙ near.there in
          alone (over_stay session.mount there) (walked session.mount (record { there = there; onward = near.onward }))
    obeys event id (NewTitle mount title) c near = alone (λ other out. on_air_beside (answered v id) mount title other (apart mount other near out)) same_seats
    obeys event id (SetFallback mount fallback) c near = alone same_live same_seats
    obeys event id (AddUser mount user password) c near = alone same_live (outsiders (with_user_at w.station.lists mount user password) mount near)
    obeys event id (DeleteUser mount user) c near = alone same_live (outsiders (without_user_at w.station.lists mount user) mount near)

    -- a listener sits down, or draws
    sits_down : (id : ℕ) (seat : Seat) → IsNear (seat_of seats id) → within seat.mount ≡ true → Alone (kept_changed v (TakeSeat id seat))
    sits_down id seat his near = alone same_live (one_stays seats (with_seat seats id seat) id his
        (subst IsNear (sym (ap seat_in (has_sat_down seats id seat (same_number id)))) near) (λ other away. ap seat_in (beside_seated seats id other away seat)))

    hears : (id place : ℕ) → IsNear (seat_of seats id) → Alone (kept_changed v (Advance id place))
    hears id place his = alone same_live (one_stays seats (with_place seats id place) id his
        (subst IsNear (sym (ap seat_in (found_changed (is_listener id) (advanced place) (λ x. refl) seats))) (still_near place (listener_of seats id) his))
        (λ other away. ap seat_in (beside_moved seats id other away place)))

    closes : (event : Event) (id : ℕ) (mount : List ℕ) → Closes w id event → standing_of w id ≡ Feeds mount → ReachesWithin w within event → ClientIsNear event
        → WalksWithin w within mount × IsNear (seat_of seats id)
    closes _ id mount (OfClient no_relay) feeding near sits = (near mount feeding, sits id refl)
    closes _ id mount (OfRelay relay) feeding near sits = (near mount feeding, sits id refl)

    by_way : (event : Event) (o : Outcome) → Way w event o → ReachesWithin w within event → ClientIsNear event → Alone (kept_changed v o.change)
    by_way event o (Misplaced _) near sits = alone same_live same_seats
    by_way event o (IsFinished _ him by its known) near sits = alone same_live same_seats
    by_way event o (IsDenied _ by verdict nobody) near sits = alone same_live same_seats
    by_way event o (IsRefused _ him by verdict its undecided) near sits = alone same_live same_seats
    by_way event o (IsAdmitted peer allowed) near sits = alone same_live same_seats
    by_way event o (Begins asked undecided none allowed) near sits = begins asked.id asked.mount (shown_for w.station asked.mount asked.shown) near
    by_way event o (ComesUp mount shown unfed allowed) near sits = raises (w.station.last_id + 1) mount (shown_for w.station mount shown) near
    by_way event o (Receives him mount block feeding) near sits = receives mount block (near mount feeding)
    by_way event o (SetsTitle him mount title feeding) near sits = titled mount title (near mount feeding)
    by_way event o (TakesSeat asked peer session undecided lands is_live allowed) near sits =
        let walks = near.walks in
        sits_down asked.id (first_seat w.station asked peer session) (sits asked.id refl)
        (lands_within within w live r seats w.seats s (onward_by within w walks.onward live r) asked.mount session.mount asked.pair walks.there lands)
    by_way event o (HandsOut him room seat session has_sat has is_live) near sits =
        hears him (seat.place + length (data_at session.stream seat.place room)) (sits him refl)
    by_way event o (Ends him mount feeding no_relay) near sits = ends him mount (near mount feeding)
    by_way event o (EndsAndLeaves _ him mount closing feeding) near sits =
        let its = closes event him mount closing feeding near sits in
        ends_and_leaves him mount its.0 its.1
    by_way event o (Leaves him no_relay other) near sits = leaves him (sits him refl)
    by_way event o (GoesDown him by relay over_by) near sits = leaves him (sits him refl)
    by_way event o (Obeys _ command c) near sits = obeys event c.asked.id command c (asks_within within w event command c near)
    by_way event o (Shows _ him peer text its undecided what) near sits = alone same_live same_seats
    by_way event o (HasPassed ms past) near sits = alone same_live same_seats
    by_way event o (Ticks ms past) near sits = all_alone near (kept_changed v (Tick ms))

    -- and where streams are whole
    whole_by_way : (event : Event) (o : Outcome) → Way w event o → ReachesWithin w within event → ClientIsNear event → Alone (changed v o.change)
    whole_by_way event o (Receives him mount block feeding) near sits = received_whole mount block (near mount feeding)
    whole_by_way event o way near sits = by_way event o way near sits

    near_seat : (id : ℕ) → LastWithin w within id → IsNear (seat_of seats id)
    near_seat id near = subst IsNear (sym (ap seat_in (listener_same within seats w.seats s id near))) (by_seat (seat_of w.seats id) refl) where
      by_seat : (found : Option Seat) → seat_of w.seats id ≡ found → IsNear found
      by_seat None e = tt
      by_seat (Some seat) e = near seat.mount (sits_last w.seats id seat e)

    in_control : (event : Event) → IsWithinReach w within event → Alone (control_after v event)
    in_control event near =
        let same : (planned v event).change ≡ (outcome w event).change
        = ap (λ (o : Outcome). o.change) (planned_so v event ∙ ap uncounted (outcome_alike within w live seats r s event near)) in
        rw same (by_way event (outcome w event) (way_of w event) near.reached (λ id his. near_seat id (near.client id his)))

  pub control_alone : (v w : World) (event : Event) → AgreeWithin within v w → AreByNumber w.seats → IsWithinReach w within event
      → IsLeftAlone within v (control_after v event)
  control_alone v w event agree ordered near =
      let is : v ≡ in_place w v.station.live v.seats = ap (λ (h : StationState). record { station = h; seats = v.seats }) agree.station in
      subst (λ (x : World). IsLeftAlone within x (control_after x event)) (sym is) (in_control w v.station.live v.seats agree.sessions agree.listeners ordered event near)

-- the mount where the event's client sits is within reach
abbrev pub ClientSitsWithin : (List ℕ → Bool) → World → Event → Type 0
ClientSitsWithin within w event = (id : ℕ) (seat : Seat) → client_in event ≡ Some id → seat_of w.seats id ≡ Some seat → within seat.mount ≡ true

pub left_alone : (within : List ℕ → Bool) (w : World) → IsSound w → (event : Event) → ReachesWithin w within event → ClientSitsWithin within w event
    → IsLeftAlone within w (world_after w event)
unfolding world_after
left_alone within w s event near sits =
    let itself = agrees within w in
    whole_by_way within w w.station.live w.seats itself.sessions itself.listeners s.by_number event (outcome w event) (way_of w event) near
    (λ id his. by_seat (seat_of w.seats id) (λ seat has. sits id seat his has)) where
      by_seat : (found : Option Seat) → ((seat : Seat) → found ≡ Some seat → within seat.mount ≡ true) → IsNear within found
      by_seat None near = tt
      by_seat (Some seat) near = near seat refl

pub leaves_alone : (within : List ℕ → Bool) (w : World) → IsSound w → (event : Event) → LeavesAlone within w event
leaves_alone within w s event near =
    left_alone within w s event near.reached (λ id seat his has. near.client id his seat.mount (sits_last w.seats id seat has))
