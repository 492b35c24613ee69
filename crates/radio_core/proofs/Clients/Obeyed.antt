-- how each client fares where a command is done
use Rattle.std.proofs.Common.{◌≡◌, true, false, ℕ, ◌==◌, Option, Some, None, is_some, List, refl, ap, sym, subst, ◌∙◌, arith}
use Rattle.radio_core.proofs.Words.{bytes_eq, nat_tests, bytes_eq-Decides, Killed, SourceKilled, row, find_same, find_apart, by_number, Listener, Seat, Seating, is_listener, listener_of, seat_of, seat_in, seat_held}
use Rattle.radio_core.proofs.Words.{loses, lost_by, AreByNumber, To, at_his_turn, goes_there, never_out_there, Command, MoveClients, KillClient, KillSource, SetTitle, SetFallback, AddUser, DeleteUser, Event, Ended, Obey}
use Rattle.radio_core.proofs.Words.{Standing, Unknown, Undecided, Feeds, Sits, Answered, Finished, answered, changed, session_over, session_ended, session_ended_by, session_killed, outsiders_ended, client_of, relay_of}
use Rattle.radio_core.proofs.Words.{Lists, with_user_at, without_user_at, IsCommanded, ChangesUsers, Adds, Deletes, is_live, opens, sight_of, Cause, SessionIsOver, IsKilled, HisSessionIsKilled, TakesTo, ByKilling}
use Rattle.radio_core.proofs.Words.{ByMoving, IsSent, HisSessionIsOver, IsCommandedThere, Session, session_of, IsSound, World, standing_of, standing_of_found, found_named, is_over, order_lost, heard_at, heard_cases}
use Rattle.radio_seats_rows.specs.declared.seat.Seating.TheVariants.{Sits as HasSeat, Finished as HasLostIt}
use Rattle.radio_fallback.specs.declared.moves.Move.TheVariants.{Ended as SessionEnds}
use Rattle.radio_core.proofs.Seats.ChangedUsers.{with_lists, sound_set, users_fates}
use Rattle.radio_core.proofs.Commands.AllowedCommands.{may_act, may_move, needs_hold, may_go}
use Rattle.radio_core.proofs.Seats.CommandedSeats.{found_there, killed_seat}
use Rattle.radio_core.proofs.Clients.CarriedFates.{order_carried, carried_fate}
use Rattle.radio_core.proofs.Clients.Fates.{IsActive, Fate, GoesOn, IsEnded, HasStopped, IsMoved, Fates, HasEnded, Nobody, sound_fates, fates_none, lost_in, active_sitter}
use Rattle.radio_core.proofs.Sound.SoundEnds.{over_fates, late_beside, still_feeds, has_none_then, order_then}
use Rattle.radio_core.proofs.Sound.SoundTitles.{sound_titled}
use Rattle.radio_core.proofs.Sound.Soundness.{sound_answered}
use Rattle.radio_core.proofs.Clients.Standings.{Turns, asks, turns_answered, turns_ended_by}
use Rattle.radio_core.proofs.Seats.HeardApart.{apart_sessions, apart_then}

-- whoever is moved by a command, or since its session is over, goes on in another
abbrev pub LeavesFor : World → Event → World → Seat → Session → Type 0
LeavesFor w event later old session = IsSent w later event old session.mount × ((old.session == session.number) ≡ false)

abbrev pub Takes : World → Event → ℕ → Session → Type 0
Takes w event id session = TakesTo w event id session.mount

-- what a command does: first the client who gave it has had its answer, and what it sets is set; then each fares so
pub record IsObeyed (w : World) (event : Event) (him : ℕ) (later : World) : Type 0 where
  pub base : World
  pub stands : (id : ℕ) → standing_of base id ≡ standing_of (answered w him) id
  pub seats : (id : ℕ) → seat_of base.seats id ≡ seat_of w.seats id
  pub sound : IsSound base
  pub fates : Fates (Cause w later event) (Takes w event) Nobody (LeavesFor w event) base later

module _ (w : World) (s : IsSound w) (event : Event) where
  -- what holds of the world where the client has had its answer
  module _ {command : Command} (c : IsCommanded w event command) where
    abbrev heard : World
    heard = answered w c.asked.id

    sound_heard : IsSound heard
    sound_heard = sound_answered w s c.asked.id c.peer c.undecided

    -- where only the listeners' seats change
    module _ (seats : List Listener) where
      abbrev other_seats : World
      other_seats = record heard { seats = seats }

      with_seats : AreByNumber seats → ((id : ℕ) → Fate (Cause w other_seats event) (Takes w event) Nobody (LeavesFor w event) heard other_seats id)
          → IsObeyed w event c.asked.id other_seats
      with_seats order fate = record {
        base = heard;
        stands = λ id. refl;
        seats = λ id. refl;
        sound = sound_heard;
        fates = record {
          last = refl;
          lists = refl;
          settings = refl;
          live = λ m session e. e;
          apart = s.apart;
          by_number = order;
          late = λ id client seconds ms e late. e;
          fate = fate;
        };
      }

  -- listeners are moved
  module _ (mount destination : List ℕ) (c : IsCommanded w event (MoveClients mount destination)) where
    abbrev moved_world : World
    moved_world = changed w (Obey c.asked.id (MoveClients mount destination))

    pub is_another : bytes_eq mount destination ≡ false
    is_another = may_move (is_live w.station mount) (is_live w.station destination) (bytes_eq mount destination) (needs_hold w event c)

    sent : (seat : Seat) (to : List ℕ) → seat.mount ≡ mount → destination ≡ to → IsCommanded w event (MoveClients seat.mount to)
    sent seat to at goes =
        subst (λ (m : List ℕ). IsCommanded w event (MoveClients m to)) (sym at) (subst (λ (m : List ℕ). IsCommanded w event (MoveClients mount m)) goes c)

    away : (seat : Seat) (to : List ℕ) → seat.mount ≡ mount → destination ≡ to → bytes_eq seat.mount to ≡ false
    away seat to at goes = ap (λ (m : List ℕ). bytes_eq m to) at ∙ ap (bytes_eq mount) (sym goes) ∙ is_another

    -- there is a session where they go
    live_there : (session : Session) → destination ≡ session.mount → heard_at w.station session.mount ≡ Some session
        → session_of w.station.live session.mount ≡ Some session
    live_there session goes hears =
        heard_cases w.station session.mount session hears (λ there. there)
        (λ none silent.
        let live : is_live w.station destination ≡ true
        = may_go (is_live w.station mount) (is_live w.station destination) (bytes_eq mount destination) (needs_hold w event c) in
        let not : is_live w.station destination ≡ false = ap (is_live w.station) goes ∙ ap is_some none in
        cc)

    moved_fate : (id : ℕ) → Fate (Cause w moved_world event) (Takes w event) Nobody (LeavesFor w event) (heard c) moved_world id
    moved_fate id =
        carried_fate (Cause w moved_world event) (Takes w event) Nobody (LeavesFor w event) (heard c) (sound_heard c) (heard c).station refl refl refl (To mount destination)
        moved_world (λ m. refl) id refl refl
        (λ turn same seats. GoesOn same seats (λ m feeds. refl) (λ seat has. refl))
        (λ seat session had concerned turn live.
        let at : seat.mount ≡ mount = (bytes_eq-Decides seat.mount mount).0 concerned in
        let goes : destination ≡ session.mount =
        goes_there (sight_of w.station) mount destination (at_his_turn (sight_of w.station) (To mount destination) w.seats id) id session.mount turn in (
          IsCommandedThere (sent seat session.mount at goes),
          apart_sessions (heard c) (sound_heard c) id seat session had (live_there session goes live) (away seat session.mount at goes),
        ))
        (λ seat rule had turn.
        absurd (never_out_there (sight_of w.station) mount destination (at_his_turn (sight_of w.station) (To mount destination) w.seats id) id rule turn))
        (λ session turn. (To mount destination, w, ByMoving event mount destination c, turn))

    obeyed_move : IsObeyed w event c.asked.id moved_world
    obeyed_move = with_seats c moved_world.seats (order_carried (heard c) (To mount destination) s.by_number) moved_fate

  -- a listener is finished
  module _ (mount : List ℕ) (listener : ℕ) (c : IsCommanded w event (KillClient mount listener)) where
    abbrev killed_world : World
    killed_world = changed w (Obey c.asked.id (KillClient mount listener))

    pub his_seat : (seat : Seat) × (seat_of w.seats listener ≡ Some seat) × (seat.mount ≡ mount)
    his_seat = killed_seat w event mount listener c

    abbrev KilledFate : ℕ → Type 0
    KilledFate id = Fate (Cause w killed_world event) (Takes w event) Nobody (LeavesFor w event) (heard c) killed_world id

    loses_it : (seating : Seating) (seat : Seat) → seat_held seating ≡ Some seat → lost_by Killed seating ≡ HasLostIt Killed seat.mount
    loses_it (HasSeat own) seat e = let same : own ≡ seat = cc in ap (λ (x : Seat). HasLostIt Killed x.mount) same
    loses_it (HasLostIt rule last) seat e = cc

    his_row : (found : Option Listener) → seat_in found ≡ Some his_seat.0
        → (row : Listener) × (found ≡ Some row) × (lost_by Killed row.seating ≡ HasLostIt Killed his_seat.0.mount)
    his_row None e = cc
    his_row (Some row) e = (row, refl, loses_it row.seating his_seat.0 e)

    held : (row : Listener) × (listener_of w.seats listener ≡ Some row) × (lost_by Killed row.seating ≡ HasLostIt Killed his_seat.0.mount)
    held = his_row (listener_of w.seats listener) his_seat.1

    then_so : listener_of killed_world.seats listener ≡ Some (record { id = held.0.id; seating = HasLostIt Killed his_seat.0.mount })
    then_so =
        find_same (is_listener listener) (loses Killed) (λ x. refl) w.seats held.0 held.1
        ∙ ap (λ (seating : Seating). Some (record { id = held.0.id; seating = seating })) held.2

    sat : standing_of (heard c) listener ≡ Sits
    sat = (sound_heard c).sitting listener his_seat.0 his_seat.1

    pub has_been_killed : standing_of killed_world listener ≡ Finished Killed
    has_been_killed =
        ap (λ l. standing_of_found (relay_of w.station.relays listener) l (client_of (heard c).station.clients listener)) then_so
        ∙ lost_in (relay_of w.station.relays listener) (listener_of w.seats listener) held.0.id Killed his_seat.0.mount (client_of (heard c).station.clients listener) sat

    pub sits_no_more : seat_of killed_world.seats listener ≡ None
    sits_no_more = ap seat_in then_so

    his_end : KilledFate listener
    his_end =
        IsEnded Killed (IsKilled his_seat.0 his_seat.1 (subst (λ (m : List ℕ). IsCommanded w event (KillClient m listener)) (sym his_seat.2) c))
        (active_sitter (standing_of (heard c) listener) sat) has_been_killed sits_no_more
        (λ m e. let sits : standing_of (heard c) listener ≡ Sits = sat in cc)

    pub beside_him : (id : ℕ) → (listener == id) ≡ false → listener_of killed_world.seats id ≡ listener_of w.seats id
    beside_him id apart =
        find_apart (is_listener id) (is_listener listener) (loses Killed)
        (λ x e. (grind (arith, nat_tests), grind (arith, nat_tests))) w.seats

    killed_fate : (id : ℕ) → KilledFate id
    killed_fate id =
        by_number listener id (λ same. subst KilledFate same his_end)
        (λ apart. GoesOn (ap (λ l. standing_of_found (relay_of w.station.relays id) l (client_of (heard c).station.clients id)) (beside_him id apart)) (ap seat_in (beside_him id apart)) (λ m e. refl) (λ seat e. refl))

    obeyed_kill : IsObeyed w event c.asked.id killed_world
    obeyed_kill = with_seats c killed_world.seats (order_lost w.seats s.by_number listener Killed) killed_fate

  -- a session is ended, and its source is finished
  module _ (mount : List ℕ) (c : IsCommanded w event (KillSource mount)) where
    abbrev cut_world : World
    cut_world = changed w (Obey c.asked.id (KillSource mount))

    pub live : (session : Session) × (session_of w.station.live mount ≡ Some session)
    live = found_there (session_of w.station.live mount) (may_act (is_live w.station mount) (needs_hold w event c))

    abbrev cut : Session
    cut = live.0

    pub named : cut.mount ≡ mount
    named = found_named w.station.live mount cut live.1

    there_live : session_of w.station.live cut.mount ≡ Some cut
    there_live = ap (session_of w.station.live) named ∙ live.1

    own : IsCommanded w event (KillSource cut.mount)
    own = subst (λ (m : List ℕ). IsCommanded w event (KillSource m)) (sym named) c

    pub is_cut : cut_world ≡ session_ended_by SourceKilled (heard c) cut
    is_cut = ap (session_killed (heard c)) live.1

    feeding : standing_of (heard c) cut.number ≡ Feeds cut.mount
    feeding = (sound_heard c).fed cut.mount cut there_live

    fed_before : standing_of w cut.number ≡ Feeds cut.mount
    fed_before = s.fed cut.mount cut there_live

    abbrev after : World
    after = session_ended_by SourceKilled (heard c) cut

    pub turned : Turns (session_ended (heard c) cut.mount) after cut.number (Finished SourceKilled)
    turned =
        turns_ended_by (session_ended (heard c) cut.mount) cut.number SourceKilled
        (λ u. let still = still_feeds (heard c) (sound_heard c) cut.number cut.mount feeding in cc)

    over : Fates (Cause w cut_world event) (Takes w event) Nobody HasEnded (heard c) after
    over =
        over_fates (Cause w cut_world event) (Takes w event) Nobody (heard c) (sound_heard c) cut.number cut.mount feeding after (Finished SourceKilled) turned refl
        (λ id other. refl)
        (IsEnded SourceKilled (HisSessionIsKilled cut fed_before there_live own) (subst (λ (x : Standing). IsActive x) (sym feeding) tt) turned.his
        (has_none_then (heard c) (sound_heard c) cut.number cut.mount feeding)
        (λ m e.
        let both : Feeds cut.mount ≡ Feeds m = sym feeding ∙ e in
        let one : cut.mount ≡ m = cc in
        ap (session_of after.station.live) (sym one) ∙ is_over w.station.live cut.mount))
        (λ id seat rule had turn. SessionIsOver rule seat had (SessionEnds cut.mount, session_over w cut.mount, ByKilling event cut.mount own, turn))
        (λ id session turn. (SessionEnds cut.mount, session_over w cut.mount, ByKilling event cut.mount own, turn))
        refl refl refl (order_then (heard c) (sound_heard c) cut.number cut.mount feeding)
        (late_beside (heard c).station.clients cut.number (Ended SourceKilled) (λ client seconds moment late. cc))

    -- whoever goes on elsewhere left a mount whose session is over
    leaves_so : (id : ℕ) → Fate (Cause w cut_world event) (Takes w event) Nobody HasEnded (heard c) after id
        → Fate (Cause w cut_world event) (Takes w event) Nobody (LeavesFor w event) (heard c) after id
    leaves_so id (GoesOn same seat feeds sits) = GoesOn same seat feeds sits
    leaves_so id (IsEnded rule cause active ended none gone) = IsEnded rule cause active ended none gone
    leaves_so id (HasStopped m why feeds done none gone) = absurd why
    leaves_so id (IsMoved old session carries left had has same live opens) =
        IsMoved old session carries (
          HisSessionIsOver left.0 left.1,
          apart_then (heard c) after (sound_heard c) over.live id old session had left live,
        ) had has same live opens

    obeyed_cut : IsObeyed w event c.asked.id cut_world
    obeyed_cut = record {
      base = heard c;
      stands = λ id. refl;
      seats = λ id. refl;
      sound = sound_heard c;
      fates = subst (λ (v : World). Fates (Cause w cut_world event) (Takes w event) Nobody (LeavesFor w event) (heard c) v) (sym is_cut) (record {
        last = over.last;
        lists = over.lists;
        settings = over.settings;
        live = over.live;
        apart = over.apart;
        by_number = over.by_number;
        late = over.late;
        fate = λ id. leaves_so id (over.fate id);
      });
    }

  -- a title is set
  module _ (mount text : List ℕ) (c : IsCommanded w event (SetTitle mount text)) where
    abbrev titled_world : World
    titled_world = changed w (Obey c.asked.id (SetTitle mount text))

    pub title_live : (session : Session) × (session_of w.station.live mount ≡ Some session)
    title_live =
        found_there (session_of w.station.live mount) (may_act (is_live w.station mount) (needs_hold w event c))

    sound_text : IsSound titled_world
    sound_text =
        sound_titled (heard c) (sound_heard c) mount text title_live.0.number
        ((sound_heard c).fed mount title_live.0 title_live.1)

    obeyed_title : IsObeyed w event c.asked.id titled_world
    obeyed_title = record {
      base = titled_world;
      stands = λ id. refl;
      seats = λ id. refl;
      sound = sound_text;
      fates = fates_none (Cause w titled_world event) (Takes w event) Nobody (LeavesFor w event) titled_world sound_text;
    }

  -- a fallback is set
  module _ (mount : List ℕ) (fallback : Option (List ℕ)) (c : IsCommanded w event (SetFallback mount fallback)) where
    abbrev set_world : World
    set_world = changed w (Obey c.asked.id (SetFallback mount fallback))

    sound_fallback : IsSound set_world
    sound_fallback = sound_set (heard c) (sound_heard c) w.station.lists set_world.station.fallbacks

    obeyed_fallback : IsObeyed w event c.asked.id set_world
    obeyed_fallback = record {
      base = set_world;
      stands = λ id. refl;
      seats = λ id. refl;
      sound = sound_fallback;
      fates = fates_none (Cause w set_world event) (Takes w event) Nobody (LeavesFor w event) set_world sound_fallback;
    }

  -- the users of a mount are changed
  module _ {command : Command} (c : IsCommanded w event command) (mount : List ℕ) (changes : ChangesUsers w event mount) (lists : Lists) where
    abbrev listed_world : World
    listed_world = with_lists (heard c) lists

    sound_listed : IsSound listed_world
    sound_listed = sound_set (heard c) (sound_heard c) lists w.station.fallbacks

    obeyed_users : IsObeyed w event c.asked.id (outsiders_ended listed_world mount)
    obeyed_users = record {
      base = listed_world;
      stands = λ id. refl;
      seats = λ id. refl;
      sound = sound_listed;
      fates = users_fates w listed_world event mount sound_listed (λ id. refl) changes (Takes w event) (LeavesFor w event);
    }

  pub obeyed : (command : Command) (c : IsCommanded w event command) → IsObeyed w event c.asked.id (changed w (Obey c.asked.id command))
  obeyed (MoveClients mount destination) c = obeyed_move mount destination c
  obeyed (KillClient mount listener) c = obeyed_kill mount listener c
  obeyed (KillSource mount) c = obeyed_cut mount c
  obeyed (SetTitle mount text) c = obeyed_title mount text c
  obeyed (SetFallback mount fallback) c = obeyed_fallback mount fallback c
  obeyed (AddUser mount user password) c = obeyed_users c mount (Adds user password c) (with_user_at w.station.lists mount user password)
  obeyed (DeleteUser mount user) c = obeyed_users c mount (Deletes user c) (without_user_at w.station.lists mount user)

  -- the client who gave it has had its answer, and is no listener
  module _ (command : Command) (c : IsCommanded w event command) where
    abbrev obeyed_world : World
    obeyed_world = changed w (Obey c.asked.id command)

    turns_heard : Turns w (answered w c.asked.id) c.asked.id Answered
    turns_heard = turns_answered w c.asked.id (asks w c.asked.id c.peer c.undecided)

    not_active : (now : Standing) → now ≡ Answered → IsActive now → ⊥
    not_active Answered e active = active
    not_active Unknown e active = active
    not_active (Undecided peer) e active = cc
    not_active (Feeds mount) e active = cc
    not_active Sits e active = cc
    not_active (Finished rule) e active = active

    pub is_answered : standing_of obeyed_world c.asked.id ≡ Answered
    is_answered = by_fate ((obeyed command c).fates.fate c.asked.id) where
      before : standing_of (obeyed command c).base c.asked.id ≡ Answered
      before = (obeyed command c).stands c.asked.id ∙ turns_heard.his

      by_fate : Fate (Cause w (changed w (Obey c.asked.id command)) event) (Takes w event) Nobody (LeavesFor w event) (obeyed command c).base
          (changed w (Obey c.asked.id command)) c.asked.id → standing_of (changed w (Obey c.asked.id command)) c.asked.id ≡ Answered
      by_fate (GoesOn same seat feeds sits) = same ∙ before
      by_fate (IsEnded rule cause active ended none gone) = absurd (not_active (standing_of (obeyed command c).base c.asked.id) before active)
      by_fate (HasStopped m why feeds done none gone) = absurd why
      by_fate (IsMoved old session carries left had has same alive opens) = same ∙ before

    pub others_stood : (id : ℕ) → (c.asked.id == id) ≡ false → standing_of (obeyed command c).base id ≡ standing_of w id
    others_stood id apart = (obeyed command c).stands id ∙ turns_heard.others id apart

    pub sound_obeyed : IsSound obeyed_world
    sound_obeyed =
        sound_fates (Cause w obeyed_world event) (Takes w event) Nobody (LeavesFor w event) (obeyed command c).base obeyed_world (obeyed command c).sound
        (obeyed command c).fates
