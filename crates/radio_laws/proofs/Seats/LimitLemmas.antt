-- In every state of a run, no more sit at a mount than may. No user sits twice at a mount that allows each user once.
use Rattle.std.proofs.Common.{◌≡◌, Bool, true, false, ℕ, ◌<◌, ◌≤◌, ◌==◌, ◌&&◌, not, Option, Some, None, List, [], ◌∷◌, length, refl, ap}
use Rattle.std.proofs.Common.{sym, subst, ◌∙◌, arith}
use Rattle.radio_laws.proofs.Words.{nat_tests, bytes_eq-Decides, Credentials, Peer, Settings, Lists, by_number, by_name, Listener, Seat, seats_at, count_at, SitsAs, has_user, sits_there, with_session_at, AreByNumber}
use Rattle.radio_laws.proofs.Words.{NobodyCame, nobody_came, nobody_came_hearing, nobody_came_leaving, one_more_at, no_more_elsewhere, nobody_sits_as, MaySit, is_full, is_twice_for, sits_already, Event, ListenRequest}
use Rattle.radio_laws.proofs.Words.{TakeSeat, Undecided, if◌then◌else◌, fold, and_parts, lets_in, options_for, Move, Up, keeps_limit, sit_once, lands_where_he_fits, changed, carried_along, session_over, session_ended}
use Rattle.radio_laws.proofs.Words.{called_home, before_silence, session_silenced, silent_in, ticked, IsWithinLimits, SentUser, SitsThereAs, most_at, allows_duplicates_at, first_seat, world_after_all, run_after, Session}
use Rattle.radio_laws.proofs.Words.{IsSound, world_after, StationState, World, world, opening, standing_of, order_carried, sound_after, sound_opening, sound_sat_out, ticked_fates, TimeOver, nobody_came_ending, sight_of}
use Rattle.radio_laws.proofs.Words.{has_sat_out, has_new_seat, beside_new_seat, station_called, keeps_settings, heard_at}
use Rattle.radio_fallback.specs.declared.moves.Move.TheVariants.{Ended as SessionEnds}
use Rattle.radio_laws.proofs.Commands.ObeyLemmas.{nobody_came_losing}
use Rattle.radio_core.proofs.Seats.GivenSeats.{nobody_came_given}
use Rattle.radio_laws.proofs.Seats.HeardLaws.{order_given}
use Rattle.radio_laws.proofs.Seats.TableSteps.{TableStep, IsUntouched, AreEnded, IsEnded, AreCarried, AreGiven, SitsDown, IsHanded}
use Rattle.radio_laws.proofs.Seats.TableSteps.{IsGone, SourceIsGone, HasTicked, table_step}

-- the limits, with users compared as the table does it
pub record Within (w : World) : Type 0 where
  pub not_too_many : (mount : List ℕ) (most : ℕ) → most_at w mount ≡ Some most → length (seats_at w.seats mount) ≤ most
  pub none_twice : (mount user : List ℕ) (id other : ℕ) → allows_duplicates_at w mount ≡ false → SitsAs w.seats id mount user
      → SitsAs w.seats other mount user → id ≡ other

-- an equal user is the same bytes
pub sent_as : (user : List ℕ) (pair : Option Credentials) → SentUser user pair → has_user user pair ≡ true
sent_as user pair sent = ap (has_user user) sent.1 ∙ (bytes_eq-Decides sent.0.user user).1 sent.2

pub sits_as : (w : World) (id : ℕ) (mount user : List ℕ) → SitsThereAs w id mount user → SitsAs w.seats id mount user
sits_as w id mount user sits = (sits.seat, sits.has_the_seat, sits.at_the_mount, sent_as user sits.seat.pair sits.his_user)

pub within_limits : (w : World) → Within w → IsWithinLimits w
within_limits w l = record {
  not_too_many = l.not_too_many;
  none_twice = λ mount user id other once his theirs. l.none_twice mount user id other once (sits_as w id mount user his) (sits_as w other mount user theirs);
}

-- a mount that is not full has room for one more
room_left : (count most : ℕ) (limit : Option ℕ) → limit ≡ Some most → is_full count limit ≡ false → count < most
room_left count most (Some other) e room = let same : other ≡ most = cc in grind (arith, nat_tests)
room_left count most None e room = cc

not_true_at : (b : Bool) → not b ≡ true → b ≡ false
not_true_at true e = cc
not_true_at false e = refl

-- if a listener may sit down, its user does not sit there
not_there : (allows : Bool) (seats : List Listener) (mount user : List ℕ) (pair : Option Credentials) → allows ≡ false
    → (not allows && sits_already seats mount pair) ≡ false
    → has_user user pair ≡ true → sits_there seats mount user ≡ false
not_there true seats mount user pair once none his = cc
not_there false seats mount user None once none his = cc
not_there false seats mount user (Some sent) once none his =
    let same : sent.user ≡ user = (bytes_eq-Decides sent.user user).0 his in subst (λ (x : List ℕ). sits_there seats mount x ≡ false) same none

-- a carry keeps the limits, also of mounts that are none of its own
module _ (w : World) (move : Move) (order : AreByNumber w.seats) (l : Within w) where
  pub within_carried : Within (carried_along w move)
  within_carried = record {
    not_too_many = λ mount most e. keeps_limit (sight_of w.station) move w.seats mount order (λ other limited. l.not_too_many mount other limited) most e;
    none_twice = λ mount user id other once his theirs.
        sit_once (sight_of w.station) move w.seats mount (λ alone one his_id their_id mine yours. l.none_twice mount one his_id their_id alone mine yours)
        once user id other his theirs;
  }

-- the limits depend on the station's settings and the seats alone
pub other_station : (w later : World) → later.station.settings ≡ w.station.settings → later.seats ≡ w.seats → Within w → Within later
other_station w later settings seats l = record {
  not_too_many = λ mount most e.
      subst (λ (xs : List Listener). length (seats_at xs mount) ≤ most) (sym seats) (l.not_too_many mount most (ap (λ (x : Settings). most_of x mount) (sym settings) ∙ e));
  none_twice = λ mount user id other once his theirs.
      l.none_twice mount user id other (ap (λ (x : Settings). allows_of x mount) (sym settings) ∙ once)
      (subst (λ (xs : List Listener). SitsAs xs id mount user) seats his) (subst (λ (xs : List Listener). SitsAs xs other mount user) seats theirs);
} where
  most_of : Settings → List ℕ → Option ℕ
  most_of settings mount = (options_for settings mount).listeners.max_listeners

  allows_of : Settings → List ℕ → Bool
  allows_of settings mount = (options_for settings mount).users.allow_duplicate_users

within_ended : (w : World) (mount : List ℕ) → AreByNumber w.seats → Within w → Within (session_ended w mount)
within_ended w mount order l =
    within_carried (session_over w mount) (SessionEnds mount) order (other_station w (session_over w mount) refl refl l)

within_called : (w : World) (mount : List ℕ) → AreByNumber w.seats → Within w → Within (called_home w mount)
within_called w mount order l = by_test (options_for w.station.settings mount).listeners.fallback_override where
  by_test : (b : Bool) → Within (if b then carried_along w (Up mount) else w)
  by_test true = within_carried w (Up mount) order l
  by_test false = l

pub within_silence : (sessions : List Session) (w : World) → AreByNumber w.seats → Within w → Within (fold session_silenced w sessions)
within_silence [] w order l = l
within_silence (session ∷ sessions) w order l =
    let ended = session_ended w session.mount in
    within_silence sessions (session_silenced w session) (order_carried (session_over w session.mount) (SessionEnds session.mount) order)
    (other_station ended (session_silenced w session) refl refl (within_ended w session.mount order l))

-- if nobody has sat down, the limits still hold
within_kept : (w later : World) → Within w → later.station.settings ≡ w.station.settings → NobodyCame w.seats later.seats → Within later
within_kept w later l same came = record {
  not_too_many = λ mount most e.
      let before = l.not_too_many mount most (ap (λ (x : Settings). most_of x mount) (sym same) ∙ e) in omega (arith, came.no_more mount, before);
  none_twice = λ mount user id other once his theirs.
      l.none_twice mount user id other (ap (λ (x : Settings). allows_of x mount) (sym same) ∙ once) (came.sat id mount user his)
      (came.sat other mount user theirs);
} where
  most_of : Settings → List ℕ → Option ℕ
  most_of settings mount = (options_for settings mount).listeners.max_listeners

  allows_of : Settings → List ℕ → Bool
  allows_of settings mount = (options_for settings mount).users.allow_duplicate_users

module _ (w : World) (s : IsSound w) (l : Within w) where
  within_still : (later : World) → later.station.settings ≡ w.station.settings → NobodyCame w.seats later.seats → Within later
  within_still later same came = within_kept w later l same came

  -- nor does anybody come when listeners have sat out their time
  pub within_sat_out : (ms : ℕ) → Within (before_silence w ms)
  within_sat_out ms = within_still (before_silence w ms) refl (nobody_came_ending (has_sat_out w.station.settings ms) TimeOver w.seats)

  -- a listener sits down at a mount that admits it
  module _ (asked : ListenRequest) (peer : Peer) (session : Session) (e : standing_of w asked.id ≡ Undecided peer)
      (live : heard_at w.station session.mount ≡ Some session) (welcome : MaySit (sight_of w.station) w.seats asked.pair session.mount) where
    abbrev new : Seat
    new = first_seat w.station asked peer session

    abbrev later : World
    later = changed w (TakeSeat asked.id new)

    still_room : (mount : List ℕ) (most : ℕ) → most_at w mount ≡ Some most → length (seats_at later.seats mount) ≤ most
    still_room mount most limit =
        by_name session.mount mount
        (λ here.
        let low = room_left (count_at w.seats session.mount) most (most_at w session.mount) (ap (most_at w) here ∙ limit) welcome.has_room in
        let below : count_at w.seats mount < most = subst (λ (m : List ℕ). count_at w.seats m < most) here low in
        omega (arith, below, one_more_at w.seats asked.id new mount))
        (λ apart. omega (arith, no_more_elsewhere w.seats asked.id new mount apart, l.not_too_many mount most limit))

    -- no listener that sat there before sent its user
    nobody_else : (mount user : List ℕ) (other : ℕ) → allows_duplicates_at w mount ≡ false → SitsAs later.seats asked.id mount user
        → SitsAs w.seats other mount user → ⊥
    nobody_else mount user other once his theirs =
        let found : Some new ≡ Some his.0 = sym (has_new_seat w s asked peer session e live) ∙ his.1 in
        let one : new ≡ his.0 = cc in
        let here : session.mount ≡ mount = ap (λ (x : Seat). x.mount) one ∙ his.2 in
        let sent : has_user user asked.pair ≡ true = ap (λ (x : Seat). has_user user x.pair) one ∙ his.3 in
        let off : allows_duplicates_at w session.mount ≡ false = ap (allows_duplicates_at w) here ∙ once in
        let alone = not_true_at (is_twice_for (sight_of w.station) w.seats asked.pair session.mount)
        (and_parts (lets_in w.station.lists session.mount asked.pair) _ welcome.is_open).1 in
        let none = not_there (allows_duplicates_at w session.mount) w.seats session.mount user asked.pair off alone sent in
        nobody_sits_as w.seats other mount user (subst (λ (m : List ℕ). sits_there w.seats m user ≡ false) here none) theirs

    sat_before : (mount user : List ℕ) (id : ℕ) → (asked.id == id) ≡ false → SitsAs later.seats id mount user → SitsAs w.seats id mount user
    sat_before mount user id apart sits = (sits.0, sym (beside_new_seat w s asked peer session e live id apart) ∙ sits.1, sits.2, sits.3)

    his_now : (mount user : List ℕ) (id : ℕ) → asked.id ≡ id → SitsAs later.seats id mount user → SitsAs later.seats asked.id mount user
    his_now mount user id same sits = subst (λ (n : ℕ). SitsAs later.seats n mount user) (sym same) sits

    one_each : (mount user : List ℕ) (id other : ℕ) → allows_duplicates_at w mount ≡ false → SitsAs later.seats id mount user
        → SitsAs later.seats other mount user → id ≡ other
    one_each mount user id other once his theirs =
        by_number asked.id id
        (λ same. by_number asked.id other (λ also. sym same ∙ also)
        (λ apart. absurd (nobody_else mount user other once (his_now mount user id same his) (sat_before mount user other apart theirs))))
        (λ away. by_number asked.id other
        (λ same. absurd (nobody_else mount user id once (his_now mount user other same theirs) (sat_before mount user id away his)))
        (λ apart. l.none_twice mount user id other once (sat_before mount user id away his) (sat_before mount user other apart theirs)))

    within_seated : Within later
    within_seated = record { not_too_many = still_room; none_twice = one_each }

  -- whatever an outcome makes of the table, the limits hold of it, in the station as it was
  within_here : (seats : List Listener) → NobodyCame w.seats seats → Within (world w.station seats)
  within_here seats came = within_still (world w.station seats) refl came

  within_by : (event : Event) (seats : List Listener) → TableStep w event seats → Within (world w.station seats)
  within_by event seats IsUntouched = within_here seats (nobody_came w.seats)
  within_by event seats (AreEnded p rule) = within_here seats (nobody_came_ending p rule w.seats)
  within_by event seats (IsEnded him rule) = within_here seats (nobody_came_losing w him rule)
  within_by event seats (AreCarried station move same) =
      let seen = world station w.seats in
      other_station (carried_along seen move) (world w.station seats) (sym same) refl (within_carried seen move s.by_number (other_station w seen same refl l))
  within_by event seats (AreGiven station mount session same) =
      let given = world station (with_session_at w.seats mount session) in
      let heard = within_still given same (nobody_came_given mount session w.seats) in
      other_station (called_home given mount) (world w.station seats) (sym (ap (λ (h : StationState). h.settings) (station_called given mount) ∙ same)) refl
      (within_called given mount (order_given mount session w.seats s.by_number) heard)
  within_by event seats (SitsDown asked peer session undecided lands live) =
      other_station (changed w (TakeSeat asked.id (first_seat w.station asked peer session))) (world w.station seats) refl refl
      (within_seated asked peer session undecided live (lands_where_he_fits (sight_of w.station) w.seats asked.pair asked.mount session.mount lands))
  within_by event seats (IsHanded him place seat has) = within_here seats (nobody_came_hearing w.seats him place seat has)
  within_by event seats (IsGone him leaving) = within_here seats (nobody_came_leaving w.seats him)
  within_by event seats (SourceIsGone him mount leaving) =
      within_kept (session_ended w mount) (world w.station seats) (within_ended w mount s.by_number l) refl
      (nobody_came_leaving (session_ended w mount).seats him)
  within_by event seats (HasTicked ms e) =
      other_station (ticked w ms) (world w.station seats) (sym (ticked_fates w s ms).settings) refl
      (within_silence (silent_in (before_silence w ms)) (before_silence w ms) (sound_sat_out w s ms).by_number (within_sat_out ms))

  pub within_after : (event : Event) → Within (world_after w event)
  within_after event =
      other_station (world w.station (world_after w event).seats) (world_after w event) (keeps_settings w s event) refl
      (within_by event (world_after w event).seats (table_step w event))

within_after_all : (w : World) → IsSound w → Within w → (events : List Event) → Within (world_after_all w events)
within_after_all w s l [] = l
within_after_all w s l (event ∷ events) = within_after_all (world_after w event) (sound_after w s event) (within_after w s l event) events

pub within_run : (settings : Settings) (lists : Lists) (events : List Event) → Within (run_after settings lists events)
within_run settings lists events = within_after_all (opening settings lists) (sound_opening settings lists) (record {
  not_too_many = λ mount most e. omega arith;
  none_twice = λ mount user id other once his theirs. let none = his.1 in cc;
}) events

pub limits_run : (settings : Settings) (lists : Lists) (events : List Event) → IsWithinLimits (run_after settings lists events)
limits_run settings lists events = within_limits (run_after settings lists events) (within_run settings lists events)
