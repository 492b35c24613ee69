-- how each listener fares where a source comes up on a mount that calls its listeners home
use Rattle.std.proofs.Common.{◌≡◌, ◌+◌, arith, Bool, true, false, ℕ, Some, None, List, refl, ap, sym, ◌∙◌}
use Rattle.radio_core.proofs.Words.{◌&&◌, not, if◌then◌else◌, bytes_eq, and_parts, bytes_eq-Decides, Rule, lets_in, options_for, Listener, Seat, seat_of, Up, GoesTo, at_his_turn, comes_home, never_out, Begin, Raise}
use Rattle.radio_core.proofs.Words.{Undecided, Feeds, Peer, Shown, changed, carried_along, called_home, session_begun, session_raised, begun, raised, sight_of, his_turn, moved_into, Session, session_of, IsSound, World}
use Rattle.radio_core.proofs.Words.{standing_of, heard_at}
use Rattle.radio_core.proofs.Clients.CarriedFates.{order_carried, carried_fate}
use Rattle.radio_core.proofs.Sound.SoundSessions.{sound_begun, sound_raised}
use Rattle.radio_core.proofs.Clients.Standings.{Turns, asks, turns_feeding, turns_raised, turns_given}
use Rattle.radio_core.proofs.Clients.Fates.{Fate, GoesOn, IsEnded, HasStopped, IsMoved, Fates, Nobody, sound_fates}

abbrev Nothing : ℕ → Rule → Type 0
Nothing id rule = ⊥

-- whoever is called leaves another mount, and the one to which it goes is its home
abbrev pub LeavesAnother : World → Seat → Session → Type 0
LeavesAnother later old session = (bytes_eq old.mount session.mount ≡ false) × (old.home ≡ session.mount)

-- a listener rests where it is, or comes home from another mount, to the end of the stream there
pub data IsCalled (M : ℕ → Session → Type 0) (w later : World) (id : ℕ) : Type 0 where
  Rests : standing_of later id ≡ standing_of w id → seat_of later.seats id ≡ seat_of w.seats id → IsCalled M w later id
  Comes : (old : Seat) (session : Session) → M id session → LeavesAnother later old session → seat_of w.seats id ≡ Some old
      → seat_of later.seats id ≡ Some (moved_into session old) → standing_of later id ≡ standing_of w id
      → heard_at later.station session.mount ≡ Some session → lets_in w.station.lists session.mount old.pair ≡ true → IsCalled M w later id

is_called_by : (M : ℕ → Session → Type 0) (w later : World) (id : ℕ) → Fate Nothing M Nobody LeavesAnother w later id → IsCalled M w later id
is_called_by M w later id (GoesOn same seat feeds sits) = Rests same seat
is_called_by M w later id (IsEnded rule cause active ended none over) = absurd cause
is_called_by M w later id (HasStopped mount why feeding done none over) = absurd why
is_called_by M w later id (IsMoved old session carries left had has same live opens) = Comes old session carries left had has same live opens

-- not at the mount and at it
apart_by : (home : Bool) (at : List ℕ) (mount to : List ℕ) → mount ≡ to → (home && not (bytes_eq at mount)) ≡ true → bytes_eq at to ≡ false
apart_by home at mount to same e = ap (bytes_eq at) (sym same) ∙ not_true (bytes_eq at mount) (and_parts home (not (bytes_eq at mount)) e).1 where
  not_true : (b : Bool) → not b ≡ true → b ≡ false
  not_true true h = cc
  not_true false h = refl

-- whom the move concerns, its home it is
home_by : (home mount to : List ℕ) (away : Bool) → mount ≡ to → (bytes_eq home mount && away) ≡ true → home ≡ to
home_by home mount to away same e = (bytes_eq-Decides home mount).0 (and_parts (bytes_eq home mount) away e).0 ∙ same

module _ (w : World) (s : IsSound w) (mount : List ℕ) (M : ℕ → Session → Type 0)
    (carries : (options_for w.station.settings mount).listeners.fallback_override ≡ true → (id : ℕ) (session : Session)
    → his_turn w (Up mount) id ≡ GoesTo session.mount → M id session) where
  module _ (calls : (options_for w.station.settings mount).listeners.fallback_override ≡ true) where
    abbrev later : World
    later = carried_along w (Up mount)

    abbrev seats_then : ℕ → List Listener
    seats_then id = at_his_turn (sight_of w.station) (Up mount) w.seats id

    home_fate : (id : ℕ) → Fate Nothing M Nobody LeavesAnother w later id
    home_fate id =
        carried_fate Nothing M Nobody LeavesAnother w s w.station refl refl refl (Up mount) later (λ m. refl) id refl refl
        (λ turn same seats. GoesOn same seats (λ m feeds. refl) (λ seat has. refl))
        (λ seat session had concerned turn is_live.
        let same : mount ≡ session.mount = comes_home (sight_of w.station) mount (seats_then id) id session.mount turn in (
          apart_by (bytes_eq seat.home mount) seat.mount mount session.mount same concerned,
          home_by seat.home mount session.mount (not (bytes_eq seat.mount mount)) same concerned,
        ))
        (λ seat rule had turn. never_out (sight_of w.station) mount (seats_then id) id rule turn)
        (λ session turn. carries calls id session turn)

    home_fates : Fates Nothing M Nobody LeavesAnother w later
    home_fates = record {
      last = refl;
      lists = refl;
      settings = refl;
      live = λ m session e. e;
      apart = s.apart;
      by_number = order_carried w (Up mount) s.by_number;
      late = λ id client seconds ms e late. e;
      fate = home_fate;
    }

    sound_home : IsSound later
    sound_home = sound_fates Nothing M Nobody LeavesAnother w later s home_fates

  abbrev called_if : Bool → World
  called_if b = (if b then carried_along w (Up mount) else w)

  sound_if : (b : Bool) → (options_for w.station.settings mount).listeners.fallback_override ≡ b → IsSound (called_if b)
  sound_if true e = sound_home e
  sound_if false e = s

  called_by : (id : ℕ) (b : Bool) → (options_for w.station.settings mount).listeners.fallback_override ≡ b → IsCalled M w (called_if b) id
  called_by id true e = is_called_by M w (carried_along w (Up mount)) id (home_fate e id)
  called_by id false e = Rests refl refl

  pub sound_called : IsSound (called_home w mount)
  sound_called = sound_if (options_for w.station.settings mount).listeners.fallback_override refl

  pub is_called : (id : ℕ) → IsCalled M w (called_home w mount) id
  is_called id = called_by id (options_for w.station.settings mount).listeners.fallback_override refl

  pub stands_called : (id : ℕ) → standing_of (called_home w mount) id ≡ standing_of w id
  stands_called id = by_call (is_called id) where
    by_call : IsCalled M w (called_home w mount) id → standing_of (called_home w mount) id ≡ standing_of w id
    by_call (Rests same seat) = same
    by_call (Comes old session carries left had has same live opens) = same

-- a session begins on a mount that was not live, and those come home whom it calls
module _ (w : World) (s : IsSound w) (him : ℕ) (mount : List ℕ) (shown : Shown) (peer : Peer) (stood : standing_of w him ≡ Undecided peer)
    (not_live : session_of w.station.live mount ≡ None) where
  abbrev pub just_begun : World
  just_begun = session_begun w him mount shown

  pub sound_just_begun : IsSound just_begun
  sound_just_begun = sound_begun w s him mount shown peer stood not_live

  pub sound_up : IsSound (changed w (Begin him mount shown))
  sound_up = sound_called just_begun sound_just_begun mount (λ id session. Unit {0}) (λ calls id session turn. tt)

  pub turns_up : Turns w (changed w (Begin him mount shown)) him (Feeds mount)
  turns_up =
      let begins = turns_given w (begun w.station him mount shown) mount him him (Feeds mount) (turns_feeding w him mount shown (asks w him peer stood)) in
      record {
        his = stands_called just_begun sound_just_begun mount (λ id session. Unit {0}) (λ calls id session turn. tt) him ∙ begins.his;
        others = λ id other. stands_called just_begun sound_just_begun mount (λ id session. Unit {0}) (λ calls id session turn. tt) id ∙ begins.others id other;
      }

-- a relay comes up on a mount that was not live, and those come home whom it calls
module _ (w : World) (s : IsSound w) (mount : List ℕ) (shown : Shown) (not_live : session_of w.station.live mount ≡ None) where
  abbrev pub just_raised : World
  just_raised = session_raised w (w.station.last_id + 1) mount shown

  pub sound_just_raised : IsSound just_raised
  sound_just_raised = sound_raised w s mount shown not_live

  pub sound_risen : IsSound (changed w (Raise (w.station.last_id + 1) mount shown))
  sound_risen = sound_called just_raised sound_just_raised mount (λ id session. Unit {0}) (λ calls id session turn. tt)

  pub turns_risen : Turns w (changed w (Raise (w.station.last_id + 1) mount shown)) (w.station.last_id + 1) (Feeds mount)
  turns_risen =
      let him = w.station.last_id + 1 in
      let rises = turns_given w (raised w.station him mount shown) mount him him (Feeds mount) (turns_raised w him mount shown (s.numbered him (omega arith))) in
      record {
        his = stands_called just_raised sound_just_raised mount (λ id session. Unit {0}) (λ calls id session turn. tt) him ∙ rises.his;
        others = λ id other. stands_called just_raised sound_just_raised mount (λ id session. Unit {0}) (λ calls id session turn. tt) id ∙ rises.others id other;
      }
