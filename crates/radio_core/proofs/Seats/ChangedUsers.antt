-- who loses its seat where a command has changed the users of its mount
use Rattle.std.proofs.Common.{◌≡◌, Bool, true, false, ℕ, List, refl, ap, sym, subst, ◌∙◌}
use Rattle.radio_core.proofs.Words.{not, bytes_eq, and_parts, bytes_eq-Decides, ListenerPassword, Lists, lets_in, Seat, seat_of, Event, is_shut_out, World, Session, ChangesUsers, outsiders_ended, Cause, IsNotAccepted}
use Rattle.radio_core.proofs.Words.{IsSound}
use Rattle.radio_parts_station.specs.Fallbacks.{Fallback}
use Rattle.radio_core.proofs.Clients.Fates.{Fates, Nobody, seats_fates}

-- the state with these lists
abbrev pub with_lists : World → Lists → World
with_lists w lists = record w { station = record w.station { lists = lists } }

-- what holds of every state of a run says nothing of them, nor of the fallbacks that are set
pub sound_set : (w : World) → IsSound w → (lists : Lists) (fallbacks : List Fallback)
    → IsSound (record w { station = record w.station { lists = lists; fallbacks = fallbacks } })
sound_set w s lists fallbacks = record {
  numbered = s.numbered;
  from_one = s.from_one;
  feeds = s.feeds;
  fed = s.fed;
  apart = s.apart;
  starts = s.starts;
  by_number = s.by_number;
  sitting = s.sitting;
  seated = λ id seat e.
      let old = s.seated id seat e in
      record { session = old.session; is_heard = old.is_heard; his_session = old.his_session; within = old.within };
}

is_not : (b : Bool) → not b ≡ true → b ≡ false
is_not true e = cc
is_not false e = refl

-- it sits there, and is not let in
pub shut_out_there : (lists : Lists) (mount : List ℕ) (seat : Seat) → is_shut_out lists mount seat ≡ true
    → (mount ≡ seat.mount) × (lets_in lists seat.mount seat.pair ≡ false)
shut_out_there lists mount seat out =
    let parts = and_parts (bytes_eq seat.mount mount) (not (lets_in lists mount seat.pair)) out in
    let there : seat.mount ≡ mount = (bytes_eq-Decides seat.mount mount).0 parts.0 in
    (sym there, ap (λ (m : List ℕ). lets_in lists m seat.pair) there ∙ is_not (lets_in lists mount seat.pair) parts.1)

module _ (w base : World) (event : Event) (mount : List ℕ) (sound : IsSound base) (same : (id : ℕ) → seat_of base.seats id ≡ seat_of w.seats id)
    (changes : ChangesUsers w event mount) where
  pub users_fates : (M : ℕ → Session → Type 0) (L : World → Seat → Session → Type 0)
      → Fates (Cause w (outsiders_ended base mount) event) M Nobody L base (outsiders_ended base mount)
  users_fates M L =
      seats_fates (Cause w (outsiders_ended base mount) event) M Nobody L base sound (is_shut_out base.station.lists mount) ListenerPassword
      (λ id seat has out.
      let there = shut_out_there base.station.lists mount seat out in
      IsNotAccepted seat (sym (same id) ∙ has) (subst (λ (m : List ℕ). ChangesUsers w event m) there.0 changes) there.1)
