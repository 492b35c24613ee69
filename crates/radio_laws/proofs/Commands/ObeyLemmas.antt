-- what commands leave as it is
use Rattle.std.proofs.Common.{◌≡◌, Bool, true, false, ℕ, ◌≤◌, Option, Some, List, [], ◌∷◌, length, refl, ap, sym, subst, arith}
use Rattle.radio_laws.proofs.Words.{if◌then◌else◌, Rule, Listener, Seating, is_listener, is_seat_at, lost_by, loses, seats_at, with_end, NobodyCame, Event, Obey, changed, IsCommanded, Session, session_of, IsSound, World}
use Rattle.radio_laws.proofs.Words.{seat_unless_lost}
use Rattle.radio_seats_rows.specs.declared.seat.Seating.TheVariants.{Sits as HasSeat, Finished as HasLostIt}
use Rattle.radio_events.specs.declared.command.Command.{Command as TheCommand}
use Rattle.radio_core.specs.SessionSteps.{SessionStep, Stays, Begins, BeginsForRelay, Grows, IsTitled, IsRetitled, Ends, IsKilled}
use Rattle.radio_core.proofs.Sessions.SessionSteps.{obeys}

-- a session that is live after a command was live before it, with the same source and the same data
pub record WasLive (before : Option Session) (now : Session) : Type 0 where
  pub old : Session
  pub was : before ≡ Some old
  pub number : old.number ≡ now.number
  pub stream : old.stream ≡ now.stream

module _ (w : World) (event : Event) (command : TheCommand) (c : IsCommanded w event command) (mount : List ℕ) where
  live_by : (before after : Option Session) → SessionStep w event mount before after → (now : Session) → after ≡ Some now → WasLive before now
  live_by before after (Stays session) now e = record { old = now; was = e; number = refl; stream = refl }
  live_by before after (Begins asked session is named has) now e = let other = c.is_event in cc
  live_by before after (BeginsForRelay shown session is has) now e = let other = c.is_event in cc
  live_by before after (Grows session block is) now e = let other = c.is_event in cc
  live_by before after (IsTitled session text is) now e = let other = c.is_event in cc
  live_by before after (IsRetitled session text by) now e =
      let one : record session { title = Some text } ≡ now = cc in
      record { old = session; was = refl; number = ap (λ (x : Session). x.number) one; stream = ap (λ (x : Session). x.stream) one }
  live_by before after (Ends session by) now e = cc
  live_by before after (IsKilled session by) now e = cc

  pub was_live_then : IsSound w → (now : Session) → session_of (changed w (Obey c.asked.id command)).station.live mount ≡ Some now
      → WasLive (session_of w.station.live mount) now
  was_live_then s now e =
      live_by (session_of w.station.live mount) (session_of (changed w (Obey c.asked.id command)).station.live mount) (obeys w s mount event command c) now e

-- after a listener has lost its seat, nobody has sat down
module _ (him : ℕ) (rule : Rule) (mount : List ℕ) where
  not_there : (seating : Seating) → is_seat_at mount (lost_by rule seating) ≡ false
  not_there (HasSeat seat) = refl
  not_there (HasLostIt by last) = refl

  at_most : (there : Bool) (x : Listener) (xs : List Listener) → length xs ≤ length (if there then x ∷ xs else xs)
  at_most true x xs = omega arith
  at_most false x xs = omega arith

  more_at : (there : Bool) (x : Listener) (xs ys : List Listener) → length xs ≤ length ys
      → length (if there then x ∷ xs else xs) ≤ length (if there then x ∷ ys else ys)
  more_at true x xs ys h = omega (arith, h)
  more_at false x xs ys h = h

  fewer_at : (x : Listener) (xs : List Listener) (his : Bool) → length (seats_at (with_end xs him rule) mount) ≤ length (seats_at xs mount)
      → length (seats_at (if his then loses rule x ∷ xs else x ∷ with_end xs him rule) mount) ≤ length (seats_at (x ∷ xs) mount)
  fewer_at x xs true later =
      subst (λ (b : Bool). length (if b then loses rule x ∷ seats_at xs mount else seats_at xs mount) ≤ length (seats_at (x ∷ xs) mount))
      (sym (not_there x.seating)) (at_most (is_seat_at mount x.seating) x (seats_at xs mount))
  fewer_at x xs false later = more_at (is_seat_at mount x.seating) x (seats_at (with_end xs him rule) mount) (seats_at xs mount) later

  fewer : (xs : List Listener) → length (seats_at (with_end xs him rule) mount) ≤ length (seats_at xs mount)
  fewer [] = omega arith
  fewer (x ∷ xs) = fewer_at x xs (is_listener him x) (fewer xs)

pub nobody_came_losing : (w : World) (him : ℕ) (rule : Rule) → NobodyCame w.seats (with_end w.seats him rule)
nobody_came_losing w him rule = record {
  no_more = λ mount. fewer him rule mount w.seats;
  sat = λ id mount user sits. (sits.0, seat_unless_lost w him rule id sits.0 sits.1, sits.2, sits.3);
}
