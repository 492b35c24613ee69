-- whose seats are as they were when all at a mount hear a session that has begun there
use Rattle.std.proofs.Common.{◌≡◌, Bool, false, ℕ, Option, Some, None, List, refl, ap, sym, ◌∙◌, arith}
use Rattle.radio_core.proofs.Words.{if◌then◌else◌, option_map, bytes_eq, Listener, Seat, seat_of, with_session_at, has_user, seat_hearing, seat_of_hearing, count_hearing}
use Rattle.radio_seats_rows.proofs.CountLaws.{NobodyCame}

module _ (mount : List ℕ) (session : ℕ) (seats : List Listener) (id : ℕ) (seat : Seat)
    (has : seat_of (with_session_at seats mount session) id ≡ Some seat) where
  -- each has the seat that it had, in the new session where it is at the mount
  pub given_from : (old : Seat) × (seat_of seats id ≡ Some old) × (seat_hearing mount session old ≡ seat)
  given_from = by_found (seat_of seats id) refl (sym (seat_of_hearing mount session seats id) ∙ has) where
    by_found : (found : Option Seat) → seat_of seats id ≡ found → option_map (seat_hearing mount session) (seat_of seats id) ≡ Some seat
        → (old : Seat) × (seat_of seats id ≡ Some old) × (seat_hearing mount session old ≡ seat)
    by_found None none h =
        let nothing : option_map (seat_hearing mount session) (seat_of seats id) ≡ None = ap (option_map (seat_hearing mount session)) none in cc
    by_found (Some old) had h =
        let both : Some (seat_hearing mount session old) ≡ Some seat = sym (ap (option_map (seat_hearing mount session)) had) ∙ h in
        let one : seat_hearing mount session old ≡ seat = cc in
        (old, had, one)

  -- who sits elsewhere has the one that it had
  pub sat_elsewhere : bytes_eq seat.mount mount ≡ false → seat_of seats id ≡ Some seat
  sat_elsewhere away =
      let apart : bytes_eq given_from.0.mount mount ≡ false = ap (λ (x : Seat). bytes_eq x.mount mount) given_from.2 ∙ away in
      let same : seat_hearing mount session given_from.0 ≡ given_from.0
      = ap (λ (b : Bool). record given_from.0 { session = (if b then session else given_from.0.session) }) apart in
      given_from.1 ∙ ap (λ (x : Seat). Some x) (sym same ∙ given_from.2)

-- so nobody has come
pub nobody_came_given : (mount : List ℕ) (session : ℕ) (seats : List Listener) → NobodyCame seats (with_session_at seats mount session)
nobody_came_given mount session seats = record {
  no_more = λ other. let same = count_hearing mount session other seats in omega (arith, same);
  sat = λ id other user sits.
      let from = given_from mount session seats id sits.0 sits.1 in
      (from.0, from.1, ap (λ (x : Seat). x.mount) from.2 ∙ sits.2, ap (λ (x : Seat). has_user user x.pair) from.2 ∙ sits.3);
}
