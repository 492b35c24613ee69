-- rows whose listeners hear a session that has begun at their mount
use Rattle.std.proofs.Common.{◌≡◌, false, ℕ, ◌==◌, List, [], ◌∷◌, refl, ap, sym, arith}
use Rattle.radio_seats.proofs.Words.{map, if◌then◌else◌, bytes_eq, Mount, ListenerRow, RowState, Seated, Ended, Seating, Sits, seat_of_guest, hears, last_number, with_state, named, named_state, state_at, sits_by}
use Rattle.radio_seats.proofs.Words.{names_by, AreCounted, hears_session, in_session_at, with_session_at, passing_same, map_both}

abbrev pub hearing : ℕ → ℕ → ListenerRow → ListenerRow
hearing number session row = with_state (hears number session row.state) row

-- each sits where it sat, and names the mount that it named
sits_still : (number session k : ℕ) (state : RowState) → state_at k (hears number session state) ≡ state_at k state
sits_still number session k (Seated seat) = refl
sits_still number session k (Ended rule mount) = refl

names_still : (number session k : ℕ) (state : RowState) → (last_number (hears number session state) == k) ≡ (last_number state == k)
names_still number session k (Seated seat) = refl
names_still number session k (Ended rule mount) = refl

pub counted_hearing : (mounts : List Mount) (rows : List ListenerRow) (number session : ℕ) → AreCounted mounts rows
    → AreCounted mounts (map (hearing number session) rows)
counted_hearing mounts rows number session counted = record {
  sitting = λ k.
      let same = passing_same (sits_by k) (hearing number session) (λ row. sits_still number session k row.state) rows in
      omega (arith, counted.sitting k, same);
  naming = λ k.
      let same = passing_same (names_by k) (hearing number session) (λ row. names_still number session k row.state) rows in
      omega (arith, counted.naming k, same);
}

-- and what is shown of it follows
module _ (name : ℕ → List ℕ) (mount : List ℕ) (number session : ℕ) (only : (k : ℕ) → bytes_eq (name k) mount ≡ (k == number)) where
  hears_shown : (state : RowState) → named_state name (hears number session state) ≡ in_session_at mount session (named_state name state)
  hears_shown (Seated seat) =
      ap (λ b. Sits (seat_of_guest seat.place (name seat.mount) (if b then session else seat.session) seat.guest)) (sym (only seat.mount))
  hears_shown (Ended rule last) = refl

  pub seats_hearing : (rows : List ListenerRow) → map (named name) (map (hearing number session) rows) ≡ with_session_at (map (named name) rows) mount session
  seats_hearing rows =
      map_both (named name) (hearing number session) (hears_session mount session)
      (λ row. ap (λ (seating : Seating). record { id = row.id; seating = seating }) (hears_shown row.state)) rows

-- at a mount that was not prepared nobody hears it
module _ (name : ℕ → List ℕ) (mount : List ℕ) (session : ℕ) (only : (k : ℕ) → bytes_eq (name k) mount ≡ false) where
  none_hears : (state : RowState) → in_session_at mount session (named_state name state) ≡ named_state name state
  none_hears (Seated seat) =
      ap (λ b. Sits (seat_of_guest seat.place (name seat.mount) (if b then session else seat.session) seat.guest)) (only seat.mount)
  none_hears (Ended rule last) = refl

  pub nobody_hears : (rows : List ListenerRow) → map (named name) rows ≡ with_session_at (map (named name) rows) mount session
  nobody_hears [] = refl
  nobody_hears (row ∷ rows) =
      let same = none_hears row.state in
      let rest = nobody_hears rows in
      cc
