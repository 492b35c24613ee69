-- what is done to a row leaves its listener's user as it is, so the index of users stays that of the rows
use Rattle.std.proofs.Common.{ℕ, Bool, true, false, List, refl}
use Rattle.radio_seats.proofs.Words.{if◌then◌else◌, map, Rule, update_first, ListenerRow, RowState, Seated, Ended, Guest, is_row, hears, shifted, ended, holds_at, ended_where, with_state, heard_to_place, UserTree}
use Rattle.radio_seats.proofs.Words.{IsUserOf, AreKept}
use Rattle.radio_seats.proofs.UserLemmas.{IsSameUser, kept_updated, kept_mapped}

heard_same : (place : ℕ) (row : ListenerRow) → IsSameUser row (with_state (heard_to_place place row.state) row)
heard_same place row = record { user = refl; own = by_state row.state } where
  by_state : (state : RowState) → IsUserOf row.user state → IsUserOf row.user (heard_to_place place state)
  by_state (Seated seat) is = is
  by_state (Ended rule mount) is = is

shifted_same : (number session place : ℕ) (row : ListenerRow) → IsSameUser row (with_state (shifted number session place row.state) row)
shifted_same number session place row = record { user = refl; own = by_state row.state } where
  by_state : (state : RowState) → IsUserOf row.user state → IsUserOf row.user (shifted number session place state)
  by_state (Seated seat) is = is
  by_state (Ended rule mount) is = is

hears_same : (number session : ℕ) (row : ListenerRow) → IsSameUser row (with_state (hears number session row.state) row)
hears_same number session row = record { user = refl; own = by_state row.state } where
  by_state : (state : RowState) → IsUserOf row.user state → IsUserOf row.user (hears number session state)
  by_state (Seated seat) is = is
  by_state (Ended rule mount) is = is

ended_same : (rule : Rule) (row : ListenerRow) → IsSameUser row (with_state (ended rule row.state) row)
ended_same rule row = record { user = refl; own = by_state row.state } where
  by_state : (state : RowState) → IsUserOf row.user state → IsUserOf row.user (ended rule state)
  by_state (Seated seat) is = tt
  by_state (Ended other mount) is = is

ended_where_same : (p : Guest → Bool) (number : ℕ) (rule : Rule) (row : ListenerRow) → IsSameUser row (ended_where p number rule row)
ended_where_same p number rule row = record { user = refl; own = by_test (holds_at p number row.state) } where
  by_test : (b : Bool) → IsUserOf row.user row.state → IsUserOf row.user (if b then Ended rule number else row.state)
  by_test true is = tt
  by_test false is = is

-- a row in which its listener's state has changed so
abbrev pub changed : (RowState → RowState) → ListenerRow → ListenerRow
changed f row = with_state (f row.state) row

module _ (users : UserTree) (rows : List ListenerRow) (are : AreKept users rows) where
  pub kept_heard : (id place : ℕ) → AreKept users (update_first (is_row id) (changed (heard_to_place place)) rows)
  kept_heard id place = kept_updated (changed (heard_to_place place)) (λ row. refl) (heard_same place) users rows are (is_row id)

  pub kept_shifted : (id number session place : ℕ) → AreKept users (update_first (is_row id) (changed (shifted number session place)) rows)
  kept_shifted id number session place =
      kept_updated (changed (shifted number session place)) (λ row. refl) (shifted_same number session place) users rows are (is_row id)

  pub kept_ended : (id : ℕ) (rule : Rule) → AreKept users (update_first (is_row id) (changed (ended rule)) rows)
  kept_ended id rule = kept_updated (changed (ended rule)) (λ row. refl) (ended_same rule) users rows are (is_row id)

  pub kept_hearing : (number session : ℕ) → AreKept users (map (changed (hears number session)) rows)
  kept_hearing number session = kept_mapped (changed (hears number session)) (λ row. refl) (hears_same number session) users rows are

  pub kept_ended_where : (p : Guest → Bool) (number : ℕ) (rule : Rule) → AreKept users (map (ended_where p number rule) rows)
  kept_ended_where p number rule = kept_mapped (ended_where p number rule) (λ row. refl) (ended_where_same p number rule) users rows are
