-- What the table shows: the mounts that were prepared, and the listeners.
use Rattle.std.specs.Prelude.{ℕ, Bool, List}
use Rattle.std.specs.List.{list_any}
use Rattle.std.specs.Str.{bytes_eq}
use Rattle.radio_seats_rows.specs.declared.seat.Listener.{Listener}

pub record SeatTable : Type 0 where
  -- the names of the mounts that were prepared
  pub prepared : List (List ℕ)
  -- the listeners, in the order of their numbers
  pub seats : List Listener

-- the mount was prepared
abbrev pub is_prepared : List (List ℕ) → List ℕ → Bool
is_prepared prepared mount = list_any (λ other. bytes_eq other mount) prepared
