-- Who sits at a mount whose users do not let it in.
use Rattle.std.specs.Prelude.{ℕ, Bool, ◌&&◌, not, List}
use Rattle.std.specs.Str.{bytes_eq}
use Rattle.radio_access.specs.Lists.{Lists, lets_in}
use Rattle.radio_seats_rows.specs.declared.seat.Seat.{Seat}

-- it is a seat at the mount, of one whom its users do not let in
-- rule: Users shut out
abbrev pub is_shut_out : Lists → List ℕ → Seat → Bool
is_shut_out lists mount seat = bytes_eq seat.mount mount && not (lets_in lists mount seat.pair)
