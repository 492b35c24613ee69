-- Listeners can be seated at live mounts.
use Rattle.std.specs.Prelude.{◌≡◌, ℕ, true, is_some, List}
use Rattle.radio_seats_rows.specs.SeatTable.{is_prepared}
use Rattle.radio_parts_mount.specs.Sessions.{Session, session_of}

-- each live mount is prepared
pub record LiveArePrepared (live : List Session) (prepared : List (List ℕ)) : Type 0 where
  pub each : (mount : List ℕ) → is_some (session_of live mount) ≡ true → is_prepared prepared mount ≡ true
