use Rattle.std.specs.Prelude.{◌≡◌, ℕ, true, false, Some, List}
use Rattle.radio_access.specs.Lists.{passes, lets_in}
use Rattle.radio_seats_rows.specs.declared.seat.Seat.{Seat}
use Rattle.radio_laws.specs.Limits.{SentUser, SitsThereAs, allows_duplicates_at}
use Rattle.radio_parts_mount.specs.Sessions.{Session}
use Rattle.radio_parts_station.specs.World.{World}
use Rattle.radio_parts_station.specs.Waiting.{heard_at}

-- the mount where the listener of this number sits is open to it. It is live, in the session in which the listener was seated, or both wait
-- for one. The listener's address passes the address lists. The mount has no users, or they accept the pair that the listener sent.
-- If each user may sit there once, no other listener that sits there sent its user
-- rule: Open to the listener
pub record IsOpenTo (w : World) (id : ℕ) (seat : Seat) : Type 0 where
  pub session : Session
  pub is_heard : heard_at w.station seat.mount ≡ Some session
  pub his_session : session.number ≡ seat.session
  pub passes_lists : passes w.station.lists seat.peer ≡ true
  pub is_let_in : lets_in w.station.lists seat.mount seat.pair ≡ true
  pub is_alone : (user : List ℕ) (other : ℕ) → allows_duplicates_at w seat.mount ≡ false → SentUser user seat.pair
      → SitsThereAs w other seat.mount user → other ≡ id
