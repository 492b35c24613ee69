-- The users that are let in at a mount, while commands change them.
use Rattle.std.specs.Prelude.{◌≡◌, ◌↔◌, ℕ, Bool, true, false, List, Some, None}
use Rattle.md5.specs.Md5.{md5}
use Rattle.radio_addr.specs.declared.address.Address.{Address}
use Rattle.radio_creds.specs.Credentials.{Credentials}
use Rattle.radio_access.specs.Lists.{passes, lets_in}
use Rattle.radio_seats_rows.specs.declared.seat.Seat.{Seat}
use Rattle.radio_seats_rows.specs.Seats.{seat_of}
use Rattle.radio_events.specs.declared.command.Command.TheVariants.{AddUser, DeleteUser}
use Rattle.radio_events.specs.declared.event.Event.{Event}
use Rattle.radio_parts.specs.Allowed.{IsCommanded}
use Rattle.radio_parts.specs.Step.{world_after}
use Rattle.radio_parts_station.specs.World.{World}

-- whether a client that sends this pair is let in at the mount, before an event and after it
pub data LetInStep (w : World) (event : Event) (mount : List ℕ) (pair : Credentials) (before : Bool) : Bool → Type 0 where
  -- as before
  Stays : LetInStep w event mount pair before before
  -- a command gives its user this password; it is let in then if what it sends has its MD5 digest
  IsSet : (password : List ℕ) (later : Bool) → IsCommanded w event (AddUser mount pair.user password)
      → (later ≡ true) ↔ (md5 pair.password ≡ md5 password) → LetInStep w event mount pair before later
  -- a command takes its user away
  IsTakenAway : IsCommanded w event (DeleteUser mount pair.user) → LetInStep w event mount pair before false

-- what an event does to the users that are let in
pub record UsersStep (w : World) (event : Event) : Type 0 where
  pub pairs : (mount : List ℕ) (pair : Credentials)
      → LetInStep w event mount pair (lets_in w.station.lists mount (Some pair)) (lets_in (world_after w event).station.lists mount (Some pair))
  -- a listener that sends no pair is let in at the same mounts as before
  pub without : (mount : List ℕ) → lets_in (world_after w event).station.lists mount None ≡ lets_in w.station.lists mount None
  -- and the same addresses are let in as before
  pub addresses : (peer : Address) → passes (world_after w event).station.lists peer ≡ passes w.station.lists peer

-- nobody sits at a mount whose users, as they are now, do not let it in
abbrev pub SittersAreLetIn : World → Type 0
SittersAreLetIn w = (id : ℕ) (seat : Seat) → seat_of w.seats id ≡ Some seat → lets_in w.station.lists seat.mount seat.pair ≡ true
