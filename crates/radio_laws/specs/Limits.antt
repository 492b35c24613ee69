-- How many clients and sources may be there, how many may sit at a mount, and which users may sit there only once.
use Rattle.std.specs.Prelude.{◌≡◌, ℕ, ◌<◌, ◌≤◌, Bool, false, List, length, Option, Some}
use Rattle.radio_creds.specs.Credentials.{Credentials}
use Rattle.radio_settings_values.specs.Options.{options_for}
use Rattle.radio_seats_rows.specs.declared.seat.Seat.{Seat}
use Rattle.radio_seats_rows.specs.Seats.{seats_at, seat_of}
use Rattle.radio_addr.specs.declared.peer.Peer.{Peer}
use Rattle.radio_values.specs.declared.field.Shown.{Shown}
use Rattle.radio_events.specs.declared.event.Event.{Event}
use Rattle.radio_events.specs.declared.event.Event.TheVariants.{Arrive, RelayUp}
use Rattle.radio_events.specs.declared.reply.Reply.TheVariants.{Arrived, Feeding}
use Rattle.radio_parts.specs.Step.{reply_to}
use Rattle.radio_parts_station.specs.World.{World}

-- how many may sit at the mount, if the settings limit it
abbrev pub most_at : World → List ℕ → Option ℕ
most_at w mount = (options_for w.station.settings mount).listeners.max_listeners

-- by the settings, a user may sit at the mount more than once
abbrev pub allows_duplicates_at : World → List ℕ → Bool
allows_duplicates_at w mount = (options_for w.station.settings mount).users.allow_duplicate_users

-- a pair was sent, and this is its user, byte for byte
abbrev pub SentUser : List ℕ → Option Credentials → Type 0
SentUser user pair = (sent : Credentials) × (pair ≡ Some sent) × (sent.user ≡ user)

-- the listener of this number has a seat at the mount, and sent this user
pub record SitsThereAs (w : World) (id : ℕ) (mount user : List ℕ) : Type 0 where
  pub seat : Seat
  pub has_the_seat : seat_of w.seats id ≡ Some seat
  pub at_the_mount : seat.mount ≡ mount
  pub his_user : SentUser user seat.pair

-- no more sit at a mount than may, and no user sits twice at a mount that allows each user once
-- rule: Mount full
pub record IsWithinLimits (w : World) : Type 0 where
  pub not_too_many : (mount : List ℕ) (most : ℕ) → most_at w mount ≡ Some most → length (seats_at w.seats mount) ≤ most
  pub none_twice : (mount user : List ℕ) (id other : ℕ) → allows_duplicates_at w mount ≡ false → SitsThereAs w id mount user
      → SitsThereAs w other mount user → id ≡ other

-- as many sit at the mount as may
pub record IsFullAt (w : World) (mount : List ℕ) : Type 0 where
  pub most : ℕ
  pub limited : most_at w mount ≡ Some most
  pub reached : most ≤ length (seats_at w.seats mount)

-- a client arrives only if fewer are there than allowed. A source or a relay feeds only if fewer sessions are live than allowed
-- rule: Too many clients; Too many sources; Relay is no client
pub record AdmitsByLimits (w : World) (event : Event) : Type 0 where
  pub clients : (peer : Peer) (id : ℕ) → event ≡ Arrive peer → reply_to w event ≡ Arrived id → length w.station.clients < w.station.settings.limits.clients
  pub sources : reply_to w event ≡ Feeding → length w.station.live < w.station.settings.limits.sources
  pub relays : (mount : List ℕ) (shown : Shown) (id : ℕ) → event ≡ RelayUp mount shown → reply_to w event ≡ Arrived id
      → length w.station.live < w.station.settings.limits.sources
