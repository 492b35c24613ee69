-- When a limit denies a listener, by the mount at which its walk was stopped.
use Rattle.std.specs.Prelude.{◌≡◌, ℕ, ◌<◌, ◌≤◌, false, List, length, Option}
use Rattle.radio_creds.specs.Credentials.{Credentials}
use Rattle.radio_policy.specs.declared.rule.Rule.TheVariants.{TooManyClients, TooManySources, MountFull, UserTwice, FallbackDepth}
use Rattle.radio_tables.specs.Lists.{Has}
use Rattle.radio_seats_rows.specs.declared.seat.Listener.{Listener}
use Rattle.radio_seats_rows.specs.declared.seat.Seat.{Seat}
use Rattle.radio_seats_rows.specs.declared.seat.Seating.TheVariants.{Sits as HasSeat}
use Rattle.radio_events.specs.declared.event.Event.{Event}
use Rattle.radio_events.specs.declared.event.Event.TheVariants.{Listen}
use Rattle.radio_events.specs.declared.event.ListenRequest.{ListenRequest}
use Rattle.radio_events.specs.declared.reply.Reply.TheVariants.{Deny}
use Rattle.radio_parts.specs.Step.{reply_to}
use Rattle.radio_parts_station.specs.World.{World}
use Rattle.radio_laws.specs.Limits.{SentUser, IsFullAt, allows_duplicates_at}
use Rattle.radio_laws.specs.Walks.{ComesBy}

-- each user may sit at the mount once, and a listener that sits there sent the very user of this pair
-- rule: User twice
pub record HasUserAt (w : World) (mount : List ℕ) (pair : Option Credentials) : Type 0 where
  pub once : allows_duplicates_at w mount ≡ false
  pub user : List ℕ
  pub sent : SentUser user pair
  pub listener : Listener
  pub is_one : Has listener w.seats
  pub seat : Seat
  pub sits : listener.seating ≡ HasSeat seat
  pub at_the_mount : seat.mount ≡ mount
  pub his_user : SentUser user seat.pair

-- a listener asked, and one of the first ten mounts by which its walk comes is such
-- rule: Mount full
abbrev pub ByAMount : World → Event → (ListenRequest → List ℕ → Type 0) → Type 0
ByAMount w event P = (asked : ListenRequest) × (event ≡ Listen asked) × (steps : ℕ) × (mount : List ℕ) × (steps < 10) × ComesBy w asked.mount steps mount
    × P asked mount

-- clients and sources are denied as too many only if there are as many as allowed. A mount is denied as full only if a walk reaches a
-- full one. A user is denied as one that sits there only if a walk reaches a mount where it sits. A walk is denied as too long only if
-- ten mounts have passed it on
-- rule: Too many clients; Too many sources
pub record DeniesByLimits (w : World) (event : Event) : Type 0 where
  pub clients : reply_to w event ≡ Deny TooManyClients → w.station.settings.limits.clients ≤ length w.station.clients
  pub sources : reply_to w event ≡ Deny TooManySources → w.station.settings.limits.sources ≤ length w.station.live
  pub full : reply_to w event ≡ Deny MountFull → ByAMount w event (λ asked mount. IsFullAt w mount)
  pub twice : reply_to w event ≡ Deny UserTwice → ByAMount w event (λ asked mount. HasUserAt w mount asked.pair)
  pub depth : reply_to w event ≡ Deny FallbackDepth
      → (asked : ListenRequest) × (event ≡ Listen asked) × (mount : List ℕ) × ComesBy w asked.mount 10 mount
