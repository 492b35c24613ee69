use Rattle.std.specs.Prelude.{◌≡◌, ℕ, List, Option, Some}
use Rattle.radio_events.specs.declared.event.Event.{Event}
use Rattle.radio_events.specs.declared.event.Event.TheVariants.{Draw}
use Rattle.radio_events.specs.declared.reply.Reply.TheVariants.{Drawn}
use Rattle.radio_seats_rows.specs.declared.seat.Seat.{Seat}
use Rattle.radio_parts_station.specs.declared.standing.Standing.TheVariants.{Sits}
use Rattle.radio_laws.specs.Open.{IsOpenTo}
use Rattle.radio_seats_rows.specs.Seats.{seat_of}
use Rattle.radio_parts_mount.specs.Sessions.{Session}
use Rattle.radio_parts.specs.Step.{reply_to}
use Rattle.radio_parts_mount.specs.Stream.{data_at}
use Rattle.radio_parts_station.specs.World.{World, standing_of}
use Rattle.radio_parts_station.specs.Waiting.{heard_at}

-- these bytes are those that the drawing listener may hear. They are at its place in the session at its mount, and that mount is open to it.
-- The title is that of the session
-- rule: Open to the listener
pub record IsHis (w : World) (event : Event) (bytes : List ℕ) (title : Option (List ℕ)) : Type 0 where
  pub id : ℕ
  pub room : ℕ
  pub asked : event ≡ Draw id room
  pub seat : Seat
  pub session : Session
  pub sits : standing_of w id ≡ Sits
  pub has_the_seat : seat_of w.seats id ≡ Some seat
  pub is_heard : heard_at w.station seat.mount ≡ Some session
  pub is_data : bytes ≡ data_at session.stream seat.place room
  pub is_title : title ≡ session.title
  pub is_open : IsOpenTo w id seat

-- a draw gets only what its listener may hear
abbrev pub AccessIsKept : World → Event → Type 0
AccessIsKept w event = (bytes : List ℕ) (title : Option (List ℕ)) → reply_to w event ≡ Drawn bytes title → IsHis w event bytes title
