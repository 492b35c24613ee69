-- One mount's part of the state changes by itself: by a draw of a listener that sits there, a block of its
-- source, a title.
use Rattle.std.specs.Prelude.{◌≡◌, ℕ, Bool, if◌then◌else◌, List, Option, None, Some}
use Rattle.std.specs.Str.{bytes_eq}
use Rattle.radio_seats_rows.specs.declared.seat.Listener.{Listener}
use Rattle.radio_seats_rows.specs.declared.seat.Seat.{Seat}
use Rattle.radio_seats_rows.specs.Seats.{seat_of, with_place}
use Rattle.radio_parts_mount.specs.StatePart.{Part, part_received, part_titled}
use Rattle.radio_parts_mount.specs.Sessions.{Session, session_of}
use Rattle.radio_events.specs.declared.event.Event.TheVariants.{Push, Title, Draw}
use Rattle.radio_events.specs.declared.reply.Reply.TheVariants.{Noted}
use Rattle.radio_parts_changes.specs.declared.change.Change.TheVariants.{Advance}
use Rattle.radio_parts.specs.Draw.{as_heard, part_draws}
use Rattle.radio_parts.specs.Step.{outcome, reply_to, world_after}
use Rattle.radio_parts_station.specs.World.{World}
use Rattle.radio_laws.specs.Locality.{IsLeftAlone}

-- a seat of which this holds
abbrev pub seat_if : (Seat → Bool) → Option Seat → Option Seat
seat_if p None = None
seat_if p (Some seat) = (if p seat then Some seat else None)

abbrev pub is_at : List ℕ → Seat → Bool
is_at mount seat = bytes_eq seat.mount mount

-- the seat of the listener of this number, if it sits there
abbrev pub seat_at : List ℕ → List Listener → ℕ → Option Seat
seat_at mount listeners id = seat_if (is_at mount) (seat_of listeners id)

-- The part has what is at its mount: the session, and the listeners that sit there, each in its seat. It may have more listeners than these.
pub record IsPartOf (w : World) (p : Part) : Type 0 where
  pub live : session_of w.station.live p.mount ≡ p.session
  pub seats : (id : ℕ) → seat_at p.mount p.listeners id ≡ seat_at p.mount w.seats id

-- the listener's place in the stream is this
abbrev pub part_with_place : Part → ℕ → ℕ → Part
part_with_place p him place = record p { listeners = with_place p.listeners him place }

abbrev pub is_mount_of : Part → List ℕ → Bool
is_mount_of p mount = bytes_eq mount p.mount

-- the part has become this one, and at each other mount all is as it was
-- rule: Reach of a block
pub record IsPartsStep (w later : World) (p after : Part) : Type 0 where
  pub here : IsPartOf later after
  pub there : IsLeftAlone (is_mount_of p) w later

-- what it gets depends on the part alone, which alone changes
pub record DrawsByItsPart (w : World) (p : Part) (id room : ℕ) : Type 0 where
  pub by_part : outcome w (Draw id room) ≡ part_draws (as_heard w.station p) id room
  pub step : (place : ℕ) → (part_draws (as_heard w.station p) id room).change ≡ Advance id place
      → IsPartsStep w (world_after w (Draw id room)) p (part_with_place p id place)

-- a draw of a listener that sits there
abbrev pub PartsDraw : World → Type 0
PartsDraw w = (p : Part) (id room : ℕ) (seat : Seat) → IsPartOf w p → seat_at p.mount p.listeners id ≡ Some seat → DrawsByItsPart w p id room

-- a block of its source that is not denied
abbrev pub PartsReceive : World → Type 0
PartsReceive w = (p : Part) (session : Session) (block : List ℕ) → IsPartOf w p → p.session ≡ Some session
    → reply_to w (Push session.number block) ≡ Noted
    → IsPartsStep w (world_after w (Push session.number block)) p (part_received w.station.settings.limits.queue_size w.station.time block p)

abbrev pub PartsAreTitled : World → Type 0
PartsAreTitled w = (p : Part) (session : Session) (text : List ℕ) → IsPartOf w p → p.session ≡ Some session
    → IsPartsStep w (world_after w (Title session.number text)) p (part_titled text p)
