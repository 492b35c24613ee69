-- A mount's part steps by itself as the server does: a draw of a listener that sits there, a block and a title of its source.
use Rattle.std.specs.Prelude.{◌≡◌, ℕ, Some, find}
use Rattle.std.specs.Option.{option_map}
use Rattle.std.specs.Str.{bytes_eq}
use Rattle.radio_attachments.specs.Rows.{is_attached, AreInOrder}
use Rattle.radio_seats_rows.specs.declared.seat.Seat.{Seat}
use Rattle.radio_parts_mount.specs.Kept.{kept_session}
use Rattle.radio_parts_mount.specs.Sessions.{session_of}
use Rattle.radio_parts_mount.specs.Attached.{place_in}
use Rattle.radio_parts_mount.specs.Steps.{CanDraw, part_answers, part_after}
use Rattle.radio_parts_mount.specs.declared.part.MountPart.{MountPart}
use Rattle.radio_parts_mount.specs.declared.step.PartAnswer.TheVariants.{Replied}
use Rattle.radio_events.specs.declared.event.Event.{Event}
use Rattle.radio_events.specs.declared.event.Event.TheVariants.{Push, Title, Draw}
use Rattle.radio_events.specs.declared.reply.Reply.{Reply}
use Rattle.radio_parts.specs.Step.{reply_to, world_after}
use Rattle.radio_parts_station.specs.World.{World, standing_of}
use Rattle.radio_parts_station.specs.declared.standing.Standing.TheVariants.{Feeds}
use Rattle.radio_laws.specs.Locality.{IsLeftAlone}
use Rattle.radio_laws.specs.Parts.{seat_at}

-- The part has what the state has at its mount.
pub record PartStands (w : World) (p : MountPart) : Type 0 where
  -- the mount's session, with what is kept of its stream
  pub session : p.session ≡ option_map (kept_session w.station.settings.limits.queue_size) (session_of w.station.live p.mount)
  -- attached is each listener at the mount, at the place of its seat, and nobody else
  pub attached : (id : ℕ) → place_in (find (is_attached id) p.attachments) ≡ option_map (λ (seat : Seat). seat.place) (seat_at p.mount w.seats id)
  pub once : AreInOrder p.attachments

-- The part's own step is the server's.
pub record IsServersStep (w : World) (p : MountPart) (event : Event) (reply : Reply) : Type 0 where
  -- the contract of the part's step speaks of this event
  pub can_draw : CanDraw p event
  pub replied : reply ≡ reply_to w event
  -- the part has then what the state has after the event, and each other mount is left alone
  pub here : PartStands (world_after w event) (part_after w.station.settings.limits.queue_size w.station.time p event)
  pub there : IsLeftAlone (λ mount. bytes_eq mount p.mount) w (world_after w event)

-- whatever a part that has what the state has at its mount replies to by itself
abbrev pub OwnStepsAreTheServers : World → Type 0
OwnStepsAreTheServers w = (p : MountPart) (event : Event) (reply : Reply) → PartStands w p → part_answers p event ≡ Replied reply → IsServersStep w p event reply

-- the client of the event sits at the part's mount, and draws; or it feeds the mount, and sends a block or a title
abbrev pub IsOwn : World → MountPart → Event → Type 0
IsOwn w p (Push id block) = standing_of w id ≡ Feeds p.mount
IsOwn w p (Title id text) = standing_of w id ≡ Feeds p.mount
IsOwn w p (Draw id room) = (seat : Seat) × (seat_at p.mount w.seats id ≡ Some seat)
IsOwn w p event = ⊥

-- to each of these a part that has what the state has at its mount does reply
abbrev pub OwnStepsAreAnswered : World → Type 0
OwnStepsAreAnswered w = (p : MountPart) (event : Event) → PartStands w p → IsOwn w p event → (reply : Reply) × (part_answers p event ≡ Replied reply)
