use Rattle.std.specs.Prelude.{◌≡◌, ◌⊎◌, ℕ, ◌-◌, ◌<◌, ◌≤◌, true, false, Option, Some, None}
use Rattle.radio_events.specs.declared.reply.StreamHead.{StreamHead}
use Rattle.radio_tables.specs.Lists.{Has}
use Rattle.radio_events.specs.declared.event.Event.{Event}
use Rattle.radio_events.specs.declared.event.Event.TheVariants.{Listen}
use Rattle.radio_events.specs.declared.event.ListenRequest.{ListenRequest}
use Rattle.radio_events.specs.declared.reply.Reply.TheVariants.{Seated}
use Rattle.radio_seats_rows.specs.declared.seat.Seat.{Seat}
use Rattle.radio_parts_station.specs.declared.standing.Standing.TheVariants.{Undecided}
use Rattle.radio_settings_values.specs.Options.{options_for}
use Rattle.radio_seats_rows.specs.Seats.{seat_of}
use Rattle.radio_parts_mount.specs.Sessions.{Session, session_of}
use Rattle.radio_parts.specs.Step.{reply_to, world_after}
use Rattle.radio_parts_mount.specs.Stream.{WholeStream, end_of}
use Rattle.radio_parts_station.specs.World.{World, standing_of}
use Rattle.radio_access.specs.Lists.{lets_in}
use Rattle.radio_laws.specs.OnDemand.{IsFedOnDemand}
use Rattle.radio_laws.specs.Walks.{ComesBy}
use Rattle.radio_parts_station.specs.Waiting.{heard_at}

-- a block starts at the place, or it is the end, where the next one will
abbrev pub IsBlockStart : WholeStream → ℕ → Type 0
IsBlockStart stream place = Has place stream.starts ⊎ (place ≡ end_of stream)

-- the place is the earliest block start that is at most a burst and at most a queue before the end
-- rule: Start of the burst
pub record IsEarliestStart (stream : WholeStream) (burst queue place : ℕ) : Type 0 where
  pub at_a_block : IsBlockStart stream place
  pub in_the_burst : end_of stream - place ≤ burst
  pub in_the_queue : end_of stream - place ≤ queue
  pub earliest : (other : ℕ) → IsBlockStart stream other → end_of stream - other ≤ burst → end_of stream - other ≤ queue → place ≤ other

-- the listener has a seat in the session of a mount of its walk that let it in. The mount was live when it asked, or waited for a session
-- since a relay feeds it on demand. The listener gets the session's head. It begins at the earliest block start that this mount's
-- `burst-size` and the `queue-size` allow
-- rule: Seat of a newcomer; Start of the burst; Waiting mount
pub record IsSeated (w : World) (event : Event) (interval : Option ℕ) (head : StreamHead) : Type 0 where
  pub asked : ListenRequest
  pub listens : event ≡ Listen asked
  pub session : Session
  pub is_heard : heard_at w.station session.mount ≡ Some session
  pub is_awaited : session_of w.station.live session.mount ≡ None → IsFedOnDemand w.station.settings session.mount
  pub shows : head.shown ≡ session.shown
  -- the head names the origin whose pages may read it, as the settings have it
  pub readers : head.allow_origin ≡ w.station.settings.web.allow_origin
  pub seat : Seat
  pub has_the_seat : seat_of (world_after w event).seats asked.id ≡ Some seat
  -- at one of the first ten mounts of the walk from the mount that it asked for, which is its home
  pub steps : ℕ
  pub not_too_far : steps < 10
  pub on_his_way : ComesBy w asked.mount steps seat.mount
  pub lets_him_in : lets_in w.station.lists seat.mount asked.pair ≡ true
  pub at_the_mount : seat.mount ≡ session.mount
  pub his_home : seat.home ≡ asked.mount
  pub in_the_session : seat.session ≡ session.number
  -- from the address from which it came, with the pair that it sent, from now on
  pub his_address : standing_of w asked.id ≡ Undecided seat.peer
  pub his_pair : seat.pair ≡ asked.pair
  pub from_now : seat.since ≡ w.station.time
  -- if it asked for metadata, at the interval of the mount that it asked for
  pub his_interval : seat.interval ≡ interval
  pub with_metadata : asked.wants_metadata ≡ true → interval ≡ Some (options_for w.station.settings asked.mount).stream.mp3_metadata_interval
  pub without_metadata : asked.wants_metadata ≡ false → interval ≡ None
  pub starts : IsEarliestStart session.stream (options_for w.station.settings seat.mount).stream.burst_size w.station.settings.limits.queue_size seat.place

-- only a client that asks to listen to a mount is seated, and its place is the start of its burst
abbrev pub BeginsAtABlock : World → Event → Type 0
BeginsAtABlock w event = (interval : Option ℕ) (head : StreamHead) → reply_to w event ≡ Seated interval head → IsSeated w event interval head
