use Rattle.std.specs.Prelude.{◌≡◌, ℕ, ◌+◌, length, Option, Some, None}
use Rattle.std.specs.Option.{option_map_or, option_or}
use Rattle.radio_parts_station.specs.StationState.{StationState}
use Rattle.radio_events.specs.declared.reply.Reply.TheVariants.{Drawn, Stray}
use Rattle.radio_parts_changes.specs.declared.change.Change.{Change}
use Rattle.radio_parts_changes.specs.declared.change.Change.TheVariants.{Nothing, Advance}
use Rattle.radio_parts_changes.specs.Changes.{part_at}
use Rattle.radio_parts.specs.declared.outcome.Outcome.{Outcome}
use Rattle.radio_parts.specs.declared.draw.Drawing.{Drawing}
use Rattle.radio_seats_rows.specs.declared.seat.Seat.{Seat}
use Rattle.radio_parts_mount.specs.StatePart.{Part}
use Rattle.radio_parts_mount.specs.Sessions.{Session}
use Rattle.radio_parts_mount.specs.Stream.{data_at}
use Rattle.radio_seats_rows.specs.Seats.{seat_of}
use Rattle.radio_parts_station.specs.World.{World, standing_of}
use Rattle.radio_parts.specs.Outcomes.{says, if_sitting}
use Rattle.radio_parts_station.specs.Waiting.{silence_of}

-- the listener gets the data at its place, and the title of that moment; its place moves past the data.
-- at a mount that waits for a session there are no data and no title
abbrev pub hands_out : ℕ → Seat → ℕ → Option Session → Outcome
hands_out id seat room None = says Stray Nothing
hands_out id seat room (Some session) =
    let bytes = data_at session.stream seat.place room in
    says (Drawn bytes session.title) (Advance id (seat.place + length bytes))

-- the part as its listeners draw it: while it waits for a session it has an empty one
abbrev pub as_heard : StationState → Part → Part
as_heard station p = record p { session = option_or p.session (silence_of station p.mount) }

-- one of the part's listeners has room for so many bytes
-- rule: Reach of a listener; Draws
abbrev pub part_draws : Part → ℕ → ℕ → Outcome
part_draws p id room = option_map_or (λ seat. hands_out id seat room p.session) (seat_of p.listeners id) (says Stray Nothing)

-- it draws from the session at the mount of its seat
abbrev pub draws_from : World → ℕ → ℕ → Seat → Outcome
draws_from w id room seat = part_draws (as_heard w.station (part_at w seat.mount)) id room

-- where a draw moves it
abbrev pub moves_to : ℕ → Option ℕ → Change
moves_to id None = Nothing
moves_to id (Some place) = Advance id place

-- it moves it, or does nothing
abbrev pub IsMove : ℕ → Change → Type 0
IsMove id change = (place : Option ℕ) × (change ≡ moves_to id place)

-- the outcome of a draw that has this reply, and moves it there
abbrev pub comes_to : ℕ → Drawing → Outcome
comes_to id drawing = says drawing.reply (moves_to id drawing.place)

-- a listener has room for so many bytes
-- rule: Draws
abbrev pub draws : World → ℕ → ℕ → Outcome
draws w id room = if_sitting (standing_of w id) (option_map_or (draws_from w id room) (seat_of w.seats id) (says Stray Nothing))
