-- A clock that can end nothing in mounts' parts.
use Rattle.std.specs.Prelude.{◌≡◌, ℕ, ◌<◌, List, Some, All}
use Rattle.std.specs.Option.{option_map_or}
use Rattle.radio_parts_changes.specs.Lent.{part_due}
use Rattle.radio_events.specs.declared.event.Event.{Event}
use Rattle.radio_events.specs.declared.event.Event.TheVariants.{Clock}
use Rattle.radio_parts_mount.specs.declared.part.MountPart.{MountPart}
use Rattle.radio_parts_mount.specs.Due.{last_moment, seat_due}
use Rattle.radio_parts_mount.specs.Sessions.{Session}
use Rattle.radio_seats_rows.specs.declared.seat.Seat.{Seat}
use Rattle.radio_settings_values.specs.declared.settings.Settings.{Settings}
use Rattle.radio_book.specs.MountBooks.{BookOfMount}

-- when the last block of the part's session had come; the last moment if it is not live
abbrev pub last_block_in : MountPart → ℕ
last_block_in part = option_map_or (λ (session : Session). session.last_block) part.session last_moment

-- the session of the part is due later, if the part is with its book
abbrev pub IsNotDue : ℕ → ℕ → BookOfMount → Type 0
IsNotDue seconds ms book = (part : MountPart) → book.part ≡ Some part → ms < part_due seconds part

-- at this moment nothing ends: no mount limits how long its listeners hear, and no session of a part that is with its book is due
-- rule: The clock
pub record NothingIsDue (settings : Settings) (books : List BookOfMount) (ms : ℕ) : Type 0 where
  pub listeners : (seat : Seat) → seat_due settings seat ≡ last_moment
  pub sessions : All (IsNotDue settings.limits.source_timeout ms) books

-- the event is a clock of such a moment
abbrev pub LeavesParts : Settings → List BookOfMount → Event → Type 0
LeavesParts settings books (Clock ms) = NothingIsDue settings books ms
LeavesParts settings books event = ⊥
