-- The table of listeners, and the attachments of each mount.
use Rattle.std.specs.Prelude.{◌≡◌, ℕ, Bool, true, List}
use Rattle.radio_parts_mount.specs.Sessions.{Session}
use Rattle.radio_seats_rows.specs.SeatTable.{SeatTable, is_prepared}
use Rattle.radio_seats_rows.specs.declared.seat.Listener.{Listener}
use Rattle.radio_fallback.specs.Heard.{Fits, heard}
use Rattle.radio_parts_table.specs.Parts.{ByMount}
use Rattle.radio_parts_mount.specs.Parts.{MountAttachments}
use Rattle.radio_parts_table.specs.Attached.{places_in}
use Rattle.radio_parts_table.specs.Parts.{has_part}

-- the mounts where listeners can be seated, the listeners, and the sessions of the mounts that are live
pub record Listening : Type 0 where
  pub prepared : List (List ℕ)
  pub seats : List Listener
  -- in the order of their mounts' names
  pub live : List Session

-- the table, with the places of the attachments, and the sessions of the parts
abbrev pub listening : ByMount → SeatTable → Listening
listening parts board = record { prepared = board.prepared; seats = heard (places_in parts.attached) board.seats; live = parts.live }

-- A listener can be attached to each prepared mount. If all parts have been here since they were made, attached to each mount is who sits there, and
-- nobody else.
pub record AreAttached (is_whole : Bool) (mounts : List MountAttachments) (board : SeatTable) : Type 0 where
  pub parts : (mount : List ℕ) → is_prepared board.prepared mount ≡ true → has_part mounts mount ≡ true
  pub fits : is_whole ≡ true → Fits (places_in mounts) board.seats
