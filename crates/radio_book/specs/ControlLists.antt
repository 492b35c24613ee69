-- How entries make the control, and which control makes a reply.
use Rattle.std.specs.Prelude.{◌≡◌, ℕ, Bool, true, false, List, [], ◌∷◌, Option, None, Some}
use Rattle.radio_chronicle.specs.declared.line.ControlLine.{ControlLine}
use Rattle.radio_chronicle.specs.declared.line.ControlLine.TheVariants.{Cut, Made}
use Rattle.radio_parts.specs.CanStep.{CanStep}
use Rattle.radio_parts.specs.Common.{common_by, common_of}
use Rattle.radio_parts.specs.ControlSteps.{control_reply}
use Rattle.radio_events.specs.declared.entry.Entry.{Entry}
use Rattle.radio_events.specs.declared.event.Event.{Event}
use Rattle.radio_events.specs.declared.reply.Reply.{Reply}
use Rattle.radio_parts_facts.specs.Wanted.{wanted}
use Rattle.radio_access.specs.Lists.{Lists}
use Rattle.radio_parts_station.specs.World.{World, opening as opening_of}
use Rattle.radio_parts_station.specs.declared.standing.Standing.{Standing}
use Rattle.radio_parts_station.specs.declared.standing.Standing.TheVariants.{Feeds}
use Rattle.radio_seats_rows.specs.Seats.{last_mount_of}
use Rattle.radio_settings_values.specs.declared.settings.Settings.{Settings}
use Rattle.radio_book.specs.Clocks.{LeavesParts}
use Rattle.radio_book.specs.LentParts.{AreLent, ControlState, IsControlAsBefore, IsControlStep}
use Rattle.radio_book.specs.MountBooks.{BookOfMount}

-- the mount that a client of this standing feeds, if it feeds one
abbrev pub mount_fed : Standing → Option (List ℕ)
mount_fed (Feeds mount) = Some mount
mount_fed standing = None

-- the entries among these lines
abbrev pub entries_in : List ControlLine → List Entry
entries_in [] = []
entries_in (Cut list from to ∷ lines) = entries_in lines
entries_in (Made entry ∷ lines) = entry ∷ entries_in lines

-- a server opens so, of some settings and lists
abbrev pub IsOpening : World → Type 0
IsOpening w = (settings : Settings) × (lists : Lists) × (w ≡ opening_of settings lists)

-- A control of a server with this opening state: as it was opened, after a step over lent parts, or after parts were lent and taken back.
-- rule: Legal history
pub data CanBe (opening : World) : World → Type 0 where
  opens : IsOpening opening → CanBe opening opening
  steps : (before after : World) → CanBe opening before → (books back : List BookOfMount) (event : Event) (reply : Reply)
      → IsControlStep books before event reply back after → CanBe opening after
  stays : (before after : World) → CanBe opening before → (books back : List BookOfMount) → IsControlAsBefore books before back after → CanBe opening after

-- These entries turn the common state of the opening into that of the control. If entries are stored, they are those of the list.
-- rule: Legal history
pub record IsMadeByEntries (keeps : Bool) (opening : World) (lines : List ControlLine) (control : World) : Type 0 where
  pub entries : List Entry
  pub common : common_of control ≡ common_by (common_of opening) entries
  pub kept : keeps ≡ true → entries_in lines ≡ entries
  pub comes : CanBe opening control

-- a control that entries have made, and which was lent these parts
pub record IsControlLent (opening : World) (whole : World) : Type 0 where
  pub entries : List Entry
  pub control : World
  pub common : common_of control ≡ common_by (common_of opening) entries
  pub comes : CanBe opening control
  pub books : List BookOfMount
  pub lent : List BookOfMount
  pub reached : Bool
  pub lends : AreLent reached books lent control whole

-- the reply is that of such a control
-- rule: Legal history
pub record IsControlReply (opening : World) (event : Event) (reply : Reply) : Type 0 where
  pub whole : World
  pub is : IsControlLent opening whole
  -- the parts were lent, unless the event leaves them as they are
  pub leaves : is.reached ≡ false → LeavesParts is.control.station.settings is.books event
  pub replied : CanStep whole event → reply ≡ control_reply whole event

-- these mounts are wanted by such a control
-- rule: Pulls on demand
pub record AreWantedThere (opening : World) (mounts : List (List ℕ)) : Type 0 where
  pub whole : World
  pub is : IsControlLent opening whole
  pub reached : is.reached ≡ true
  pub are : mounts ≡ wanted whole

-- these mounts are wanted by the control over the parts that it is lent: all that fit
-- rule: Pulls on demand
pub record AreWantedOver (books : List BookOfMount) (control : World) (mounts : List (List ℕ)) : Type 0 where
  pub lent : List BookOfMount
  pub whole : World
  pub lends : AreLent true books lent control whole
  pub are : mounts ≡ wanted whole

-- a book that its entries have made has no pass left
pub record HasNoPass (keeps : Bool) (opening : World) : Type 0 where
  pub book : ControlState
  pub made : IsMadeByEntries keeps opening book.lines book.control
  pub none : book.passes ≡ 0

-- the listener sits there, or sat there last, as a control has it that entries have made
-- rule: Last mount
pub record WasThere (opening : World) (id : ℕ) (mount : Option (List ℕ)) : Type 0 where
  pub entries : List Entry
  pub control : World
  pub common : common_of control ≡ common_by (common_of opening) entries
  pub comes : CanBe opening control
  pub was : mount ≡ last_mount_of control.seats id
