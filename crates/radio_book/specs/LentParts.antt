-- Parts of mounts that are lent to the control, and taken back.
use Rattle.std.specs.Prelude.{◌≡◌, ◌⊎◌, ℕ, Bool, true, false, List, [], ◌∷◌, None, Some}
use Rattle.radio_chronicle.specs.declared.line.ControlLine.{ControlLine}
use Rattle.radio_events.specs.declared.event.Event.{Event}
use Rattle.radio_events.specs.declared.reply.Reply.{Reply}
use Rattle.radio_parts_mount.specs.declared.part.MountPart.{MountPart}
use Rattle.radio_parts_table.specs.Exchange.{IsUnfit}
use Rattle.radio_parts_station.specs.World.{World}
use Rattle.radio_parts_changes.specs.Lent.{IsLentTo}
use Rattle.radio_parts.specs.CanStep.{CanStep}
use Rattle.radio_parts.specs.Common.{common_after, common_of}
use Rattle.radio_parts.specs.ControlSteps.{control_after, control_reply}
use Rattle.radio_parts.specs.Lending.{IsTakenOut}
use Rattle.radio_book.specs.Clocks.{LeavesParts}
use Rattle.radio_book.specs.MountBooks.{with_moment, with_mount_part, BookOfMount}

-- if the event reaches parts, a part stays with its book only because it cannot take its mount's place
abbrev pub MayStay : Bool → BookOfMount → World → Type 0
MayStay reached book w = (part : MountPart) → book.part ≡ Some part → reached ≡ true → IsUnfit part w.station.live

-- the book's part is in the place of the one that was there; or it has none, or that stays
abbrev pub IsLentOrStays : Bool → BookOfMount → BookOfMount → World → World → Type 0
IsLentOrStays reached book lent before after = ((lent ≡ book) × (after ≡ before) × MayStay reached book before) ⊎
    ((part : MountPart) × (there : MountPart) × (book.part ≡ Some part) × (lent ≡ with_mount_part None book) × IsLentTo part there before after)

-- one book after the other
abbrev pub AreLent : Bool → List BookOfMount → List BookOfMount → World → World → Type 0
AreLent reached [] [] before after = after ≡ before
AreLent reached (book ∷ books) (one ∷ lent) before after =
    (between : World) × IsLentOrStays reached book one before between × AreLent reached books lent between after
AreLent reached books lent before after = ⊥

-- the control gives the mount's part back, or the book kept it, or the mount has none, or memory is refused. The book has the control's time.
abbrev pub IsBack : BookOfMount → BookOfMount → World → World → Type 0
IsBack lent back before after = ((back ≡ with_moment before.station.time lent) × (after ≡ before)) ⊎
    ((part : MountPart) × (back ≡ with_mount_part (Some part) (with_moment before.station.time lent)) × IsTakenOut lent.mount part before after)

abbrev pub AreBack : List BookOfMount → List BookOfMount → World → World → Type 0
AreBack [] [] before after = after ≡ before
AreBack (one ∷ lent) (book ∷ back) before after = (between : World) × IsBack one book before between × AreBack lent back between after
AreBack lent back before after = ⊥

-- the control's book, as its callers see it
pub record ControlState : Type 0 where
  pub control : World
  -- the lines that are stored
  pub lines : List ControlLine
  -- how many passes are left
  pub passes : ℕ

-- the control has replied so to the event, over the parts that it was lent: all that fit, unless the event leaves parts as they are
pub record IsControlStep (books : List BookOfMount) (before : World) (event : Event) (reply : Reply) (back : List BookOfMount) (after : World) : Type 0 where
  -- while the parts are lent
  pub lent : List BookOfMount
  pub whole : World
  pub later : World
  -- whether the event reaches parts
  pub reached : Bool
  pub leaves : reached ≡ false → LeavesParts before.station.settings books event
  pub lends : AreLent reached books lent before whole
  pub replied : CanStep whole event → reply ≡ control_reply whole event
  pub changed : CanStep whole event → later ≡ control_after whole event
  pub common : common_of later ≡ common_after (common_of whole) event reply
  pub takes_back : AreBack lent back later after

-- nothing has happened, but that the parts may have been lent and taken back
pub record IsControlAsBefore (books : List BookOfMount) (before : World) (back : List BookOfMount) (after : World) : Type 0 where
  pub lent : List BookOfMount
  pub whole : World
  pub reached : Bool
  pub lends : AreLent reached books lent before whole
  pub takes_back : AreBack lent back whole after

-- the parts were lent and taken back, or not even that
abbrev pub IsRefused : List BookOfMount → World → List BookOfMount → World → Type 0
IsRefused books before back after = ((back ≡ books) × (after ≡ before)) ⊎ IsControlAsBefore books before back after
