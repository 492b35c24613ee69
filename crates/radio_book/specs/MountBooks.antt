-- A mount's part that is kept apart from the control, and is lent to it.
use Rattle.std.specs.Prelude.{◌≡◌, ℕ, ◌+◌, ◌-◌, List, [], ◌∷◌, ◌++◌, Option, None, Some, Result, Ok, Err}
use Rattle.std.specs.declared.alloc.AllocError.{AllocError}
use Rattle.radio_chronicle.specs.Stamps.{stamp}
use Rattle.radio_chronicle.specs.declared.line.ControlLine.{ControlLine}
use Rattle.radio_chronicle.specs.declared.line.ControlLine.TheVariants.{Cut, Made}
use Rattle.radio_chronicle.specs.declared.stamp.Stamp.{Stamp}
use Rattle.radio_events.specs.declared.entry.Entry.{Entry}
use Rattle.radio_events.specs.declared.event.Event.{Event}
use Rattle.radio_events.specs.declared.event.Event.TheVariants.{Draw}
use Rattle.radio_events.specs.declared.reply.Reply.{Reply}
use Rattle.radio_parts_mount.specs.declared.part.MountPart.{MountPart}
use Rattle.radio_parts_mount.specs.declared.step.PartAnswer.{PartAnswer}
use Rattle.radio_parts_mount.specs.declared.step.PartAnswer.TheVariants.{Replied, Elsewhere as GivenBack}
use Rattle.radio_chronicle.specs.OwnSteps.{answered_here, once, part_here, CanDrawHere}
use Rattle.radio_book.specs.Receipts.{ReceiptOf, receipt_of}
use Rattle.radio_chronicle.specs.declared.own_steps.Twice.{Twice}
use Rattle.radio_book.specs.declared.mount_book.Own.{Own}
use Rattle.radio_book.specs.declared.mount_book.Own.TheVariants.{Made as DoneHere, Elsewhere}

-- the book of a mount
pub record BookOfMount : Type 0 where
  pub mount : List ℕ
  -- the number of its list
  pub list : ℕ
  -- its part, if that is not with the control
  pub part : Option MountPart
  -- the last moment that the control has
  pub moment : ℕ
  -- of the mount's stream at least so many bytes are kept
  pub queue : ℕ

-- for a draw, the data after the listener's place are not forgotten
abbrev pub CanOwn : BookOfMount → Event → Type 0
CanOwn book event = CanDrawHere book.part event

-- the part, if it is here, does not reply to the event, and nothing has changed
pub record IsNotHere (before : BookOfMount) (event : Event) (after : BookOfMount) : Type 0 where
  pub elsewhere : (other : Event) × (answered_here before.part event ≡ GivenBack other)
  pub unchanged : after ≡ before

-- the part replies so by itself, and is as it says then
-- rule: Legal history
pub record IsOwnStep (before : BookOfMount) (event : Event) (reply : Reply) (after : BookOfMount) : Type 0 where
  pub replied : answered_here before.part event ≡ Replied reply
  pub becomes : after ≡ record before { part = part_here before.queue before.moment before.part event }

abbrev pub with_mount_part : Option MountPart → BookOfMount → BookOfMount
with_mount_part part book = record book { part = part }

abbrev pub with_moment : ℕ → BookOfMount → BookOfMount
with_moment moment book = record book { moment = moment }

abbrev pub mount_and_list : BookOfMount → List ℕ × ℕ
mount_and_list book = (book.mount, book.list)

-- a cut of this list
abbrev pub IsCut : ℕ → ControlLine → Type 0
IsCut list (Cut other from to) = other ≡ list
IsCut list (Made entry) = ⊥

-- a cut of the list of each of these books, in their order
abbrev pub AreCuts : List BookOfMount → List ControlLine → Type 0
AreCuts [] [] = Unit {0}
AreCuts (book ∷ books) (line ∷ lines) = IsCut book.list line × AreCuts books lines
AreCuts books lines = ⊥

-- the lines with a cut for each of these books, and the entry behind them
abbrev pub AreNoted : List ControlLine → List BookOfMount → Entry → List ControlLine → Type 0
AreNoted lines lent made lines' = (cuts : List ControlLine) × AreCuts lent cuts × (lines' ≡ (lines ++ cuts) ++ Made made ∷ [])

-- an event that is given back is this one
abbrev pub GivesBack : Event → Own → Type 0
GivesBack event (DoneHere reply) = Unit {0}
GivesBack event (Elsewhere same) = same ≡ event

-- the part has replied so, or it does not reply
abbrev pub IsDone : BookOfMount → Event → Own → BookOfMount → Type 0
IsDone before event (DoneHere reply) after = IsOwnStep before event reply after
IsDone before event (Elsewhere same) after = IsNotHere before event after

-- what becomes of a part's answer to the event
abbrev pub own_by : Event → PartAnswer → Own
own_by event (Replied reply) = DoneHere reply
own_by event (GivenBack other) = Elsewhere event

abbrev pub own_in : Event → Result PartAnswer AllocError → Result Own AllocError
own_in event (Ok answer) = Ok (own_by event answer)
own_in event (Err refused) = Err refused

-- who draws by the event, and how many bytes it has room for
abbrev pub draw_in : Event → Option (ℕ × ℕ)
draw_in (Draw id room) = Some (id, room)
draw_in event = None

abbrev pub once_in : Result Twice AllocError → Result PartAnswer AllocError
once_in (Ok twice) = Ok (once twice)
once_in (Err refused) = Err refused

-- the part has replied so, or it does not reply
-- rule: Legal history
abbrev pub IsReplyHere : BookOfMount → Event → Option Reply → BookOfMount → Type 0
IsReplyHere before event (Some reply) after = IsOwnStep before event reply after
IsReplyHere before event None after = IsNotHere before event after

-- the receipts, with that of the event at this place if the part has replied
abbrev pub noted_own : Stamp → Event → Own → List ReceiptOf → List ReceiptOf
noted_own place event (DoneHere reply) receipts = receipts ++ receipt_of place event reply ∷ []
noted_own place event (Elsewhere same) receipts = receipts

-- they are so at some place of this list
abbrev pub IsNotedIn : ℕ → Event → Own → List ReceiptOf → List ReceiptOf → Type 0
IsNotedIn list event own before after = (serial : ℕ) × (after ≡ noted_own (stamp list serial) event own before)

-- how many lines need room before an entry that is lent so many parts, if so many ends are reserved and so many more may be
abbrev pub lines_for : ℕ → ℕ → ℕ → ℕ
lines_for reserved more lent = (reserved + more) + (reserved + more) + (lent - 1)
