-- What a mount's part does by itself, with its reply twice.
use Rattle.std.specs.Prelude.{◌≡◌, ℕ, Bool, true, false, Option, Some, None, find}
use Rattle.radio_attachments.specs.Rows.{is_attached}
use Rattle.radio_events.specs.declared.event.Event.{Event}
use Rattle.radio_events.specs.declared.event.Event.TheVariants.{Push, Title, Draw}
use Rattle.radio_parts_mount.specs.Attached.{advanced_there, on_part, place_in}
use Rattle.radio_parts_mount.specs.Steps.{part_after, part_answers, CanDraw}
use Rattle.radio_parts_mount.specs.declared.part.MountPart.{MountPart}
use Rattle.radio_parts_mount.specs.declared.step.PartAnswer.{PartAnswer}
use Rattle.radio_parts_mount.specs.declared.step.PartAnswer.TheVariants.{Replied, Elsewhere}
use Rattle.radio_chronicle.specs.declared.own_steps.Drawer.{Drawer}
use Rattle.radio_chronicle.specs.declared.own_steps.Twice.{Twice}
use Rattle.radio_chronicle.specs.declared.own_steps.Twice.TheVariants.{Replied as RepliedTwice, Elsewhere as GivenBack}

-- a block, a title or a draw: what a mount's part can do by itself
abbrev pub is_part_event : Event → Bool
is_part_event (Push id block) = true
is_part_event (Title id text) = true
is_part_event (Draw id room) = true
is_part_event event = false

-- what the part answers that is here, if one is
abbrev pub answered_here : Option MountPart → Event → PartAnswer
answered_here None event = Elsewhere event
answered_here (Some part) event = part_answers part event

-- and what it is then
abbrev pub part_here : ℕ → ℕ → Option MountPart → Event → Option MountPart
part_here queue moment None event = None
part_here queue moment (Some part) event = Some (part_after queue moment part event)

-- no part replies to the event
abbrev pub IsNoPartsOwn : Event → Type 0
IsNoPartsOwn event = (part : Option MountPart) → answered_here part event ≡ Elsewhere event

-- a part that does not reply is unchanged
abbrev pub IsKeptUnlessReplied : PartAnswer → Option MountPart → Option MountPart → Type 0
IsKeptUnlessReplied (Replied reply) before after = Unit {0}
IsKeptUnlessReplied (Elsewhere event) before after = after ≡ before

-- what follows the place of one who draws is not forgotten
abbrev pub CanDrawHere : Option MountPart → Event → Type 0
CanDrawHere None event = Unit {0}
CanDrawHere (Some part) event = CanDraw part event

-- who draws by the event, and up to where it has heard the stream, if it is attached there
abbrev pub drawer_at : ℕ → Option ℕ → Option Drawer
drawer_at id None = None
drawer_at id (Some place) = Some (record { id = id; place = place })

abbrev pub drawer_in : MountPart → Event → Option Drawer
drawer_in part (Draw id room) = drawer_at id (place_in (find (is_attached id) part.attachments))
drawer_in part event = None

-- the part, with the listener at that place again, if there is one
abbrev pub set_back_in : Option Drawer → MountPart → MountPart
set_back_in None part = part
set_back_in (Some drawer) part = on_part (advanced_there drawer.id drawer.place) part

-- the answer that is there twice
abbrev pub once : Twice → PartAnswer
once (RepliedTwice one other) = Replied other
once (GivenBack event) = Elsewhere event

-- both replies are the same
abbrev pub IsAlike : Twice → Type 0
IsAlike (RepliedTwice one other) = one ≡ other
IsAlike (GivenBack event) = Unit {0}
