-- What a client who is attached to a mount, and the source of the mount, do with the mount's part, by that part alone.
use Rattle.std.specs.Prelude.{◌≡◌, ℕ, ◌+◌, ◌-◌, ◌^◌, ◌≤◌, ◌++◌, ◌==◌, Bool, false, nat_lt, not, if◌then◌else◌, List, [], Option, None, Some, length, find, filter, fold, Result, OnOk, OnErr}
use Rattle.std.specs.declared.alloc.AllocError.{AllocError}
use Rattle.std.specs.Option.{option_map, option_map_or}
use Rattle.radio_tables.specs.Lists.{update_first}
use Rattle.radio_attachments.specs.declared.attachment.Attachment.{Attachment}
use Rattle.radio_attachments.specs.Rows.{is_attached, at_place, put_in, lags}
use Rattle.radio_policy.specs.declared.rule.Rule.TheVariants.{NumbersSpent}
use Rattle.radio_events.specs.declared.event.Event.{Event}
use Rattle.radio_events.specs.declared.event.Event.TheVariants.{Arrive, Source, Push, SourceEnd, Title, Listen, Draw, Command, Leave, RelayUp, RelayDown, Clock}
use Rattle.radio_events.specs.declared.reply.Reply.{Reply}
use Rattle.radio_events.specs.declared.reply.Reply.TheVariants.{Drawn, Noted, Deny}
use Rattle.radio_parts_mount.specs.Kept.{first_start, longer_kept}
use Rattle.radio_parts_mount.specs.StatePart.{end_in}
use Rattle.radio_parts_mount.specs.Sessions.{Session, with_title}
use Rattle.radio_parts_mount.specs.Stream.{data_at, end_of}
use Rattle.radio_parts_mount.specs.Parts.{with_session_changed}
use Rattle.radio_parts_mount.specs.declared.drawing.Portion.{Portion}
use Rattle.radio_parts_mount.specs.declared.part.MountPart.{MountPart}
use Rattle.radio_parts_mount.specs.declared.step.PartAnswer.{PartAnswer}
use Rattle.radio_parts_mount.specs.declared.step.PartAnswer.TheVariants.{Replied, Elsewhere}

-- what a listener at this place is handed who has room for so many bytes: nothing yet if the mount waits for a session
abbrev pub portion_at : Option Session → ℕ → ℕ → Portion
portion_at None place room = record { pieces = []; title = None }
portion_at (Some session) place room = record { pieces = data_at session.stream place room; title = session.title }

-- up to where it has heard the stream then
abbrev pub place_after : Option Session → ℕ → ℕ → ℕ
place_after session place room = place + length (portion_at session place room).pieces

-- what follows this place is not forgotten
abbrev pub IsKept : Option Session → ℕ → Type 0
IsKept None place = Unit {0}
IsKept (Some session) place = first_start (end_of session.stream) session.stream.starts ≤ place

-- what a listener has then who was handed so much before
abbrev pub portion_behind : Portion → Option Session → ℕ → ℕ → Portion
portion_behind before None place room = before
portion_behind before (Some session) place room = record { pieces = before.pieces ++ data_at session.stream place room; title = session.title }

-- a draw at the place: the answer, what was handed out with what was before, and the place behind it
pub record IsDrawn (session : Option Session) (room place : ℕ) (before : Portion) (answer : Result (Unit {0}) AllocError) (handed : Portion) (after : ℕ) : Type 0 where
  pub portion : IsKept session place → OnOk answer ((handed ≡ portion_behind before session place room) × (after ≡ place_after session place room))
  pub refused : OnErr answer (after ≡ place)
  pub on : place ≤ after

-- the reply that has what is handed out
abbrev pub portion_reply : Portion → Reply
portion_reply portion = Drawn portion.pieces portion.title

-- what follows the place of the listener is not forgotten, if it is attached here
abbrev pub KeepsFor : ℕ → MountPart → Type 0
KeepsFor id p = (row : Attachment) → find (is_attached id) p.attachments ≡ Some row → IsKept p.session row.place

-- what the listener is handed who has room for so many bytes, if it is attached here
abbrev pub part_hands : MountPart → ℕ → ℕ → Option Portion
part_hands p id room = option_map (λ (row : Attachment). portion_at p.session row.place room) (find (is_attached id) p.attachments)

abbrev pub heard_on : Option Session → ℕ → Attachment → Attachment
heard_on session room row = at_place (place_after session row.place room) row

-- and it has heard so much more
abbrev pub part_heard : MountPart → ℕ → ℕ → MountPart
part_heard p id room = record p { attachments = update_first (is_attached id) (heard_on p.session room) p.attachments }

-- the source of this number feeds the mount
abbrev pub is_fed_by : ℕ → MountPart → Bool
is_fed_by id p = option_map_or (λ (session : Session). session.number == id) p.session false

-- with this block the stream would have more bytes than can be counted
abbrev pub is_spent_with : List ℕ → MountPart → Bool
is_spent_with block p = nat_lt (2 ^ 64 - 1) (end_in p.session + length block)

-- the attachments, with all of these put in
abbrev pub with_all : List Attachment → List Attachment → List Attachment
with_all rows attachments = fold (λ (among : List Attachment) (row : Attachment). put_in row among) attachments rows

-- those who are further behind this end than a queue is long have lagged out
abbrev pub part_lagged : ℕ → ℕ → MountPart → MountPart
part_lagged end queue p = record p {
  attachments = filter (λ row. not (lags end queue row)) p.attachments;
  lagged = with_all (filter (lags end queue) p.attachments) p.lagged;
}

-- a block has come to the stream at this moment, of which the last blocks are kept
abbrev pub part_fed : ℕ → ℕ → List ℕ → MountPart → MountPart
part_fed queue moment block p = with_session_changed (longer_kept queue block moment) p

-- a block of the mount's source
abbrev pub push_answered : MountPart → ℕ → List ℕ → PartAnswer
push_answered p id block =
    if is_fed_by id p then Replied (if is_spent_with block p then Deny NumbersSpent else Noted) else Elsewhere (Push id block)

abbrev pub push_done : ℕ → ℕ → MountPart → ℕ → List ℕ → MountPart
push_done queue moment p id block =
    if is_fed_by id p
    then (if is_spent_with block p then p else part_lagged (end_in (part_fed queue moment block p).session) queue (part_fed queue moment block p)) else p

-- a title of the mount's source
abbrev pub title_answered : MountPart → ℕ → List ℕ → PartAnswer
title_answered p id text = if is_fed_by id p then Replied Noted else Elsewhere (Title id text)

abbrev pub title_done : MountPart → ℕ → List ℕ → MountPart
title_done p id text = if is_fed_by id p then with_session_changed (with_title (Some text)) p else p

-- a draw of a listener that is attached here
abbrev pub draw_answered : MountPart → ℕ → ℕ → PartAnswer
draw_answered p id room = option_map_or (λ (portion : Portion). Replied (Drawn portion.pieces portion.title)) (part_hands p id room) (Elsewhere (Draw id room))

abbrev pub draw_done : MountPart → ℕ → ℕ → MountPart
draw_done p id room = part_heard p id room

-- the part's answer to an event
abbrev pub part_answers : MountPart → Event → PartAnswer
part_answers p (Arrive peer) = Elsewhere (Arrive peer)
part_answers p (Source asked) = Elsewhere (Source asked)
part_answers p (Push id block) = push_answered p id block
part_answers p (SourceEnd id) = Elsewhere (SourceEnd id)
part_answers p (Title id text) = title_answered p id text
part_answers p (Listen asked) = Elsewhere (Listen asked)
part_answers p (Draw id room) = draw_answered p id room
part_answers p (Command asked) = Elsewhere (Command asked)
part_answers p (Leave id) = Elsewhere (Leave id)
part_answers p (RelayUp mount shown) = Elsewhere (RelayUp mount shown)
part_answers p (RelayDown id) = Elsewhere (RelayDown id)
part_answers p (Clock ms) = Elsewhere (Clock ms)

-- the part after it
abbrev pub part_after : ℕ → ℕ → MountPart → Event → MountPart
part_after queue moment p (Arrive peer) = p
part_after queue moment p (Source asked) = p
part_after queue moment p (Push id block) = push_done queue moment p id block
part_after queue moment p (SourceEnd id) = p
part_after queue moment p (Title id text) = title_done p id text
part_after queue moment p (Listen asked) = p
part_after queue moment p (Draw id room) = draw_done p id room
part_after queue moment p (Command asked) = p
part_after queue moment p (Leave id) = p
part_after queue moment p (RelayUp mount shown) = p
part_after queue moment p (RelayDown id) = p
part_after queue moment p (Clock ms) = p

-- of one who draws what follows its place is not forgotten
abbrev pub CanDraw : MountPart → Event → Type 0
CanDraw p (Arrive peer) = Unit {0}
CanDraw p (Source asked) = Unit {0}
CanDraw p (Push id block) = Unit {0}
CanDraw p (SourceEnd id) = Unit {0}
CanDraw p (Title id text) = Unit {0}
CanDraw p (Listen asked) = Unit {0}
CanDraw p (Draw id room) = KeepsFor id p
CanDraw p (Command asked) = Unit {0}
CanDraw p (Leave id) = Unit {0}
CanDraw p (RelayUp mount shown) = Unit {0}
CanDraw p (RelayDown id) = Unit {0}
CanDraw p (Clock ms) = Unit {0}
