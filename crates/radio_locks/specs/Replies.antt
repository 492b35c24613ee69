-- Whose reply a call has.
use Rattle.std.specs.Prelude.{◌≡◌, Option, None, Some}
use Rattle.radio_book.specs.ControlLists.{IsControlReply}
use Rattle.radio_book.specs.MountBooks.{BookOfMount, CanOwn, IsOwnStep}
use Rattle.radio_book.specs.declared.mount_book.Own.{Own}
use Rattle.radio_book.specs.declared.mount_book.Own.TheVariants.{Made, Elsewhere}
use Rattle.radio_events.specs.declared.event.Event.{Event}
use Rattle.radio_events.specs.declared.reply.Reply.{Reply}
use Rattle.radio_parts_station.specs.World.{World}

-- the reply is a mount's part's own, or that of a control that its entries have made, over the parts that it was lent
-- rule: Order of calls
pub data IsReplied (opening : World) (event : Event) (reply : Reply) : Type 0 where
  ByMount : (before after : BookOfMount) → (CanOwn before event → IsOwnStep before event reply after) → IsReplied opening event reply
  ByControl : IsControlReply opening event reply → IsReplied opening event reply

-- the part has replied, or its client is somewhere else
abbrev pub IsReplyOrElsewhere : World → Event → Own → Type 0
IsReplyOrElsewhere opening event (Made reply) = IsReplied opening event reply
IsReplyOrElsewhere opening event (Elsewhere same) = same ≡ event

-- the reply is such a one, if there is one
abbrev pub IsRepliedIf : World → Event → Option Reply → Type 0
IsRepliedIf opening event (Some reply) = IsReplied opening event reply
IsRepliedIf opening event None = Unit {0}
