-- what the proofs of this crate speak of, by the crate where it is defined
pub use Rattle.radio_events.specs.Replies.{HoldsNoText}
pub use Rattle.radio_events.specs.declared.event.Event.{Event}
pub use Rattle.radio_events.specs.declared.reply.Reply.{Reply}
pub use Rattle.radio_events.specs.declared.reply.Reply.TheVariants.{Arrived, Deny, Noted}
pub use Rattle.radio_parts_mount.specs.Steps.{CanDraw, heard_on, is_fed_by, is_spent_with, part_after, part_answers}
pub use Rattle.radio_parts_mount.specs.declared.part.MountPart.{MountPart}
pub use Rattle.radio_chronicle.specs.OwnSteps.{CanDrawHere, IsKeptUnlessReplied, IsNoPartsOwn, drawer_in, is_part_event, once, set_back_in}
