-- what the proofs of this crate speak of, by the crate where it is defined
pub use Rattle.std.specs.declared.alloc.AllocError.{AllocError}
pub use Rattle.radio_book.specs.MountBooks.{BookOfMount, CanOwn, GivesBack, IsDone, IsNotedIn, IsReplyHere}
pub use Rattle.radio_book.specs.declared.mount_book.Own.{Own}
pub use Rattle.radio_book.specs.declared.mount_book.Own.TheVariants.{Elsewhere, Made}
pub use Rattle.radio_events.specs.declared.event.Event.{Event}
pub use Rattle.radio_events.specs.declared.event.Event.TheVariants.{Draw}
pub use Rattle.radio_events.specs.declared.reply.Reply.{Reply}
pub use Rattle.radio_parts_station.specs.World.{World}
pub use Rattle.radio_locks.specs.Replies.{IsReplied, IsRepliedIf, IsReplyOrElsewhere}
