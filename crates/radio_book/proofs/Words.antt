-- what the proofs of this crate speak of, by the crate where it is defined
pub use Rattle.std.proofs.lemmas.List.{append-nil, drop_all, take_all, take_more}
pub use Rattle.std.specs.List.{list_any, remove}
pub use Rattle.std.specs.Option.{option_map, option_map_or}
pub use Rattle.std.specs.Prelude.{MatchOption, find, if◌then◌else◌, is_some, map}
pub use Rattle.std.specs.declared.alloc.AllocError.{AllocError}
pub use Rattle.radio_chronicle.specs.OwnSteps.{CanDrawHere, IsKeptUnlessReplied, IsNoPartsOwn, answered_here, is_part_event, once, part_here}
pub use Rattle.radio_chronicle.specs.declared.line.ControlLine.{ControlLine}
pub use Rattle.radio_chronicle.specs.declared.line.ControlLine.TheVariants.{Cut, Made}
pub use Rattle.radio_events.specs.Events.{entry}
pub use Rattle.radio_events.specs.declared.event.Event.{Event}
pub use Rattle.radio_events.specs.declared.event.Event.TheVariants.{Arrive, Draw, Push, RelayUp, Title}
pub use Rattle.radio_events.specs.declared.reply.Reply.{Reply}
pub use Rattle.radio_parts_changes.specs.Lent.{IsLentTo, part_due}
pub use Rattle.radio_parts_mount.specs.declared.part.MountPart.{MountPart}
pub use Rattle.radio_parts_mount.specs.declared.step.PartAnswer.{PartAnswer}
pub use Rattle.radio_parts_mount.specs.declared.step.PartAnswer.TheVariants.{Elsewhere, Replied}
pub use Rattle.radio_parts_station.specs.World.{World}
pub use Rattle.radio_settings_values.specs.declared.settings.MountSetting.{MountSetting}
pub use Rattle.radio_book.specs.ControlLists.{AreWantedOver, AreWantedThere, CanBe, HasNoPass, IsControlLent, IsControlReply, IsMadeByEntries, IsOpening, WasThere, entries_in}
pub use Rattle.radio_book.specs.LentParts.{AreBack, AreLent, ControlState, IsBack, IsControlAsBefore, IsControlStep, IsLentOrStays, IsRefused}
pub use Rattle.radio_book.specs.MountBooks.{AreCuts, BookOfMount, CanOwn, IsCut, IsDone, IsNotHere, IsNotedIn, IsOwnStep, IsReplyHere, mount_and_list, noted_own, once_in, own_in, with_moment, with_mount_part}
pub use Rattle.radio_book.specs.Receipts.{ReceiptOf}
pub use Rattle.radio_book.specs.declared.mount_book.BookParts.{BookParts}
