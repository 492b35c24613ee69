-- what the proofs of this crate speak of, by the crate where it is defined
pub use Rattle.std.proofs.Math.Logic.{∥∥₁_map}
pub use Rattle.std.proofs.Math.Seq.{drop-append-add, drop-append_seam}
pub use Rattle.std.proofs.lemmas.Bool.{and_from, and_parts, le-leb, leb-true, lt-ltb, ltb-true}
pub use Rattle.std.proofs.lemmas.Bool.Decides.{nat_tests}
pub use Rattle.std.proofs.lemmas.List.{drop-append-le, drop-drop, length-drop, length-replicate}
pub use Rattle.std.proofs.lemmas.Slice.Eq.{bytes_eq-Decides}
pub use Rattle.std.specs.Cmp.Lexicographic.{slice_cmp}
pub use Rattle.std.specs.List.{AllByRecursion, concat, list_any}
unfoldable pub use Rattle.std.specs.List.Sorted.{IsStrictlySortedBy}
pub use Rattle.std.specs.Option.{option_map, option_map_or}
pub use Rattle.std.specs.Ordering.{is_eq, match_ordering, nat_cmp}
pub use Rattle.std.specs.Prelude.{filter, find, fold, if◌then◌else◌, is_some, map, nat_le, not, slice_get, unwrap_or, ◌&&◌, ◌↔◌}
pub use Rattle.std.specs.Str.{bytes_eq}
pub use Rattle.std.specs.declared.alloc.AllocError.{AllocError}
pub use Rattle.std.specs.declared.cmp.Ordering.{Ordering}
pub use Rattle.std.specs.declared.cmp.Ordering.TheVariants.{Equal, Greater, Less}
pub use Rattle.radio_attachments.specs.Rows.{FoundIsVisited, IsVisitedIn, at_place, is_attached, put_in}
pub use Rattle.radio_attachments.specs.declared.attachment.Attachment.{Attachment}
pub use Rattle.radio_events.specs.declared.event.Event.{Event}
pub use Rattle.radio_policy.specs.declared.rule.Rule.{Rule}
pub use Rattle.radio_seats_rows.specs.Seats.{AreByNumber, advanced, finished_if, holds_of, is_listener, loses, lost_by, moved, seated, sits_at, with_end, with_ended, with_place, with_seat, without_listener}
pub use Rattle.radio_seats_rows.specs.declared.seat.Listener.{Listener}
pub use Rattle.radio_seats_rows.specs.declared.seat.Seat.{Seat}
pub use Rattle.radio_tables.proofs.EachLaws.{Each_each, Each_kept, Each_mapped, Each_placed, Each_updated}
pub use Rattle.radio_tables.proofs.FindLaws.{changed_alike, find_apart, find_here, find_later, find_mapped, find_others, find_removed, find_same, found_has, found_passes, passes_none, unchanged}
pub use Rattle.radio_tables.proofs.KeyLaws.{by_name, find_placed, name_is}
pub use Rattle.radio_tables.specs.Lists.{Each, placed, update_first}
pub use Rattle.radio_parts_mount.specs.ByLists.{ByList, IsList, IsListIf, IsListOf, May, Replays, after_own, attached_with, attached_without, by_list, grant_of, granted, is_of_client, nothing, part_of, played, played_all, session_with, session_without, without_all, without_grant}
pub use Rattle.radio_parts_mount.specs.Kept.{first_start, forgotten, kept_fed, kept_from, kept_live, kept_session, kept_stream, longer_kept, shortest_starts, stream_of}
pub use Rattle.radio_parts_mount.specs.Sessions.{AreApart, GoNoFurther, HasRisingStarts, Session, by_mount, fed, is_of, longer, opened, session_of, titled, with_session, with_title, without_session}
pub use Rattle.radio_parts_mount.specs.StatePart.{end_in, with_its_session}
pub use Rattle.radio_parts_mount.specs.Steps.{CanDraw, IsDrawn, IsKept, heard_on, is_fed_by, is_spent_with, part_after, part_answers, part_fed, part_heard, part_lagged, portion_at, with_all}
pub use Rattle.radio_parts_mount.specs.Stream.{AreRising, WholeStream, burst_start, data_at, end_of, with_block}
pub use Rattle.radio_parts_mount.specs.Timeouts.{has_sat_out, is_silent, lags_behind, lies_back}
pub use Rattle.radio_parts_mount.specs.declared.drawing.Portion.{Portion}
pub use Rattle.radio_parts_mount.specs.declared.item.MountItem.{MountItem}
pub use Rattle.radio_parts_mount.specs.declared.item.MountItem.TheVariants.{Attach, Detach, Own, Titled}
pub use Rattle.radio_parts_mount.specs.declared.list.Grant.{Grant}
pub use Rattle.radio_parts_mount.specs.declared.list.PartList.{PartList}
pub use Rattle.radio_parts_mount.specs.declared.part.MountPart.{MountPart}
pub use Rattle.radio_parts_mount.specs.declared.step.PartAnswer.TheVariants.{Elsewhere, Replied}
