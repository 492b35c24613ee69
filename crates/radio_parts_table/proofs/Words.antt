-- what the proofs of this crate speak of, by the crate where it is defined
pub use Rattle.std.proofs.lemmas.Bool.{eqb-true}
pub use Rattle.std.proofs.lemmas.Bool.Decides.{nat_tests}
pub use Rattle.std.proofs.lemmas.Cmp.{nat_list_cmp_total}
pub use Rattle.std.proofs.lemmas.Map.Keys.{sorted_head, sorted_tail}
pub use Rattle.std.proofs.lemmas.Slice.Eq.{bytes_eq-Decides}
pub use Rattle.std.specs.Cmp.Lexicographic.{slice_cmp}
pub use Rattle.std.specs.List.{AllByRecursion}
unfoldable pub use Rattle.std.specs.List.Sorted.{IsStrictlySortedBy}
pub use Rattle.std.specs.Option.{option_and_then, option_copied, option_map, option_map_or}
pub use Rattle.std.specs.Ordering.{is_eq, match_ordering, nat_cmp, ordering_reverse}
pub use Rattle.std.specs.Prelude.{IfOk, MatchOption, OnErr, OnOk, SomeIff, filter, filter_map, find, fold, if◌then◌else◌, is_some, map, min, nat_lt, not, unwrap_or, ◌&&◌, ◌==◌, ◌||◌}
pub use Rattle.std.specs.Str.{bytes_eq}
pub use Rattle.std.specs.declared.cmp.Ordering.{Ordering}
pub use Rattle.std.specs.declared.cmp.Ordering.TheVariants.{Equal, Greater, Less}
pub use Rattle.radio_attachments.specs.Rows.{AreInOrder, IsBefore, at_place, comes_before, is_attached, lags, put_in}
pub use Rattle.radio_attachments.specs.declared.attachment.Attachment.{Attachment}
pub use Rattle.radio_fallback.proofs.FitsLemmas.{ended_fits, sits_last}
pub use Rattle.radio_fallback.proofs.HeardLemmas.{all_stay, count_heard, each_apart, ended_heard, found_heard, landing_heard, listener_heard, numbers_heard, others_heard, seating_stays}
pub use Rattle.radio_fallback.specs.Carry.{numbers_of, numbers_past}
pub use Rattle.radio_fallback.specs.Heard.{Fits, GoesOff, GoesOver, Heard, IsAt, OthersStay, heard, heard_by, heard_seating}
pub use Rattle.radio_parts_mount.proofs.FurthestLemmas.{closed_within, delivered_within, end_within, titled_within}
pub use Rattle.radio_parts_mount.proofs.PartLemmas.{none_changes}
pub use Rattle.radio_parts_mount.specs.Attached.{advanced_there, is_among, on_part, place_in, with_boxed, with_sitters, without_id, without_lagging}
pub use Rattle.radio_parts_mount.specs.Due.{earliest, last_moment, session_due}
pub use Rattle.radio_parts_mount.specs.Kept.{kept_fed, longer_kept}
pub use Rattle.radio_parts_mount.specs.Parts.{MountAttachments, attached_to, is_part_of, with_session_changed, with_session_in}
pub use Rattle.radio_parts_mount.specs.Sessions.{GoNoFurther, Session, by_mount, is_of, session_of, titled, with_session, with_title, without_session}
pub use Rattle.radio_parts_mount.specs.StatePart.{end_in, ends_in}
pub use Rattle.radio_parts_mount.specs.Stream.{end_of}
pub use Rattle.radio_parts_mount.specs.Timeouts.{is_silent, lags_behind}
pub use Rattle.radio_parts_mount.specs.declared.part.MountPart.{MountPart}
pub use Rattle.radio_policy.specs.declared.rule.Rule.{Rule}
pub use Rattle.radio_policy.specs.declared.rule.Rule.TheVariants.{Lagged}
pub use Rattle.radio_seats.proofs.RowLemmas.{all_have_ended, end_at_one, fewer_left, same_table}
pub use Rattle.radio_seats.specs.Lent.{lent_seat, standing_by, standing_in}
pub use Rattle.radio_seats.specs.Listed.{ListedGuest, guest_at, guest_sitting, guests_at, lent_guest}
pub use Rattle.radio_seats_rows.proofs.Lists.{map_counted, same_number}
pub use Rattle.radio_seats_rows.proofs.SeatLaws.{beside_left, beside_seated, has_sat_down, is_no_listener, listener_seated}
pub use Rattle.radio_seats_rows.specs.Guests.{first_moment, moment_in, passes_at, passes_in, seat_of_guest}
pub use Rattle.radio_seats_rows.specs.Rests.{how_many}
pub use Rattle.radio_seats_rows.specs.SeatTable.{SeatTable, is_prepared}
pub use Rattle.radio_seats_rows.specs.Seats.{AreByNumber, advanced, by_listener, count_at, ended_if, finished_if, heard_to, hears_session, holds_of, in_session_at, is_listener, last_mount, last_mount_of, listener_of, loses, lost_by, named_at, next_number, seat_held, seat_in, seat_of, seated, sits_at, with_end, with_ended, with_place, with_seat, with_session_at, without_listener}
pub use Rattle.radio_seats_rows.specs.declared.seat.Guest.{Guest}
pub use Rattle.radio_seats_rows.specs.declared.seat.Listener.{Listener}
pub use Rattle.radio_seats_rows.specs.declared.seat.Seat.{Seat}
pub use Rattle.radio_seats_rows.specs.declared.seat.Seating.{Seating}
pub use Rattle.radio_seats_rows.specs.declared.seat.Seating.TheVariants.{Finished, Sits}
pub use Rattle.radio_tables.proofs.EachLaws.{Each_each, Each_kept, Each_placed, Each_updated}
pub use Rattle.radio_tables.proofs.FindLaws.{changed_alike, find_apart, find_here, find_later, find_mapped, find_others, find_removed, find_same, finds_none, found_passes, passes_none, unchanged}
pub use Rattle.radio_tables.proofs.KeyLaws.{by_name, by_number, find_placed, name_is}
pub use Rattle.radio_tables.specs.Lists.{Each, placed, update_first}
pub use Rattle.radio_parts_table.specs.Agree.{AllAgree}
pub use Rattle.radio_parts_table.specs.Attached.{attachments_in, found_in, is_of_mount, places_in, with_attached}
pub use Rattle.radio_parts_table.specs.Exchange.{Comes, IsExchanged, IsInPlace, IsUnfit, Stays, can_replace, first_true, keeps_mount, left_for, of_mount, put_for, same_name, same_source, second_true}
pub use Rattle.radio_parts_table.specs.Lent.{AsBefore, HaveTheirPlaces, HeardTo, IsLent, IsSeenAfter, LaggedOut, after_turn, lags_now}
pub use Rattle.radio_parts_table.specs.Listening.{AreAttached, Listening, listening}
pub use Rattle.radio_parts_table.specs.Losses.{ended_if_lost}
pub use Rattle.radio_parts_table.specs.Parts.{AreNamed, ByMount, IsDelivered, IsNamed, attached_in, by_mount_of, earlier_due, has_part, has_session, live_in, with_live}
pub use Rattle.radio_parts_table.specs.declared.changes.Delivers.{Delivers}
pub use Rattle.radio_parts_table.specs.declared.exchange.PartSwap.{PartSwap}
