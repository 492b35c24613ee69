-- what the proofs of this crate speak of, by the crate where it is defined
pub use Rattle.std.proofs.lemmas.Bool.{eqb-true}
pub use Rattle.std.proofs.lemmas.Bool.Decides.{nat_tests}
pub use Rattle.std.proofs.lemmas.Slice.Eq.{bytes_eq-Decides}
pub use Rattle.std.specs.BTreeMap.{UpdatesBy, is_at}
pub use Rattle.std.specs.BTreeSet.{BTreeSet, contains}
pub use Rattle.std.specs.Cmp.{both_ways, eq_by_cmp_equiv}
pub use Rattle.std.specs.List.{AllByRecursion, list_any}
pub use Rattle.std.specs.List.Sorted.{IsStrictlySortedBy}
pub use Rattle.std.specs.Option.{option_copied, option_map, option_map_or}
pub use Rattle.std.specs.Ordering.{eq_by_cmp, is_eq, nat_cmp}
pub use Rattle.std.specs.Prelude.{cond, filter, filter_map, find, fold, if◌then◌else◌, length, map, min, not, ◌&&◌}
pub use Rattle.std.specs.Str.{bytes_eq}
pub use Rattle.radio_policy.specs.declared.rule.Rule.{Rule}
pub use Rattle.radio_seats_rows.proofs.Lists.{any_filtered, found_counts, held, map_any, map_both, map_counted, map_filtered, map_found, map_placed, map_updated, none_changes, none_passes, one, passing, passing_fits, passing_mapped, passing_more, passing_placed, passing_removed, passing_same, passing_updated, same_number}
pub use Rattle.radio_seats_rows.specs.Guests.{first_moment, moment_in, passes_at, passes_in, seat_of_guest}
pub use Rattle.radio_seats_rows.specs.Mounts.{is_number, name_in, name_of, naming_in, naming_of, one_at, sitting_in, sitting_of}
pub use Rattle.radio_seats_rows.specs.Rests.{how_many}
pub use Rattle.radio_seats_rows.specs.Rows.{ended, ended_where, hears, holds_at, holds_in, is_row, last_number, number_of, seated_row, shifted, state_moment, user_state, with_state}
pub use Rattle.radio_seats_rows.specs.SeatTable.{SeatTable}
pub use Rattle.radio_seats_rows.specs.Seats.{AreByNumber, advanced, by_listener, count_at, ended_if, finished_if, has_user, heard_to, hears_session, holds_of, in_session_at, is_listener, is_seat_at, is_user_at, last_mount, last_mount_of, listener_of, loses, lost_by, moved, moved_to, named_at, next_number, seat_held, seat_in, sits_at, sits_there, with_end, with_ended, with_move, with_place, with_seat, with_session_at, without_listener}
pub use Rattle.radio_seats_rows.specs.Sent.{is_user, user_sent}
pub use Rattle.radio_seats_rows.specs.declared.mounts.Mount.{Mount}
pub use Rattle.radio_seats_rows.specs.declared.row.ListenerRow.{ListenerRow}
pub use Rattle.radio_seats_rows.specs.declared.row.NumberedSeat.{NumberedSeat}
pub use Rattle.radio_seats_rows.specs.declared.row.RowState.{RowState}
pub use Rattle.radio_seats_rows.specs.declared.row.RowState.TheVariants.{Ended, Seated}
pub use Rattle.radio_seats_rows.specs.declared.seat.Guest.{Guest}
pub use Rattle.radio_seats_rows.specs.declared.seat.Listener.{Listener}
pub use Rattle.radio_seats_rows.specs.declared.seat.Seating.{Seating}
pub use Rattle.radio_seats_rows.specs.declared.seat.Seating.TheVariants.{Finished, Sits}
pub use Rattle.radio_tables.proofs.FindLaws.{find_here, find_later, find_mapped, find_others, find_removed, found_has, found_passes}
pub use Rattle.radio_tables.specs.Lists.{Has, placed, update_first}
pub use Rattle.radio_seats.specs.Further.{heard_to_place}
pub use Rattle.radio_seats.specs.Listed.{ListedGuest, guest_at, guest_sitting, guests_at, lent_guest, listed, row_guest, row_sitting}
pub use Rattle.radio_seats.specs.Shown.{AreCounted, FitRows, last_in, named, named_state, names_by, number_in, sits_by, state_at}
pub use Rattle.radio_seats.specs.Users.{AreKept, HasItsUser, IsUserOf, UserTree, by_bytes, entry_of, has_number, is_kept, is_other, is_other_in, is_own, numbers_in, user_in}
