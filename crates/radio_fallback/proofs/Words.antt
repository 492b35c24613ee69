-- what the proofs of this crate speak of, by the crate where it is defined
pub use Rattle.std.proofs.lemmas.Bool.{eqb-true}
pub use Rattle.std.proofs.lemmas.Bool.Decides.{nat_tests}
pub use Rattle.std.proofs.lemmas.Map.Keys.{sorted_head, sorted_tail}
pub use Rattle.std.proofs.lemmas.Slice.Eq.{bytes_eq-Decides}
pub use Rattle.std.specs.List.{AllByRecursion}
pub use Rattle.std.specs.List.Sorted.{IsStrictlySortedBy}
pub use Rattle.std.specs.Option.{option_copied, option_map, option_map_or}
pub use Rattle.std.specs.Ordering.{is_lt, nat_cmp}
pub use Rattle.std.specs.Prelude.{IsSome, filter, find, if◌then◌else◌, is_some, nat_lt, unwrap_or, ◌&&◌}
pub use Rattle.std.specs.Str.{bytes_eq}
pub use Rattle.std.specs.declared.cmp.Ordering.TheVariants.{Less}
pub use Rattle.radio_creds.specs.Credentials.{Credentials}
pub use Rattle.radio_parts_mount.specs.StatePart.{ends_in}
pub use Rattle.radio_policy.specs.declared.rule.Rule.{Rule}
pub use Rattle.radio_seats_rows.proofs.Lists.{held, map_found, one, passing_removed, passing_updated}
pub use Rattle.radio_seats_rows.proofs.SeatLaws.{beside_left, listener_seated}
pub use Rattle.radio_seats_rows.specs.SeatTable.{SeatTable}
pub use Rattle.radio_seats_rows.specs.Seats.{AreByNumber, SitsAs, count_at, has_user, is_listener, is_seat_at, is_user_at, last_mount, last_mount_of, listener_of, loses, lost_by, moved, moved_to, next_number, others_of, seat_held, seat_in, seat_of, seats_at, sits_at, sits_there, with_end, with_move, without_listener}
pub use Rattle.radio_seats_rows.specs.declared.seat.Listener.{Listener}
pub use Rattle.radio_seats_rows.specs.declared.seat.Seat.{Seat}
pub use Rattle.radio_seats_rows.specs.declared.seat.Seating.{Seating}
pub use Rattle.radio_seats_rows.specs.declared.seat.Seating.TheVariants.{Finished, Sits}
pub use Rattle.radio_tables.proofs.FindLaws.{find_apart, find_here, find_later, find_mapped, found_passes}
pub use Rattle.radio_tables.specs.Lists.{Each, update_first}
pub use Rattle.radio_tables.specs.Past.{is_past}
pub use Rattle.radio_fallback.specs.Carry.{Carry, at_first, at_his_turn, carried, carry_after_move, concerns, is_asked, numbers_of, numbers_past, turn_by, turn_in, turn_of, turns, walks_on}
pub use Rattle.radio_fallback.specs.Fares.{HadASeat, IsCarriedTo, IsWithinLimit, SitOnce, fared, seat_at_end}
pub use Rattle.radio_fallback.specs.Heard.{Fits, GoesOff, GoesOver, Heard, IsAt, OthersStay, heard, heard_by, heard_seating}
pub use Rattle.radio_fallback.specs.Walk.{MaySit, Sight, found_at, hands_on, is_full, is_full_for, is_twice_for, landing_at, landing_here, next_mount, onward, sits_already, stop_in, stop_of, walk, with_ends}
unfoldable pub use Rattle.radio_fallback.specs.Walk.{landing}
pub use Rattle.radio_fallback.specs.declared.moves.Carried.{Carried}
pub use Rattle.radio_fallback.specs.declared.moves.Move.{Move}
pub use Rattle.radio_fallback.specs.declared.moves.Move.TheVariants.{Ended, To, Up}
pub use Rattle.radio_fallback.specs.declared.moves.MoveEffect.{MoveEffect}
pub use Rattle.radio_fallback.specs.declared.moves.MoveEffect.TheVariants.{GoesTo, IsOut, Stays}
pub use Rattle.radio_fallback.specs.declared.walking.Landing.{Landing}
pub use Rattle.radio_fallback.specs.declared.walking.Landing.TheVariants.{Lands, Stops}
