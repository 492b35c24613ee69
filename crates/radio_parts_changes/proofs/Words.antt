-- what the proofs of this crate speak of, by the crate where it is defined
pub use Rattle.std.proofs.lemmas.List.{length-map}
pub use Rattle.std.proofs.lemmas.Slice.Eq.{bytes_eq-Decides}
pub use Rattle.std.specs.Option.{option_map, option_map_or, option_or}
pub use Rattle.std.specs.Prelude.{filter, find, fold, if◌then◌else◌, is_some, map, not, ◌&&◌, ◌||◌}
pub use Rattle.std.specs.Str.{bytes_eq}
pub use Rattle.radio_fallback.specs.Carry.{carried}
pub use Rattle.radio_fallback.specs.Walk.{Sight, with_ends}
pub use Rattle.radio_fallback.specs.declared.moves.Move.{Move}
pub use Rattle.radio_parts_mount.proofs.DueLemmas.{due_by_last, duration_by_last, ended_due, from_earliest, has_not_sat_out, heard_due, lost_due, moved_due, not_yet}
pub use Rattle.radio_parts_mount.proofs.PreparedLemmas.{begun_prepared, changed_prepared, ended_prepared, idle_released, still_prepared}
pub use Rattle.radio_parts_mount.proofs.SessionLookups.{beside_fed, beside_titled, found_named, is_longer, is_titled}
pub use Rattle.radio_parts_mount.proofs.SilentSessions.{none_pass, others_left, rising_apart}
pub use Rattle.radio_parts_mount.specs.Due.{due_at, earliest, last_moment, listener_due, session_due}
pub use Rattle.radio_parts_mount.specs.Kept.{kept_fed, longer_kept}
pub use Rattle.radio_parts_mount.specs.Prepared.{LiveArePrepared}
pub use Rattle.radio_parts_mount.specs.Sessions.{AreApart, Session, by_mount, fed, is_of, longer, opened, session_of, titled, with_session, with_title, without_session}
pub use Rattle.radio_parts_mount.specs.StatePart.{end_in, ends_in}
pub use Rattle.radio_parts_mount.specs.Timeouts.{has_sat_out, is_silent, lags_behind}
pub use Rattle.radio_parts_station.proofs.LiveMounts.{heard_alike, one_begun, one_ended, same_sight, still_live}
pub use Rattle.radio_parts_station.specs.Due.{client_due, due_in_state, first_due}
pub use Rattle.radio_parts_station.specs.Live.{AreLive, live_mount, sight_in, with_live_mount}
pub use Rattle.radio_parts_station.specs.Registry.{Registry, station_state}
pub use Rattle.radio_parts_station.specs.StationChanges.{finished_in, kept_received, received, retitled}
pub use Rattle.radio_parts_station.specs.StationState.{StationState}
pub use Rattle.radio_parts_station.specs.Waiting.{heard_at, is_on_demand, silence_at, silence_of}
pub use Rattle.radio_parts_station.specs.World.{World, world}
pub use Rattle.radio_parts_station.specs.declared.live.LiveMount.{LiveMount}
pub use Rattle.radio_parts_table.specs.Exchange.{Comes, IsInPlace, IsUnfit, Stays, first_true, second_true}
pub use Rattle.radio_parts_table.specs.Listening.{Listening}
pub use Rattle.radio_policy.specs.declared.rule.Rule.TheVariants.{HeaderTimeout, Killed, Lagged, ListenerPassword, SourceKilled, SourceSilent, TimeOver}
pub use Rattle.radio_seats_rows.specs.SeatTable.{is_prepared}
pub use Rattle.radio_seats_rows.specs.Seats.{advanced, by_listener, finished_if, hears_session, holds_of, in_session_at, is_listener, loses, lost_by, named_at, seated, with_ended, with_session_at}
pub use Rattle.radio_seats_rows.specs.declared.seat.Listener.{Listener}
pub use Rattle.radio_settings_values.specs.declared.settings.Settings.{Settings}
pub use Rattle.radio_tables.proofs.EachLaws.{Each_each, Each_kept, Each_mapped, Each_placed, Each_updated}
pub use Rattle.radio_tables.specs.Lists.{Each, update_first}
pub use Rattle.radio_parts_changes.specs.Changes.{answered, before_silence, block_received, called_home, carried_along, changed, client_gone, done, laggards_ended, on_air, session_begun, session_ended, session_ended_by, session_killed, session_over, session_raised, session_silenced, silent_in, ticked, user_added, user_deleted}
pub use Rattle.radio_parts_changes.specs.Counts.{counts_along, counts_by, counts_out}
pub use Rattle.radio_parts_changes.specs.Due.{IsDueFrom, at_moment, due_by}
