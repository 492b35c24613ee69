-- what the proofs of this crate speak of, by the crate where it is defined
pub use Rattle.std.specs.Option.{option_copied, option_map, option_map_or, option_or}
pub use Rattle.std.specs.Ordering.{match_ordering, nat_cmp}
pub use Rattle.std.specs.Prelude.{find, if◌then◌else◌, is_some, map, not, ◌||◌, ◌↔◌}
pub use Rattle.std.specs.Str.{bytes_eq}
pub use Rattle.radio_fallback.specs.Walk.{Sight, found_at, landing, with_ends}
pub use Rattle.radio_parts_mount.proofs.SessionLookups.{chosen, found_named, passed}
pub use Rattle.radio_parts_mount.specs.Sessions.{Session, by_mount, is_of, session_of, with_session, without_session}
pub use Rattle.radio_parts_mount.specs.StatePart.{ends_in}
pub use Rattle.radio_seats_rows.specs.SeatTable.{is_prepared}
pub use Rattle.radio_settings_values.specs.Options.{options_for}
pub use Rattle.radio_settings_values.specs.declared.settings.RelaySetting.{RelaySetting}
pub use Rattle.radio_tables.proofs.FindLaws.{find_apart, find_here, find_later, find_others, find_removed, find_same}
pub use Rattle.radio_tables.specs.Lists.{update_first}
pub use Rattle.radio_parts_station.specs.Facts.{fallback_of, live_number, sight_of, walks_to}
pub use Rattle.radio_parts_station.specs.Live.{AreLive, bare_session, bare_station, is_live_mount, live_by_name, live_mount, sight_in, with_live_mount, without_live}
pub use Rattle.radio_parts_station.specs.Registry.{Registry, station_state}
pub use Rattle.radio_parts_station.specs.Relays.{Relay, doing, is_relay, put_back, relay_ended, relay_of, risen, with_relay, with_relay_ended, without_relay}
pub use Rattle.radio_parts_station.specs.Waiting.{feeds_on_demand, heard_at, is_on_demand, silence_at, silence_of}
pub use Rattle.radio_parts_station.specs.declared.clients.ClientState.{ClientState}
pub use Rattle.radio_parts_station.specs.declared.live.LiveMount.{LiveMount}
