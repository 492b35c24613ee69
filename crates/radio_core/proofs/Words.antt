-- what the proofs of this crate speak of, by the crate where it is defined
pub use Rattle.std.proofs.Math.Path.{fun_ext}
pub use Rattle.std.proofs.lemmas.Bool.{and_parts, eqb-true, le-ltb, lt-ltb, ltb-false, ltb-true}
pub use Rattle.std.proofs.lemmas.Bool.Decides.{nat_tests}
pub use Rattle.std.proofs.lemmas.List.{length-drop, length-map, length-take}
pub use Rattle.std.proofs.lemmas.Slice.Eq.{bytes_eq-Decides}
pub use Rattle.std.specs.Option.{option_map, option_map_or, option_or}
pub use Rattle.std.specs.Prelude.{find, fold, if◌then◌else◌, length, map, nat_lt, not, unwrap_or, ◌&&◌}
pub use Rattle.std.specs.Str.{bytes_eq}
pub use Rattle.radio_access.specs.Lists.{Lists, lets_in, passes, with_user_at, without_user_at}
pub use Rattle.radio_addr.specs.declared.peer.Peer.{Peer}
pub use Rattle.radio_events.specs.Events.{client_in}
pub use Rattle.radio_events.specs.declared.command.Asked.{Asked}
pub use Rattle.radio_events.specs.declared.command.Command.{Command}
pub use Rattle.radio_events.specs.declared.command.Command.TheVariants.{AddUser, DeleteUser, KillClient, KillSource, MoveClients, SetFallback, SetTitle}
pub use Rattle.radio_events.specs.declared.command.Listing.{Listing}
pub use Rattle.radio_events.specs.declared.command.Listing.TheVariants.{Clients, Mounts, Stats, Status, Streams}
pub use Rattle.radio_events.specs.declared.event.Event.{Event}
pub use Rattle.radio_events.specs.declared.event.Event.TheVariants.{Arrive, Clock, Draw, Leave, Listen, Push, RelayDown, RelayUp, Source, SourceEnd, Title}
pub use Rattle.radio_events.specs.declared.event.ListenRequest.{ListenRequest}
pub use Rattle.radio_events.specs.declared.event.SourceRequest.{SourceRequest}
pub use Rattle.radio_events.specs.declared.reply.Reply.{Reply}
pub use Rattle.radio_events.specs.declared.reply.Reply.TheVariants.{Arrived, Deny, Drawn, Feeding, Noted, Seated, Stray}
pub use Rattle.radio_fallback.proofs.FaresLemmas.{numbers_kept}
pub use Rattle.radio_fallback.proofs.Faring.{Faring, HasGone, HasLost, HasStayed, comes_home, fares, goes_there, never_out, never_out_there, nobody_stays}
pub use Rattle.radio_fallback.specs.Carry.{at_his_turn, carried, concerns}
pub use Rattle.radio_fallback.specs.Fares.{seat_at_end}
pub use Rattle.radio_fallback.specs.Walk.{MaySit, Sight, found_at, landing, stop_in}
pub use Rattle.radio_fallback.specs.declared.moves.Move.{Move}
pub use Rattle.radio_fallback.specs.declared.moves.Move.TheVariants.{To, Up}
pub use Rattle.radio_fallback.specs.declared.moves.MoveEffect.TheVariants.{GoesTo, IsOut, Stays}
pub use Rattle.radio_fallback.specs.declared.walking.Landing.TheVariants.{Lands, Stops}
pub use Rattle.radio_parts.proofs.CalledStation.{station_called}
pub use Rattle.radio_parts.proofs.HeardLemmas.{heard_cases, heard_end, heard_live, heard_named, heard_number, heard_same}
pub use Rattle.radio_parts.proofs.Ways.{may_arrive, way_of}
pub use Rattle.radio_parts.specs.Allowed.{Adds, ChangesUsers, Deletes, IsCommanded}
pub use Rattle.radio_parts.specs.Closing.{Closes, OfClient, OfRelay}
pub use Rattle.radio_parts.specs.Listen.{first_seat, sits_where, takes_seat}
pub use Rattle.radio_parts.specs.Outcomes.{if_feeding, if_sitting, if_undecided, on_verdict, says, unless_relayed}
pub use Rattle.radio_parts.specs.Planned.{planned, uncounted, with_counts}
pub use Rattle.radio_parts.specs.Push.{delivers, takes_in}
pub use Rattle.radio_parts.specs.RelayUp.{raises}
pub use Rattle.radio_parts.specs.Step.{Step}
unfoldable pub use Rattle.radio_parts.specs.Step.{outcome, reply_to, world_after}
pub use Rattle.radio_parts.specs.Ways.{Begins, ComesUp, Ends, EndsAndLeaves, GoesDown, HandsOut, HasPassed, IsAdmitted, IsDenied, IsFinished, IsRefused, IsUndecided, Leaves, Misplaced, Obeys, Receives, SetsTitle, Shows, TakesSeat, Ticks, Way, rows_for}
pub use Rattle.radio_parts.specs.declared.outcome.Outcome.{Outcome}
pub use Rattle.radio_parts_changes.proofs.PartChanges.{is_on_air, is_taken_in, on_air_beside, on_air_there, taken_in_beside, taken_in_there}
pub use Rattle.radio_parts_changes.specs.Changes.{answered, before_silence, block_received, called_home, carried_along, changed, client_gone, done, laggards_ended, on_air, outsiders_ended, session_begun, session_ended, session_ended_by, session_killed, session_over, session_raised, session_silenced, silent_in, ticked}
pub use Rattle.radio_parts_changes.specs.Counts.{counted, counts_by}
pub use Rattle.radio_parts_changes.specs.KeptChanges.{kept_changed}
pub use Rattle.radio_parts_changes.specs.declared.change.Change.TheVariants.{Admit, Advance, Answer, Begin, End, EndAndLeave, Forget, Nothing, Obey, Raise, Receive, TakeSeat, Tick}
pub use Rattle.radio_parts_facts.specs.CommandFacts.{access_to, facts_asked, facts_for, is_listener_at, is_live, needs_of, needs_to_list, opened_by, opener_in, opens, rows_to_command}
pub use Rattle.radio_parts_facts.specs.Streams.{burst_of, head_of, interval_for}
pub use Rattle.radio_parts_mount.proofs.ApartLemmas.{begun_apart, bytes_apart, found_own, kept_apart, updated_apart}
pub use Rattle.radio_parts_mount.proofs.KeptLists.{begun_kept, ended_kept, fed_kept, kept_ends, kept_found, kept_silent, titled_kept}
pub use Rattle.radio_parts_mount.proofs.KeptStreams.{burst_is_kept, burst_is_near, kept_burst, kept_data, kept_end, kept_still, kept_within}
pub use Rattle.radio_parts_mount.proofs.NumberLists.{IsFree, IsRising, has, kept_free, kept_rising, number_found, number_free, numbers_mapped, numbers_placed, numbers_updated, numbers_without, one_less, placed_free, placed_length, placed_rising, taken_free, without}
pub use Rattle.radio_parts_mount.proofs.NumberOrder.{in_order, order_ended, order_heard, order_left, order_lost, order_seated, same_order}
pub use Rattle.radio_parts_mount.proofs.RisingLemmas.{burst_within, rising_more}
pub use Rattle.radio_parts_mount.proofs.SessionLookups.{beside_begun, beside_ended, beside_fed, beside_titled, found_named, is_longer, is_new_session, is_over}
pub use Rattle.radio_parts_mount.proofs.SilentSessions.{found_first, others_left}
pub use Rattle.radio_parts_mount.specs.Kept.{first_start, kept_from, kept_live, kept_session}
pub use Rattle.radio_parts_mount.specs.Sessions.{AreApart, HasRisingStarts, Session, by_mount, fed, is_of, longer, opened, session_of, with_session, with_title, without_session}
pub use Rattle.radio_parts_mount.specs.Stream.{AreRising, WholeStream, burst_start, data_at, end_of, no_data, with_block}
pub use Rattle.radio_parts_mount.specs.Timeouts.{has_sat_out, is_silent, lags_behind}
pub use Rattle.radio_parts_station.proofs.Lookups.{beside_forgotten, beside_new, beside_new_relay, beside_state, does, is_ended_relay, is_new_client, is_new_relay, is_no_client, is_no_relay, relay_beside_ended, relay_beside_gone, still_none}
pub use Rattle.radio_parts_station.specs.Clients.{Client, client_of, in_state, is_client, undecided_client, with_client_state, without_client}
pub use Rattle.radio_parts_station.specs.Facts.{fallback_of, is_in_settings, is_limit_reached, largest_number, listen_facts, live_end, live_number, names_mount, relay_facts, rows_to_listen, rows_to_push, rows_to_raise, sight_of, source_facts, walks_to}
pub use Rattle.radio_parts_station.specs.Outsiders.{is_shut_out}
pub use Rattle.radio_parts_station.specs.Relays.{Relay, is_relay, relay_ended, relay_of, risen, with_relay_ended, without_relay}
pub use Rattle.radio_parts_station.specs.StationChanges.{begun, finished_in, raised, received, timed_out_by}
pub use Rattle.radio_parts_station.specs.StationState.{StationState}
pub use Rattle.radio_parts_station.specs.Streams.{shown_for}
pub use Rattle.radio_parts_station.specs.Timeouts.{asks_nothing, asks_too_late, timed_out}
pub use Rattle.radio_parts_station.specs.Waiting.{heard_at, is_on_demand, silence_at, silence_of}
pub use Rattle.radio_parts_station.specs.World.{World, has_relay, opening, standing_of, standing_of_client, standing_of_found, standing_of_listener, standing_of_relay, standing_relayed, standing_seated, world}
pub use Rattle.radio_parts_station.specs.declared.clients.ClientState.{ClientState}
pub use Rattle.radio_parts_station.specs.declared.clients.ClientState.TheVariants.{Ended, Listens}
pub use Rattle.radio_parts_station.specs.declared.standing.Standing.{Standing}
pub use Rattle.radio_parts_station.specs.declared.standing.Standing.TheVariants.{Answered, Feeds, Finished, Sits, Undecided, Unknown}
pub use Rattle.radio_policy.specs.Table.{Row, command_rows, listen_rows, needs_rows, password_rule, push_rows, relay_rows, row, source_rows}
pub use Rattle.radio_policy.specs.Verdicts.{verdict_in}
pub use Rattle.radio_policy.specs.declared.judgement.Verdict.TheVariants.{Allow}
pub use Rattle.radio_policy.specs.declared.rule.Rule.{Rule}
pub use Rattle.radio_policy.specs.declared.rule.Rule.TheVariants.{HeaderTimeout, Killed, Lagged, ListenerPassword, NoClient, NoDestination, NoMount, NoUser, NoUsers, NumbersSpent, SameMount, SourceKilled, SourceSilent, TimeOver}
pub use Rattle.radio_seats_rows.proofs.EndLaws.{LosesSeat, had_seat, kept_seat, same_or_loses}
pub use Rattle.radio_seats_rows.proofs.GivenLaws.{count_hearing, listener_hearing, numbers_hearing, seat_hearing, seat_of_hearing}
pub use Rattle.radio_seats_rows.proofs.SeatLaws.{beside_left, beside_moved, beside_seated, has_heard, has_moved, has_sat_down, is_no_listener, listener_seated}
pub use Rattle.radio_seats_rows.specs.Seats.{AreByNumber, advanced, finished_if, has_user, heard_to, hears_session, in_session_at, is_listener, last_mount_of, listener_of, loses, lost_by, seat_held, seat_in, seat_of, seated, with_end, with_ended, with_place, with_seat, with_session_at, without_listener}
pub use Rattle.radio_seats_rows.specs.declared.seat.Listener.{Listener}
pub use Rattle.radio_seats_rows.specs.declared.seat.Seat.{Seat}
pub use Rattle.radio_seats_rows.specs.declared.seat.Seating.{Seating}
pub use Rattle.radio_settings_values.specs.Options.{options_for}
pub use Rattle.radio_settings_values.specs.declared.settings.Settings.{Settings}
pub use Rattle.radio_settings_values.specs.declared.web.WebPath.{WebPath}
pub use Rattle.radio_tables.proofs.EachLaws.{Each_each, Each_kept, Each_placed, Each_updated}
pub use Rattle.radio_tables.proofs.FindLaws.{find_apart, find_here, find_later, find_mapped, find_same, found_has, found_passes}
pub use Rattle.radio_tables.proofs.KeyLaws.{by_name, by_number}
pub use Rattle.radio_tables.specs.Lists.{Each, placed, update_first}
pub use Rattle.radio_values.specs.declared.field.Shown.{Shown}
pub use Rattle.radio_core.specs.ClientSteps.{ArrivalsStay, Arrives, BeginsToFeed, ClientStep, ClientsStep, IsAnswered, IsObeyed, IsShown, StopsFeeding}
pub use Rattle.radio_core.specs.Finishes.{Cause, Finishes, HasAskedNothing, HasSatOut, HasSentNothing, HisSessionIsKilled, IsFarBehind, IsKilled, IsNotAccepted, SessionIsOver}
pub use Rattle.radio_core.specs.Handing.{data_in, handed_at, is_same_number, of_client}
pub use Rattle.radio_core.specs.Kept.{kept_of}
pub use Rattle.radio_core.specs.Lagging.{EachSeat, NobodyLags}
pub use Rattle.radio_core.specs.Moves.{Brings, ByComingUp, ByItsEnd, ByItsLeaving, ByKilling, ByMoving, ByRelayUp, BySilence, TakesTo, his_turn, moved_into}
pub use Rattle.radio_core.specs.Others.{AsClient, AsRelay, HasCome, LosesNoSeatElse, OthersStandOn, RepliesFit, StandsOn}
unfoldable pub use Rattle.radio_core.specs.Represents.{Represents, StandsForSome}
pub use Rattle.radio_core.specs.Run.{run_after, world_after_all}
pub use Rattle.radio_core.specs.SeatSteps.{ARelay, ASource, ComesUpOn, HeIsCalledHome, HisSessionIsOver, IsCommandedThere, IsGiven, IsHanded, IsSent, SeatStep, SeatsStep, SitsDown}
pub use Rattle.radio_core.specs.Sound.{IsSeatedIn, IsSound}
pub use Rattle.radio_core.specs.SourceReplies.{EndsAreTold, IsToldByData, SourcesAreToldByTheirData, to_data_from, to_end_from, to_feeders_end, to_session, unless_spent}
unfoldable pub use Rattle.radio_core.specs.SourceReplies.{to_data, to_end}
pub use Rattle.radio_core.specs.StandsFor.{SeatsAreKept}
