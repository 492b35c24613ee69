-- what the proofs of this crate speak of, by the crate where it is defined
pub use Rattle.std.specs.Option.{option_map_or, option_or}
pub use Rattle.std.specs.Prelude.{fold, if◌then◌else◌, map, nat_lt}
pub use Rattle.radio_addr.specs.declared.peer.Peer.{Peer}
pub use Rattle.radio_events.specs.Events.{EventTakesNoMemory, client_in}
pub use Rattle.radio_events.specs.declared.command.Asked.{Asked}
pub use Rattle.radio_events.specs.declared.command.Command.TheVariants.{AddUser, DeleteUser, KillClient, KillSource, MoveClients, SetFallback, SetTitle}
pub use Rattle.radio_events.specs.declared.command.CommandRequest.{CommandRequest}
pub use Rattle.radio_events.specs.declared.command.Listing.{Listing}
pub use Rattle.radio_events.specs.declared.command.Listing.TheVariants.{Clients, Mounts, Stats, Status, Streams}
pub use Rattle.radio_events.specs.declared.event.Event.{Event}
pub use Rattle.radio_events.specs.declared.event.Event.TheVariants.{Arrive, Clock, Command, Draw, Leave, Listen, Push, RelayDown, RelayUp, Source, SourceEnd, Title}
pub use Rattle.radio_events.specs.declared.event.ListenRequest.{ListenRequest}
pub use Rattle.radio_events.specs.declared.reply.Reply.{Reply}
pub use Rattle.radio_events.specs.declared.reply.Reply.TheVariants.{Arrived, Deny, Drawn, Feeding, Noted, Seated, Stray}
pub use Rattle.radio_events.specs.declared.text.ReplyText.{ReplyText}
pub use Rattle.radio_fallback.specs.declared.moves.Carried.{Carried}
pub use Rattle.radio_fallback.specs.declared.walking.Landing.{Landing}
pub use Rattle.radio_parts_changes.proofs.DueLemmas.{advanced_due, due_committed, due_from_first, only_time_changes}
pub use Rattle.radio_parts_changes.specs.Changes.{ChangeTakesNoMemory, answered, before_silence, called_home, carried_along, session_begun, session_killed, session_raised, session_silenced, silent_in, ticked}
pub use Rattle.radio_parts_changes.specs.Counts.{counted, counts_by, nobody}
pub use Rattle.radio_parts_changes.specs.KeptChanges.{kept_changed}
pub use Rattle.radio_parts_changes.specs.declared.change.Change.{Change}
pub use Rattle.radio_parts_changes.specs.declared.change.Change.TheVariants.{Advance, Answer, End, Nothing, Obey, Tick}
pub use Rattle.radio_parts_facts.specs.CommandFacts.{facts_asked, rows_to_command}
pub use Rattle.radio_parts_facts.specs.Listings.{shown}
pub use Rattle.radio_parts_facts.specs.Pages.{page_at}
pub use Rattle.radio_parts_mount.specs.Sessions.{Session, session_of}
pub use Rattle.radio_parts_station.specs.Facts.{arrive_facts, is_known, is_limit_reached, largest_number, listen_facts_at, live_end, live_number, names_mount, relay_facts_at, rows_to_arrive, rows_to_feed, rows_to_listen, rows_to_push, rows_to_raise, sight_of, source_facts_at, walk_stops, walks_to}
pub use Rattle.radio_parts_station.specs.StationState.{StationState}
pub use Rattle.radio_parts_station.specs.Waiting.{heard_at, is_on_demand, silence_at, silence_of}
pub use Rattle.radio_parts_station.specs.World.{World, has_relay, standing_of, world}
pub use Rattle.radio_parts_station.specs.declared.standing.Standing.{Standing}
pub use Rattle.radio_parts_station.specs.declared.standing.Standing.TheVariants.{Answered, Feeds, Finished, Sits, Undecided, Unknown}
pub use Rattle.radio_policy.specs.Table.{arrive_rows, command_rows, listen_rows, relay_rows, row, source_rows}
pub use Rattle.radio_policy.specs.Verdicts.{verdict_in}
pub use Rattle.radio_policy.specs.declared.judgement.Verdict.{Verdict}
pub use Rattle.radio_policy.specs.declared.judgement.Verdict.TheVariants.{Allow}
pub use Rattle.radio_policy.specs.declared.rule.Rule.{Rule}
pub use Rattle.radio_seats.specs.Lent.{lent_seat}
pub use Rattle.radio_seats_rows.specs.Seats.{seat_of}
pub use Rattle.radio_seats_rows.specs.declared.seat.Listener.{Listener}
pub use Rattle.radio_seats_rows.specs.declared.seat.Seat.{Seat}
pub use Rattle.radio_settings_values.specs.declared.web.WebPath.{WebPath}
pub use Rattle.radio_parts.specs.CanStep.{CanStep, MayDraw}
pub use Rattle.radio_parts.specs.Clock.{hears_clock}
pub use Rattle.radio_parts.specs.Closing.{Closes, OfClient, OfRelay}
pub use Rattle.radio_parts.specs.Command.{does_asked, obeys, said_of, shows}
pub use Rattle.radio_parts.specs.Common.{Common, common_after, common_asked, common_at, common_done, common_numbered, common_of, common_told}
pub use Rattle.radio_parts.specs.Draw.{IsMove, comes_to, draws, draws_from, hands_out, moves_to}
pub use Rattle.radio_parts.specs.Leave.{leaves_from}
pub use Rattle.radio_parts.specs.Listen.{sits_where, takes_seat}
pub use Rattle.radio_parts.specs.Outcomes.{if_feeding, if_sitting, if_undecided, on_verdict, out_of_place, says, unless_relayed}
pub use Rattle.radio_parts.specs.Pages.{IsAtPath, IsListing, IsShownBy, asks_by}
pub use Rattle.radio_parts.specs.Planned.{told_counts, uncounted, with_counts}
unfoldable pub use Rattle.radio_parts.specs.Planned.{planned}
pub use Rattle.radio_parts.specs.RelayDown.{goes_down_from}
unfoldable pub use Rattle.radio_parts.specs.Step.{outcome, reply_to}
pub use Rattle.radio_parts.specs.Ways.{Begins, ComesUp, Ends, EndsAndLeaves, GoesDown, HandsOut, HasPassed, IsAdmitted, IsDenied, IsFinished, IsRefused, IsUndecided, Leaves, Misplaced, Obeys, Receives, SetsTitle, Shows, TakesSeat, Ticks, Way, rows_for}
pub use Rattle.radio_parts.specs.declared.outcome.Outcome.{Outcome}
