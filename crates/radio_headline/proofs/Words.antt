-- what the proofs of this crate speak of, by the crate where it is defined
pub use Rattle.std.proofs.lemmas.Bool.Decides.{nat_tests}
pub use Rattle.std.proofs.lemmas.List.{append-nil, drop-append-le, map-append}
pub use Rattle.std.proofs.lemmas.List.Concat.{flat_map-append}
pub use Rattle.std.specs.List.{AllByRecursion, concat, flat_map}
pub use Rattle.std.specs.Option.{option_or}
pub use Rattle.std.specs.Prelude.{Ok, Result, codes, find, if◌then◌else◌, length, map, option_map}
pub use Rattle.std.specs.Str.{bytes_eq}
pub use Rattle.radio_access.specs.Lists.{Lists}
pub use Rattle.radio_addr.specs.declared.peer.Peer.{Peer}
pub use Rattle.radio_answers.specs.Answers.{denial, head_text, text_answer}
pub use Rattle.radio_answers.specs.declared.web_answers.WebAnswers.{WebAnswers}
pub use Rattle.radio_blocks.specs.Cutting.{blocks_of}
pub use Rattle.radio_connections.specs.Course.{Arrival, HasAllApplied, IsOver, LetsNobodyIn, applies, arrives, fate_by, has_room, hears, is_cut, leaves, newcomer, passes_over, pending_by, standing_after_reply, turned_away}
pub use Rattle.radio_core.specs.ClientSteps.{Arrives, BeginsToFeed, ClientStep, ClientsStep, ComesUp, GoesDown, IsAnswered, IsFinished, IsObeyed, IsShown, Leaves, SitsDown, Stays, StopsFeeding}
pub use Rattle.radio_core.specs.Finishes.{Finishes}
pub use Rattle.radio_core.specs.Handing.{block_in, data_in, delivered, handed, handed_at, is_same_number, of_client}
pub use Rattle.radio_core.specs.Others.{AsClient, HasCome, RepliesFit}
pub use Rattle.radio_core.specs.Run.{run_after, world_after_all}
pub use Rattle.radio_core.specs.SessionSteps.{BeginsForRelay, Grows, HasBegun, IsKilled, IsRetitled, IsTitled, KeepsSettings, SessionStep, SessionsStep}
pub use Rattle.radio_core.specs.Totals.{AddsUp, numbers_given}
pub use Rattle.radio_events.specs.Events.{client_in, entry}
pub use Rattle.radio_events.specs.declared.entry.Entry.{Entry}
pub use Rattle.radio_events.specs.declared.event.Event.{Event}
pub use Rattle.radio_events.specs.declared.event.Event.TheVariants.{Arrive, Clock, Command, Draw, Leave, Listen, Push, RelayDown, RelayUp, Source, SourceEnd, Title}
pub use Rattle.radio_events.specs.declared.event.ListenRequest.{ListenRequest}
pub use Rattle.radio_events.specs.declared.event.SourceRequest.{SourceRequest}
pub use Rattle.radio_events.specs.declared.reply.Reply.{Reply}
pub use Rattle.radio_events.specs.declared.reply.Reply.TheVariants.{Arrived, Deny, Drawn, Feeding, Finished, Noted, Seated, Stray, Text}
pub use Rattle.radio_events.specs.declared.reply.StreamHead.{StreamHead}
pub use Rattle.radio_events.specs.declared.state.Ending.{Ending}
pub use Rattle.radio_events.specs.declared.state.Ending.TheVariants.{BadPull, Done}
pub use Rattle.radio_events.specs.declared.state.State.{State}
pub use Rattle.radio_events.specs.declared.state.State.TheVariants.{Running, Shut}
pub use Rattle.radio_floor.specs.Exchanges.{WorldExchange, exchanged, then_exchanged}
pub use Rattle.radio_floor.specs.ScriptState.{AsksOn, ComesTo, ComesToClient, ComesToRelay, IsPerformed, Performed, ScriptState, by_label, closes, connection_of, connection_unless, connects, exchanges, for_new_label, has_label, holding, kept_unless, last_word, on_connection, opening_script, opens_connection, pulled_on, relay_named, taken_in, with_connection, written_lines}
pub use Rattle.radio_floor.specs.Transcript.{PlaysScript, conduct}
pub use Rattle.radio_floor.specs.declared.labelled.Connection.{Connection}
pub use Rattle.radio_floor.specs.declared.labelled.Connection.TheVariants.{Client, Relay}
pub use Rattle.radio_floor.specs.declared.labelled.Labelled.{Labelled}
pub use Rattle.radio_heads.specs.Head.{RequestParts, ShowsRequest}
pub use Rattle.radio_heads.specs.Laws.{HeadsLieWithin, IsStableReading}
pub use Rattle.radio_heads.specs.Reading.{IsReading}
pub use Rattle.radio_heads.specs.Response.{ResponseParts, ShowsResponse}
pub use Rattle.radio_heads.specs.declared.outcome.HeadFault.{HeadFault}
pub use Rattle.radio_heads.specs.declared.outcome.Progress.{Progress}
pub use Rattle.radio_heads.specs.declared.outcome.Progress.TheVariants.{More, Whole}
pub use Rattle.radio_icy.specs.Stream.{sound_of_calls}
pub use Rattle.radio_icy.specs.Weaving.{Call}
pub use Rattle.radio_laws.specs.Access.{AccessIsKept}
pub use Rattle.radio_laws.specs.Admission.{BeginsAtABlock, IsSeated}
pub use Rattle.radio_laws.specs.Denials.{DenialsAreThePolicys}
pub use Rattle.radio_laws.specs.Service.{Serves}
pub use Rattle.radio_laws.specs.Stretches.{AreSlices, AreStretches, Cut, SeatsKeepTheirMounts, Sitting, StretchesAreCut, StretchesAreWhole, begun_sittings, cut_at_sittings, cut_behind, sitting_of_seat, sittings}
pub use Rattle.radio_parts.specs.Outcomes.{if_feeding, if_undecided, on_verdict}
pub use Rattle.radio_parts.specs.Pages.{IsAtPath, IsListing, IsShownBy, asks_by, shows_page}
pub use Rattle.radio_parts.specs.Step.{Step}
unfoldable pub use Rattle.radio_parts.specs.Step.{outcome, reply_to, world_after}
pub use Rattle.radio_parts.specs.Ways.{Begins, Ends, EndsAndLeaves, HandsOut, HasPassed, IsAdmitted, IsDenied, IsRefused, Misplaced, Obeys, Receives, SetsTitle, Shows, TakesSeat, Ticks, Way, rows_for}
pub use Rattle.radio_parts.specs.declared.outcome.Outcome.{Outcome}
pub use Rattle.radio_parts_changes.specs.declared.change.Change.TheVariants.{Answer}
pub use Rattle.radio_parts_mount.specs.Sessions.{Session, session_of}
pub use Rattle.radio_parts_station.specs.Facts.{rows_to_listen, rows_to_push, walks_to}
pub use Rattle.radio_parts_station.specs.Waiting.{heard_at, is_on_demand, shown_by_nobody, silence_at, silence_of}
pub use Rattle.radio_parts_station.specs.World.{World, opening, standing_of}
pub use Rattle.radio_parts_station.specs.declared.standing.Standing.{Standing}
pub use Rattle.radio_parts_station.specs.declared.standing.Standing.TheVariants.{Answered, Feeds, Sits, Undecided, Unknown}
pub use Rattle.radio_policy.specs.Table.{Row}
pub use Rattle.radio_policy.specs.Verdicts.{Allows, Denies, verdict_in}
pub use Rattle.radio_policy.specs.declared.judgement.Verdict.{Verdict}
pub use Rattle.radio_policy.specs.declared.judgement.Verdict.TheVariants.{Allow}
pub use Rattle.radio_policy.specs.declared.rule.Rule.{Rule}
pub use Rattle.radio_policy.specs.declared.rule.Rule.TheVariants.{BadMethod}
pub use Rattle.radio_relay.proofs.CutLemmas.{AfterPieces, HeardInPieces, after-cut, parts-cut}
pub use Rattle.radio_relay.specs.Answer.{interval_in, shown_in_response}
pub use Rattle.radio_relay.specs.Applied.{AreAtMostOfTurn, AreOfBytes, AreOfEvent, AreOfEventAnd, AreOfEventIf, AreOfItems, AreOfPulled, AreOfTurn, IsDownIfShut, IsGoingDown, PullCourse, PullSoFar, begins, goes_down, has_turn, is_refused, number_after}
pub use Rattle.radio_relay.specs.Course.{Asks, AsksIf, BringsItems, ComesOf, Follows, GoesDownIfShut, Onwards, Takes}
pub use Rattle.radio_relay.specs.Items.{Gathered, all_items, items_of, nothing_gathered, with_gathered_part, with_parts}
pub use Rattle.radio_relay.specs.Laws.{sound_of_parts}
pub use Rattle.radio_relay.specs.Pulled.{GoesOn, IsPulledAt, Pulled, PulledPart, ShownPart, SoundPart, Stops, TitlePart, after_bytes, goes_on, parts_heard, pulled_as, pulled_by_interval, stops, stream_parts, stream_pulled, stream_with, title_parts}
pub use Rattle.radio_relay.specs.Pulling.{NumberedState, Pulling, event_of, is_shut, pulling_begun, running_pull, shut_by, state_after_reply}
pub use Rattle.radio_relay.specs.declared.items.PullItem.{PullItem}
pub use Rattle.radio_relay.specs.declared.items.PullItem.TheVariants.{Sound, Up}
pub use Rattle.radio_relay.specs.declared.pull.PullStage.TheVariants.{Behind, Head}
pub use Rattle.radio_relay.specs.declared.stream.PulledStream.{PulledStream}
pub use Rattle.radio_script.specs.Given.{TranscriptLine, given, given_in, line_text, out, shut, transcript_text}
pub use Rattle.radio_script.specs.Runs.{Runs}
pub use Rattle.radio_script.specs.Script.{deliveries_from, fault_from, script_lines}
pub use Rattle.radio_script.specs.declared.delivery.Delivery.{Delivery}
pub use Rattle.radio_script.specs.declared.delivery.Delivery.TheVariants.{Open, Pull, To}
pub use Rattle.radio_script.specs.declared.delivery.Input.{Input}
pub use Rattle.radio_script.specs.declared.delivery.Input.TheVariants.{Data, End, Room}
pub use Rattle.radio_script.specs.declared.faults.PlayFault.{PlayFault}
pub use Rattle.radio_seats_rows.specs.Seats.{seat_of}
pub use Rattle.radio_session.specs.Asking.{asks_by_get, asks_to_feed, asks_to_hear, gives_command, is_for_commands, path_in}
pub use Rattle.radio_session.specs.Conversation.{Conversation, asking, fresh, saying_now}
pub use Rattle.radio_session.specs.Draws.{draw, joined_draws}
pub use Rattle.radio_session.specs.Exchanges.{is_leave}
pub use Rattle.radio_session.specs.Framing.{framing_of, greeting_of, is_source, start_of}
pub use Rattle.radio_session.specs.Hearing.{EventReading, HearsAs, IsHeard, body_closes, body_delivered, body_heard, get_heard, greeted, head_heard, nothing_held, refuses, request_heard, source_heard}
pub use Rattle.radio_session.specs.Saying.{Said, counted_down, ends, greeting_text, last_ending, last_text, noted, one_less, said, tells}
pub use Rattle.radio_session.specs.Told.{AdmitNobody, DrawsAreTakenOutAgain, DrawsFollowTheHead, JoinedDrawsAreWoven, PlainDrawsAreTheirData, draws_of, told, while_open}
pub use Rattle.radio_session.specs.declared.session.Closing.{Closing}
pub use Rattle.radio_session.specs.declared.session.Hears.{Hears}
pub use Rattle.radio_session.specs.declared.session.Hears.TheVariants.{Body, Nothing}
pub use Rattle.radio_session.specs.declared.session.Says.{Says}
pub use Rattle.radio_settings_values.specs.declared.settings.RelaySetting.{RelaySetting}
pub use Rattle.radio_settings_values.specs.declared.settings.Settings.{Settings}
pub use Rattle.radio_source.specs.Feeding.{unfed}
pub use Rattle.radio_source.specs.Place.{Place, after, data_of, fault_at, has_ended}
pub use Rattle.radio_tables.proofs.KeyLaws.{by_number, number_is}
pub use Rattle.radio_values.specs.declared.field.Shown.{Shown}
pub use Rattle.radio_headline.specs.Course.{ComesToNoted, Happening, Happens, HappensThere, IsAsked, and_then, applied, applied_entry, arrival_at_label, courses, entry_on, events_in, log_on, nothing_noted, noting, on}
pub use Rattle.radio_headline.specs.Lawful.{IsLawful}
pub use Rattle.radio_headline.specs.Listeners.{BodiesAreHeard, CommandIsAnswered, CourseHearsSlices, DrawsAreCut, DrawsAreStretches, IsGiven, IsTooLate, SitsWithASource, SourceIsAnswered, draw_to, draws_to}
pub use Rattle.radio_headline.specs.Scripts.{HearsSlices, ListenersHearSlices, brought, bytes_delivered, bytes_in}
pub use Rattle.radio_headline.specs.Sources.{DeliversItsBody, DeliversItsSound, HasItsSource, IsAwaited, IsRequest, NobodyDelivers, RelaysDeliverTheirSound, SourcesDeliverTheirBodies, pushed, pushed_by}
