-- what the proofs of this crate speak of, by the crate where it is defined
pub use Rattle.std.proofs.lemmas.Bool.{and_parts, eqb-true}
pub use Rattle.std.proofs.lemmas.Bool.Decides.{nat_tests}
pub use Rattle.std.proofs.lemmas.List.{append-nil, drop-append-le, drop-drop, length-drop, length-take, take-append-le}
pub use Rattle.std.proofs.lemmas.Slice.Eq.{bytes_eq-Decides}
pub use Rattle.std.specs.Cmp.Lexicographic.{slice_cmp}
pub use Rattle.std.specs.List.{AllByRecursion, concat, last_or, list_any}
pub use Rattle.std.specs.Option.{option_map, option_map_or, option_or}
pub use Rattle.std.specs.Ordering.{is_eq, match_ordering, nat_cmp}
pub use Rattle.std.specs.Prelude.{codes, drop, filter, filter_map, find, flat_map, fold, if◌then◌else◌, is_some, length, map, min, nat_le, nat_lt, not, take, unwrap_or, ◌&&◌, ◌+◌, ◌||◌, ◌↔◌}
pub use Rattle.std.specs.Str.{bytes_eq}
pub use Rattle.std.specs.declared.cmp.Ordering.{Ordering}
pub use Rattle.std.specs.declared.cmp.Ordering.TheVariants.{Equal, Greater, Less}
pub use Rattle.radio_access.proofs.UserLaws.{accepted_beside, accepted_set, accepted_without, let_in_beside, let_in_still, let_in_then, refused_gone, with_changed}
pub use Rattle.radio_access.specs.CommandPairs.{is_admin_pair, is_login_sent, is_relay_pair, is_relays}
pub use Rattle.radio_access.specs.Lists.{Lists, accepts, has_user_at, has_users, lets_in, passes, users_at, with_user_at, without_user_at}
pub use Rattle.radio_access.specs.SourcePair.{is_login, is_source_pair, is_user_with}
pub use Rattle.radio_access.specs.declared.lists.MountUsers.{MountUsers}
pub use Rattle.radio_addr.specs.declared.peer.Peer.{Peer}
pub use Rattle.radio_attachments.proofs.Forks.{in_order_filtered, in_order_updated}
pub use Rattle.radio_attachments.specs.Rows.{AreInOrder, is_attached, lags}
pub use Rattle.radio_attachments.specs.declared.attachment.Attachment.{Attachment}
pub use Rattle.radio_core.proofs.Clients.CarriedFates.{order_carried}
pub use Rattle.radio_core.proofs.Clients.Fates.{Fate, GoesOn, HasEnded, HasStopped, IsActive, IsEnded, Nobody, lost_in, sound_fates}
pub use Rattle.radio_core.proofs.Clients.FinishLemmas.{finish_step, finished_told, known_before, others_hold, undecided_before}
pub use Rattle.radio_core.proofs.Clients.NamedRules.{DeniesIt, NamesNoRule, RefusesHim, RuleNamed, TellsHisRule, rule_in, rule_named}
pub use Rattle.radio_core.proofs.Clients.Obeyed.{beside_him, has_been_killed, his_seat, is_another, is_answered, is_cut, live, named, sits_no_more, title_live}
pub use Rattle.radio_core.proofs.Clients.OwnLemmas.{by_own, not_of, nothing_of}
pub use Rattle.radio_core.proofs.Clients.Standings.{Turns, asks, turns_admitted, turns_answered, turns_feeding, turns_forgotten, turns_raised, turns_sitting}
pub use Rattle.radio_core.proofs.Commands.AllowedCommands.{is_opened, may_act, may_add, may_delete, needs_hold, past_sent}
pub use Rattle.radio_core.proofs.Commands.ListsSteps.{lists_step}
pub use Rattle.radio_core.proofs.Kept.KeptSeats.{seat_unless_lost, settings_stay}
pub use Rattle.radio_core.proofs.Kept.StepLemmas.{replies_alike, step_done}
pub use Rattle.radio_core.proofs.Seats.ChangedUsers.{shut_out_there, with_lists}
pub use Rattle.radio_core.proofs.Seats.CommandedSeats.{killed_seat}
pub use Rattle.radio_core.proofs.Seats.SeatSteps.{seats_step}
pub use Rattle.radio_core.proofs.Sessions.SessionSteps.{keeps_settings}
pub use Rattle.radio_core.proofs.Sessions.TickLemmas.{ClockCarries, ClockCause, ClockFates, IsOnTheWay, asking_at, clients_after, fates_sat_out, fates_silence, goes_on, live_there, silenced_fates, sound_sat_out, sound_timed, ticked_fates, timed, turned}
pub use Rattle.radio_core.proofs.Sound.SoundEnds.{turns_ended, turns_ended_and_left, was_live}
pub use Rattle.radio_core.proofs.Sound.SoundRuns.{sound_after, sound_opening, sound_run}
pub use Rattle.radio_core.proofs.Sound.SoundSessions.{begun_cases, grown_cases, has_advanced}
pub use Rattle.radio_core.proofs.Sound.SoundTitles.{titled_cases}
pub use Rattle.radio_core.proofs.Sound.Soundness.{beside_new_seat, has_new_seat, sound_answered}
pub use Rattle.radio_core.specs.Finishes.{Cause, Finishes, HasAskedNothing, HasSatOut, HasSentNothing, HisSessionIsKilled, IsFarBehind, IsNotAccepted, SessionIsOver}
pub use Rattle.radio_core.specs.Handing.{block_in, data_in, delivered, delivered_at, handed, handed_at, is_same_number, of_client}
pub use Rattle.radio_core.specs.ListsSteps.{IsAdded, IsDeleted, ListsStep, Stay}
pub use Rattle.radio_core.specs.Moves.{Brings, ByComingUp, ByItsEnd, ByItsLeaving, ByKilling, ByMoving, ByRelayUp, BySilence, TakesTo, his_turn, moved_into}
unfoldable pub use Rattle.radio_core.specs.Represents.{Represents, StandsForSome}
pub use Rattle.radio_core.specs.Run.{run_after, world_after_all}
pub use Rattle.radio_core.specs.SeatSteps.{ComesUpOn, IsGiven, IsHanded, IsMoved, IsSent, SeatStep, SitsDown}
pub use Rattle.radio_core.specs.Sound.{IsSound}
pub use Rattle.radio_core.specs.StandsFor.{StandsFor}
pub use Rattle.radio_creds.specs.Credentials.{Credentials}
pub use Rattle.radio_creds.specs.UserList.{UserList, with_user, without_user}
pub use Rattle.radio_events.specs.Events.{client_in}
pub use Rattle.radio_events.specs.Texts.{IsShort}
pub use Rattle.radio_events.specs.declared.command.Asked.{Asked}
pub use Rattle.radio_events.specs.declared.command.Command.TheVariants.{AddUser, DeleteUser, KillClient, KillSource, MoveClients, SetFallback}
pub use Rattle.radio_events.specs.declared.command.CommandRequest.{CommandRequest}
pub use Rattle.radio_events.specs.declared.command.Listing.{Listing}
pub use Rattle.radio_events.specs.declared.command.Listing.TheVariants.{Clients, Mounts, Stats, Status, Streams}
pub use Rattle.radio_events.specs.declared.event.Event.{Event}
pub use Rattle.radio_events.specs.declared.event.Event.TheVariants.{Arrive, Clock, Command, Draw, Leave, Listen, Push, RelayDown, RelayUp, Source, SourceEnd, Title}
pub use Rattle.radio_events.specs.declared.event.ListenRequest.{ListenRequest}
pub use Rattle.radio_events.specs.declared.event.SourceRequest.{SourceRequest}
pub use Rattle.radio_events.specs.declared.reply.Reply.{Reply}
pub use Rattle.radio_events.specs.declared.reply.Reply.TheVariants.{Arrived, Deny, Drawn, Feeding, Noted, Seated, Stray}
pub use Rattle.radio_events.specs.declared.text.ReplyText.{ReplyText}
pub use Rattle.radio_events.specs.declared.text.ReplyText.TheVariants.{Done, Json, Moved, Page, Public}
pub use Rattle.radio_fallback.proofs.FaresLemmas.{beside, count_out, count_shifted, found_changed, had_seats, keeps_limit, out_beside, out_himself, shifted_beside, shifted_himself, shifted_there, sit_once, turn_cases}
pub use Rattle.radio_fallback.proofs.Faring.{Faring, HasGone, HasLost, HasStayed, fares, nobody_stays, sits_as_before}
pub use Rattle.radio_fallback.proofs.FitsLemmas.{is_out, sits_last}
pub use Rattle.radio_fallback.proofs.TurnLemmas.{IsShifted, lands_where_he_fits}
pub use Rattle.radio_fallback.proofs.WalkLaws.{landing_is, stopped_where_it_begins, walks_ten}
pub use Rattle.radio_fallback.specs.Carry.{Carry, at_first, at_his_turn, carried, carry_after_move, concerns, is_asked, numbers_of, turn_by, turn_in, turn_of, turns, walks_on}
pub use Rattle.radio_fallback.specs.Fares.{HadASeat, IsWithinLimit, SitOnce, seat_at_end}
pub use Rattle.radio_fallback.specs.Walk.{MaySit, Sight, found_at, hands_on, is_full, is_full_for, is_twice_for, landing, landing_at, landing_here, next_mount, onward, sits_already, stop_in, stop_of, walk}
pub use Rattle.radio_fallback.specs.declared.moves.Carried.{Carried}
pub use Rattle.radio_fallback.specs.declared.moves.Move.{Move}
pub use Rattle.radio_fallback.specs.declared.moves.Move.TheVariants.{Ended, To, Up}
pub use Rattle.radio_fallback.specs.declared.moves.MoveEffect.TheVariants.{GoesTo, IsOut, Stays}
pub use Rattle.radio_fallback.specs.declared.walking.Landing.{Landing}
pub use Rattle.radio_fallback.specs.declared.walking.Landing.TheVariants.{Lands, Stops}
pub use Rattle.radio_fallback.specs.declared.walking.WalkFinding.{WalkFinding}
pub use Rattle.radio_listing.specs.declared.rows.ListedListener.{ListedListener}
pub use Rattle.radio_parts.proofs.CalledStation.{station_called}
pub use Rattle.radio_parts.proofs.DrawLemmas.{draws_so, hands_out_at}
pub use Rattle.radio_parts.proofs.HeardLemmas.{heard_cases, heard_end, heard_live, heard_named, heard_number}
pub use Rattle.radio_parts.proofs.ListingLemmas.{shown_long}
pub use Rattle.radio_parts.proofs.PlannedLemmas.{planned_so, told_by_plan}
pub use Rattle.radio_parts.proofs.Ways.{found_by, has_room_left, lands_at, may_be_raised, may_begin, may_come_up, may_feed, no_path, way_of}
pub use Rattle.radio_parts.specs.Allowed.{Adds, ChangesUsers, Deletes, IsCommanded, IsListed}
pub use Rattle.radio_parts.specs.Arrive.{admits_client}
pub use Rattle.radio_parts.specs.CanStep.{CanStep, MayDraw}
pub use Rattle.radio_parts.specs.Closing.{Closes, OfClient, OfRelay}
pub use Rattle.radio_parts.specs.Command.{does_asked, obeys, said_of, shows}
pub use Rattle.radio_parts.specs.ControlSteps.{control_after, control_reply}
pub use Rattle.radio_parts.specs.Draw.{as_heard, hands_out, part_draws}
pub use Rattle.radio_parts.specs.Leave.{leaves_from}
pub use Rattle.radio_parts.specs.Listen.{first_seat, listen_outcome, sits_where, takes_seat}
pub use Rattle.radio_parts.specs.Outcomes.{if_feeding, if_sitting, if_undecided, on_verdict, says, unless_relayed}
pub use Rattle.radio_parts.specs.Pages.{IsAtPath, IsListing, IsShownBy, asks_by, asks_by_path, shows_page}
pub use Rattle.radio_parts.specs.Planned.{planned, uncounted}
pub use Rattle.radio_parts.specs.Push.{takes_in}
pub use Rattle.radio_parts.specs.RelayDown.{goes_down_from}
pub use Rattle.radio_parts.specs.RelayUp.{raises}
pub use Rattle.radio_parts.specs.Source.{begins}
unfoldable pub use Rattle.radio_parts.specs.Step.{outcome, reply_to, world_after}
pub use Rattle.radio_parts.specs.Ways.{Begins, ComesUp, Ends, EndsAndLeaves, GoesDown, HandsOut, HasPassed, IsAdmitted, IsDenied, IsFinished, IsRefused, IsUndecided, Leaves, Misplaced, Obeys, Receives, SetsTitle, Shows, TakesSeat, Ticks, Way, rows_for, rows_from}
pub use Rattle.radio_parts.specs.declared.outcome.Outcome.{Outcome}
pub use Rattle.radio_parts_changes.proofs.PartChanges.{is_on_air, is_taken_in, on_air_beside, on_air_there, taken_in_there}
pub use Rattle.radio_parts_changes.specs.Changes.{answered, before_silence, block_received, called_home, carried_along, changed, laggards_ended, on_air, outsiders_ended, part_at, session_begun, session_ended, session_killed, session_over, session_raised, session_silenced, silent_in, ticked, user_added, user_deleted}
pub use Rattle.radio_parts_changes.specs.Counts.{counts_by}
pub use Rattle.radio_parts_changes.specs.KeptChanges.{kept_changed, kept_taken_in}
pub use Rattle.radio_parts_changes.specs.declared.change.Change.{Change}
pub use Rattle.radio_parts_changes.specs.declared.change.Change.TheVariants.{Advance, Answer, Begin, End, EndAndLeave, Forget, Nothing, Obey, Raise, Receive, SetTitle, TakeSeat, Tick}
pub use Rattle.radio_parts_facts.specs.CommandFacts.{facts_asked, is_listener_at, is_live, needs_of, opened_by, opener_in, opens, opens_as_source, rows_to_command}
pub use Rattle.radio_parts_facts.specs.Listings.{about_row, listener_row, listener_rows, mount_rows, public_row, row_of_session, seconds_since, shown, user_of}
pub use Rattle.radio_parts_facts.specs.Pages.{page_at, server_as}
pub use Rattle.radio_parts_facts.specs.Streams.{burst_of, head_of, interval_for}
pub use Rattle.radio_parts_mount.proofs.ApartLemmas.{bytes_apart, kept_apart}
pub use Rattle.radio_parts_mount.proofs.KeptStreams.{kept_data, kept_end, kept_more}
pub use Rattle.radio_parts_mount.proofs.NumberOrder.{order_ended, order_left, same_order}
pub use Rattle.radio_parts_mount.proofs.RisingLemmas.{burst_within, rising_more}
pub use Rattle.radio_parts_mount.proofs.SessionLookups.{beside_begun, beside_ended, beside_fed, found_named, is_over}
pub use Rattle.radio_parts_mount.specs.Attached.{place_in}
pub use Rattle.radio_parts_mount.specs.Kept.{first_start, kept_fed, kept_from, kept_session, kept_stream, longer_kept}
pub use Rattle.radio_parts_mount.specs.Sessions.{AreApart, HasRisingStarts, Session, by_mount, fed, is_of, longer, opened, session_of, titled, with_session, with_title, without_session}
pub use Rattle.radio_parts_mount.specs.StatePart.{Part, end_in, part_received, part_titled}
pub use Rattle.radio_parts_mount.specs.Steps.{IsKept, heard_on, is_fed_by, is_spent_with, part_after, part_answers, part_fed, part_lagged, place_after, portion_at}
pub use Rattle.radio_parts_mount.specs.Stream.{AreRising, WholeStream, burst_start, data_at, end_of, no_data}
pub use Rattle.radio_parts_mount.specs.Timeouts.{has_sat_out, is_silent, lags_behind}
pub use Rattle.radio_parts_mount.specs.declared.drawing.Portion.{Portion}
pub use Rattle.radio_parts_mount.specs.declared.part.MountPart.{MountPart}
pub use Rattle.radio_parts_mount.specs.declared.step.PartAnswer.TheVariants.{Elsewhere, Replied}
pub use Rattle.radio_parts_station.proofs.Lookups.{beside_set, beside_state, does, is_new_client, is_set}
pub use Rattle.radio_parts_station.specs.Clients.{Client, client_of, in_state, with_client_state}
pub use Rattle.radio_parts_station.specs.Facts.{arrive_facts, fallback_of, is_known, largest_number, live_end, names_mount, relay_facts_at, rows_to_arrive, rows_to_feed, rows_to_listen, rows_to_push, rows_to_raise, sight_of, source_facts_at, walk_stops, walks_to}
pub use Rattle.radio_parts_station.specs.Fallbacks.{Fallback, set_for, with_fallback}
pub use Rattle.radio_parts_station.specs.Outsiders.{is_shut_out}
pub use Rattle.radio_parts_station.specs.Relays.{Relay, relay_of}
pub use Rattle.radio_parts_station.specs.StationChanges.{begun, raised, received, retitled}
pub use Rattle.radio_parts_station.specs.StationState.{StationState}
pub use Rattle.radio_parts_station.specs.Streams.{shown_for}
pub use Rattle.radio_parts_station.specs.Timeouts.{asks_too_late, timed_out}
pub use Rattle.radio_parts_station.specs.Waiting.{feeds_on_demand, heard_at, is_on_demand, silence_at, silence_of}
pub use Rattle.radio_parts_station.specs.World.{World, has_relay, opening, standing_of, standing_of_found, world}
pub use Rattle.radio_parts_station.specs.declared.standing.Standing.{Standing}
pub use Rattle.radio_parts_station.specs.declared.standing.Standing.TheVariants.{Answered, Feeds, Sits, Undecided, Unknown}
pub use Rattle.radio_parts_table.specs.Agree.{AllAgree}
pub use Rattle.radio_policy.specs.Table.{Row, access_rows, arrive_rows, command_rows, listen_rows, needs_rows, password_rule, relay_rows, row, source_rows}
pub use Rattle.radio_policy.specs.Verdicts.{Allows, Denies, verdict_in}
pub use Rattle.radio_policy.specs.declared.facts.CommandFacts.{CommandFacts}
pub use Rattle.radio_policy.specs.declared.judgement.Verdict.{Verdict}
pub use Rattle.radio_policy.specs.declared.judgement.Verdict.TheVariants.{Allow}
pub use Rattle.radio_policy.specs.declared.rule.Rule.{Rule}
pub use Rattle.radio_policy.specs.declared.rule.Rule.TheVariants.{AddressDenied, AddressNotAllowed, AdminPassword, BadMount, ContentType, FallbackDepth, HeaderTimeout, Killed, Lagged, ListenerPassword, MissingArgument, MountFull, MountInUse, NoClient, NoCommand, NoDestination, NoMount, NoUser, NoUsers, NotLive, NumbersSpent, RelayPassword, SameMount, SourcePassword, SourceSilent, TimeOver, TooManyClients, TooManySources, UserTwice}
pub use Rattle.radio_seats.specs.Listed.{guest_at, guests_at}
pub use Rattle.radio_seats_rows.proofs.CountLaws.{NobodyCame, no_more_elsewhere, nobody_came, nobody_came_hearing, nobody_came_leaving, nobody_sits_as, one_more_at}
pub use Rattle.radio_seats_rows.proofs.EndLaws.{LosesSeat, had_seat, have_ended, kept_seat, nobody_came_ending, same_or_loses}
pub use Rattle.radio_seats_rows.proofs.GivenLaws.{listener_hearing, numbers_hearing, seat_hearing, seat_of_hearing}
pub use Rattle.radio_seats_rows.proofs.Lists.{held, one, passing_mapped, passing_removed, same_number}
pub use Rattle.radio_seats_rows.proofs.SeatLaws.{beside_left, beside_moved, beside_seated, has_heard, has_sat_down, is_no_listener, listener_seated}
pub use Rattle.radio_seats_rows.specs.Rests.{how_many}
pub use Rattle.radio_seats_rows.specs.Seats.{AreByNumber, SitsAs, advanced, by_listener, count_at, ended_if, finished_if, has_user, heard_to, hears_session, holds_of, in_session_at, is_listener, is_seat_at, is_user_at, last_mount, last_mount_of, listener_of, loses, lost_by, moved, seat_held, seat_in, seat_of, seated, seats_at, sits_there, with_end, with_ended, with_move, with_place, with_seat, with_session_at, without_listener}
pub use Rattle.radio_seats_rows.specs.declared.seat.Listener.{Listener}
pub use Rattle.radio_seats_rows.specs.declared.seat.Seat.{Seat}
pub use Rattle.radio_seats_rows.specs.declared.seat.Seating.{Seating}
pub use Rattle.radio_seats_rows.specs.declared.seat.Seating.TheVariants.{Finished}
pub use Rattle.radio_settings_values.specs.Options.{options_for}
unfoldable pub use Rattle.radio_settings_values.specs.Web.{web_path}
pub use Rattle.radio_settings_values.specs.declared.settings.Login.{Login}
pub use Rattle.radio_settings_values.specs.declared.settings.Settings.{Settings}
pub use Rattle.radio_settings_values.specs.declared.web.WebPath.{WebPath}
pub use Rattle.radio_settings_values.specs.declared.web.WebPath.TheVariants.{IcecastStatus}
pub use Rattle.radio_tables.proofs.FindLaws.{find_apart, find_here, find_later, find_same, found_has, found_passes}
pub use Rattle.radio_tables.proofs.KeyLaws.{by_name, by_number}
pub use Rattle.radio_tables.specs.Lists.{Each, Has, placed, update_first}
pub use Rattle.radio_values.specs.declared.field.Shown.{Shown}
pub use Rattle.radio_laws.specs.Commanded.{AsTheAdmin, CommandsAreKept, FallbacksStay, FaresByUsers, HasDone, HasPassword, HasTarget, HaveChanged, IsGivenByRight, IsLetIn, IsLive, IsNoUser, IsShutOut, IsSourceKilled, ItsFallback, ItsTitle, KilledHearNothing, MayGive, OnlyWhoMayCommands, StaysBeside, WhoMayIsServed, mount_of}
pub use Rattle.radio_laws.specs.Denials.{AddressesAreDenied, DenialsAreThePolicys, FeedsAsItsSource, IsOnlyAnswered, KnownMountsAreKnown, OnlySourcesFeed, ThePolicyDenies, ToArrive, ToComeUp, ToCommand, ToFeed, ToListen, ToSend}
pub use Rattle.radio_laws.specs.Gone.{AsClient, AsRelay, HasLeft, IsOutOfPlace, Leaving, StaysGone}
pub use Rattle.radio_laws.specs.LimitDenials.{ByAMount, DeniesByLimits, HasUserAt}
pub use Rattle.radio_laws.specs.Limits.{AdmitsByLimits, IsFullAt, IsWithinLimits, SentUser, SitsThereAs, allows_duplicates_at, most_at}
pub use Rattle.radio_laws.specs.Locality.{AgreeWithin, AnswersAlike, AsksWithin, ComesUpWithin, FallBackWithin, FedBeyond, HearsWithin, IsAll, IsLeftAlone, IsWithinReach, LastBeyond, LastWithin, LeavesAlone, ListenersAgree, ReachesWithin, SameListener, SameSession, SessionsAgree, WalksWithin}
pub use Rattle.radio_laws.specs.Outstaying.{IsEndedInOrder, IsInTime, NobodyOutstays}
pub use Rattle.radio_laws.specs.OwnSteps.{IsOwn, IsServersStep, OwnStepsAreAnswered, OwnStepsAreTheServers, PartStands}
pub use Rattle.radio_laws.specs.Parts.{DrawsByItsPart, IsPartOf, IsPartsStep, is_at, is_mount_of, part_with_place, seat_at, seat_if}
pub use Rattle.radio_laws.specs.Shown.{AreAnsweredAlike, AreVisitedAlike, AsARelay, AsAnybody, HiddenAreLeftOut, HiddenAreNotToldOnTheWeb, IsPath, IsShownAtPath, IsShownByRight, IsTheRelays, IsThereToSee, MaySee, NobodyFeedsAPath, OnlyWhoMayIsShown, PageIsOn, Seen, SightIsKept, StatusIsOn, TellOf, TellOfListeners, Tells, TellsAt, TellsOf, TellsOfListener, WhoMayIsShown, WhoVisitsIsShown, body_of, is_public, public_live, seen, seen_by_all}
pub use Rattle.radio_laws.specs.Stretches.{AreSlices, AreStretches, Cut, IsSlice, SeatsKeepTheirMounts, Sitting, StretchesAreCut, StretchesAreWhole, begun_sittings, between, cut_at_sittings, cut_behind, sitting_of_seat, sittings}
pub use Rattle.radio_laws.specs.TitlesTold.{TitlesAreTold, commanded_at, commanded_in, last_title, set_at, set_by, title_of_event, titles_set}
pub use Rattle.radio_laws.specs.Users.{IsSet, IsTakenAway, LetInStep, SittersAreLetIn, UsersStep}
pub use Rattle.radio_laws.specs.Walks.{AtFirst, ByACommand, ByTheSettings, ComesBy, FallsBack, HasNoSource, IsFull, Next, PassesWalkOn}
