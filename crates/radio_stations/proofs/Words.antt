-- what the proofs of this crate speak of, by the crate where it is defined
pub use Rattle.std.proofs.lemmas.List.{append-nil, map-append}
pub use Rattle.std.proofs.lemmas.List.Concat.{flat_map-append}
pub use Rattle.std.specs.List.{AllByRecursion, position}
pub use Rattle.std.specs.Prelude.{All, IfSome, codes, drop, filter, if◌then◌else◌, length, map, nat_lt, remove, slice_get, slice_index_or, sum_by, take}
pub use Rattle.radio_addr.specs.declared.peer.Peer.{Peer}
pub use Rattle.radio_answers.specs.declared.web_answers.WebAnswers.{WebAnswers}
pub use Rattle.radio_book.specs.Receipts.{ReceiptOf}
pub use Rattle.radio_chronicle.specs.History.{IsRun}
pub use Rattle.radio_connections.proofs.DeedChains.{chain_one, chain_then}
pub use Rattle.radio_connections.specs.Admission.{IsTakenIn, first_entries}
pub use Rattle.radio_connections.specs.Connections.{Connection, lingers, stays, without_at, without_first}
pub use Rattle.radio_connections.specs.Course.{Arrival, Course, HasAllApplied, IsOver, LetsNobodyIn, Standing, applies, arrives, closes, fate_by, has_room, hears, is_cut, leaves, newcomer, passes_over, pending_by, standing_after_reply, turned_away}
pub use Rattle.radio_connections.specs.Serving.{IsHanded, Stands}
pub use Rattle.radio_connections.specs.declared.conn.Fate.{Fate}
pub use Rattle.radio_connections.specs.declared.conn.Fate.TheVariants.{Closed, Cut, Ended, Open}
pub use Rattle.radio_events.specs.Events.{entry}
pub use Rattle.radio_events.specs.Servers.{Chain, Steps}
pub use Rattle.radio_events.specs.declared.entry.Entry.{Entry}
pub use Rattle.radio_events.specs.declared.event.Event.{Event}
pub use Rattle.radio_events.specs.declared.event.Event.TheVariants.{Arrive, Clock, Command, Draw, Leave, Listen, Push, RelayDown, RelayUp, Source, SourceEnd, Title}
pub use Rattle.radio_events.specs.declared.reply.Reply.{Reply}
pub use Rattle.radio_events.specs.declared.reply.Reply.TheVariants.{Arrived, Deny, Drawn, Feeding, Finished, Noted, Seated, Stray, Text}
pub use Rattle.radio_events.specs.declared.state.State.{State}
pub use Rattle.radio_events.specs.declared.state.State.TheVariants.{Running, Shut}
pub use Rattle.radio_hall.specs.Woven.{AreWoven, IsInterleaved, SettledHistoriesAreWoven, entries_of, nothing_left, takes_one, takes_other}
pub use Rattle.radio_headline.specs.Served.{HasCourse, HasHappened, HasLabelOrMoment, NothingWas, ServedCoursesHearSlices, WasLetGo, WasPulled, WasServed, WasTurnedAway}
pub use Rattle.radio_heads.specs.Head.{RequestParts, ShowsRequest}
pub use Rattle.radio_heads.specs.Laws.{IsStableReading}
pub use Rattle.radio_heads.specs.Reading.{IsReading}
pub use Rattle.radio_heads.specs.declared.outcome.HeadFault.{HeadFault}
pub use Rattle.radio_heads.specs.declared.outcome.Progress.{Progress}
pub use Rattle.radio_heads.specs.declared.outcome.Progress.TheVariants.{More, Whole}
pub use Rattle.radio_locks.specs.Callers.{IsCalled, MayBeRefused, PassesGainWhatWasApplied}
pub use Rattle.radio_parts_station.specs.World.{World, opening}
pub use Rattle.radio_pullers.specs.Threads.{HasGoneOn, HasPulled, IsLetDown, IsNewPull, no_pull, no_turn, one_pull, one_turn}
pub use Rattle.radio_relay.specs.Applied.{AreAtMostOfTurn, AreOfTurn, IsGoingDown, PullCourse, PullSoFar, begins, goes_down, has_turn, is_refused, number_after}
pub use Rattle.radio_serving.specs.Turns.{IsTurn, ServesEach, TicksUnless, is_time_known}
pub use Rattle.radio_serving.specs.Watching.{WatchedOf, WatchedSteps, watched_of}
pub use Rattle.radio_serving.specs.Workers.{WorkerOf}
pub use Rattle.radio_serving.specs.declared.turn.Turn.{Turn}
pub use Rattle.radio_session.specs.Conversation.{Conversation, asking, fresh}
pub use Rattle.radio_session.specs.Cuts.{Atom, IsHeardIn, PiecesAreHeardAsOne, atoms, event_atoms, heard_then, unheard}
pub use Rattle.radio_session.specs.Hearing.{EventReading, HearsAs, IsHeard, body_closes, body_delivered, body_heard, get_heard, greeted, head_heard, nothing_held, refuses, source_heard}
pub use Rattle.radio_session.specs.Saying.{said}
pub use Rattle.radio_session.specs.declared.session.Hears.{Hears}
pub use Rattle.radio_session.specs.declared.session.Hears.TheVariants.{Body, Head, Nothing}
pub use Rattle.radio_settings_values.specs.declared.settings.RelaySetting.{RelaySetting}
pub use Rattle.radio_tables.proofs.KeyLaws.{by_number}
pub use Rattle.radio_workers.specs.Working.{HasOnlyAsked, HasWorkedAtSlot, IsWorkOf, MayRefuse, ShiftOf, WorkerHasDone, shift_of}
pub use Rattle.radio_stations.specs.Meaning.{HasDrawsAmong, HasShut, IsHeardInOne, MeansItsBytes, asks, draws, nothing}
pub use Rattle.radio_stations.specs.Rounds.{AdmissionsAreWork, AreHeld, Held, IsOther, TurnsAreWork, connections, held_at}
pub use Rattle.radio_stations.specs.Settled.{HaveOwnLabels, SettledStationsHearSlices, WorkAtHall, all_made, joint_roll, passes_of}
pub use Rattle.radio_stations.specs.Stations.{AreDisjoint, IsHandedTo, StationsAddUp, StationsHearSlices, both_rolls, course_of, either_has, given_by}
pub use Rattle.radio_stations.specs.Turns.{AreTurnsOf, ConnectionTurn, ConnectionsMeanTheirBytes, IsNotLetIn, IsServedThrough, StrangersAreOnlyAnswered, applied_in}
pub use Rattle.radio_stations.specs.Work.{HasWorked, IsOfConnections, IsOfItsConnection, IsOfItsPull, IsServedBy, IsUnder, Made, PassesAreOfTheirWork, Roll, UnderLabel, WorkIsOfItsConnections, closed, enrolled, entries_on, gone, happening, here, let_go, made_entries, made_entry_on, made_on, moment, nobody_came, nothing_yet, pulled, pulled_in, served, told, took_in, turned_off, unknown}
