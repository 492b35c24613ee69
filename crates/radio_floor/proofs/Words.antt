-- what the proofs of this crate speak of, by the crate where it is defined
pub use Rattle.std.proofs.lemmas.Result.{IfOk-weaker}
pub use Rattle.std.specs.Option.{option_map}
pub use Rattle.std.specs.Prelude.{MatchResult, codes, drop, find, map}
pub use Rattle.radio_access.specs.Lists.{Lists}
pub use Rattle.radio_addr.specs.declared.peer.Peer.{Peer}
pub use Rattle.radio_answers.specs.declared.web_answers.WebAnswers.{WebAnswers}
pub use Rattle.radio_core.specs.Represents.{Represents, core_steps}
unfoldable pub use Rattle.radio_core.specs.Represents.{StandsForSome}
pub use Rattle.radio_core.specs.Run.{world_after_all}
pub use Rattle.radio_events.specs.declared.event.Event.{Event}
pub use Rattle.radio_events.specs.declared.event.Event.TheVariants.{Arrive, Draw, Leave, Push, RelayDown, SourceEnd}
pub use Rattle.radio_events.specs.declared.reply.Reply.{Reply}
pub use Rattle.radio_events.specs.declared.state.Ending.TheVariants.{Done}
pub use Rattle.radio_events.specs.declared.state.State.{State}
pub use Rattle.radio_events.specs.declared.state.State.TheVariants.{Running, Shut}
pub use Rattle.radio_parts.specs.Step.{Step, reply_to, world_after}
pub use Rattle.radio_parts_station.specs.World.{World, opening}
pub use Rattle.radio_relay.specs.Course.{Asks, AsksIf, BringsItems, ComesOf, Follows, GoesDown, GoesDownIfShut, Onwards, Takes}
pub use Rattle.radio_relay.specs.Items.{items_of}
pub use Rattle.radio_relay.specs.Pulled.{GoesOn, IsPulledAt, Pulled, Stops}
pub use Rattle.radio_relay.specs.Pulling.{NumberedState, Pulling, event_for, event_of, state_after_reply}
pub use Rattle.radio_relay.specs.declared.items.PullItem.{PullItem}
pub use Rattle.radio_script.proofs.SimulationLemmas.{plays, runs}
pub use Rattle.radio_script.specs.Plays.{IfKnown, Plays, Writes}
pub use Rattle.radio_script.specs.Runs.{Conduct, Runs}
pub use Rattle.radio_script.specs.declared.delivery.Delivery.{Delivery}
pub use Rattle.radio_script.specs.declared.delivery.Delivery.TheVariants.{Clock, Open, Pull, To}
pub use Rattle.radio_script.specs.declared.delivery.Input.{Input}
pub use Rattle.radio_script.specs.declared.delivery.Input.TheVariants.{Data, End, Room, Title}
pub use Rattle.radio_script.specs.declared.faults.PerformFault.{PerformFault}
pub use Rattle.radio_script.specs.declared.faults.PerformFault.TheVariants.{Label, OutOfMemory}
pub use Rattle.radio_session.specs.Conversation.{Conversation, asking, saying_now}
pub use Rattle.radio_session.specs.Exchanges.{Exchange, Exchanges, LeavesAfter, ended_with, is_leave, nothing_exchanged, prefixed}
pub use Rattle.radio_session.specs.Hearing.{EventReading, HearsAs, IsHeard, body_delivered, get_heard, greeted, head_heard, nothing_held, refuses, source_heard}
pub use Rattle.radio_session.specs.Saying.{Said, said}
pub use Rattle.radio_session.specs.declared.session.Says.{Says}
pub use Rattle.radio_settings_values.specs.declared.settings.Settings.{Settings}
pub use Rattle.radio_tables.specs.Lists.{placed, update_first}
pub use Rattle.radio_values.specs.Cleaning.{cleaned}
pub use Rattle.radio_values.specs.Limits.{max_title}
pub use Rattle.radio_floor.specs.ExchangeLaws.{CoresExchangeAsTheirStates, CoresGoByData, ExchangesTellReplies}
pub use Rattle.radio_floor.specs.Exchanges.{ExchangesAs, WorldExchange, exchanged, left_after, replies_to, then_exchanged}
pub use Rattle.radio_floor.specs.Performing.{Performs, PerformsAs}
pub use Rattle.radio_floor.specs.Pulls.{AskingIsOne, CoresAskAsTheirStates, CoresGoDownAsTheirStates, CoresTakeAsTheirStates, GoingDownIsOne, TakingIsOne}
pub use Rattle.radio_floor.specs.ScriptEvents.{Arrives, ComeAbout, ComeToEvents, ComesToEvents, IsAskedBy, IsAskedByRelay, MayHave, Pulls, Ticks, Traced, traces}
pub use Rattle.radio_floor.specs.ScriptServer.{AnswersAs, AnswersOn, AnswersUnder, OpensAs, PullsAs, answered_under, performed_as, script_state_of}
pub use Rattle.radio_floor.specs.ScriptState.{AsksOn, ComesTo, ComesToClient, ComesToRelay, IsPerformed, Performed, ScriptState, by_label, closes, connection_of, connects, exchanges, for_label, for_new_label, has_label, holding, kept_unless, on_connection, opening_script, opens_connection, pulled_on, relay_named, taken_in, with_connection, written_lines}
pub use Rattle.radio_floor.specs.Transcript.{IsTranscriptOf, PlaysScript, conduct}
pub use Rattle.radio_floor.specs.declared.handler.DeliveryAnswer.{DeliveryAnswer}
pub use Rattle.radio_floor.specs.declared.labelled.Connection.{Connection}
pub use Rattle.radio_floor.specs.declared.labelled.Connection.TheVariants.{Client, Relay}
pub use Rattle.radio_floor.specs.declared.labelled.Labelled.{Labelled}
