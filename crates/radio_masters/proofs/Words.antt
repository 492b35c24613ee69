-- what the proofs of this crate speak of, by the crate where it is defined
pub use Rattle.std.proofs.lemmas.List.{length-append, take-append-le, take_all}
pub use Rattle.radio_connections.proofs.DeedChains.{chain_one, chain_then}
pub use Rattle.radio_connections.specs.Lines.{Calls}
pub use Rattle.radio_events.specs.Events.{entry}
pub use Rattle.radio_events.specs.Servers.{Chain, Steps}
pub use Rattle.radio_events.specs.declared.entry.Entry.{Entry}
pub use Rattle.radio_events.specs.declared.event.Event.{Event}
pub use Rattle.radio_events.specs.declared.event.Event.TheVariants.{RelayDown}
pub use Rattle.radio_events.specs.declared.state.State.{State}
pub use Rattle.radio_events.specs.declared.state.State.TheVariants.{Running, Shut}
pub use Rattle.radio_relay.specs.Applied.{AreOfBytes, AreOfEvent, AreOfEventAnd, AreOfEventIf, AreOfItems, AreOfPulled, AreOfTurn, IsDownIfShut, IsGoingDown, number_after, probe_of}
pub use Rattle.radio_relay.specs.Course.{Asks, AsksAtMost, AsksAtMostIf, AsksIf, BringsAtMost, BringsItems, ComesOf, Follows, GoesDown, GoesDownIfShut, Onwards, OnwardsAtMost, Takes, TakesAtMost}
pub use Rattle.radio_relay.specs.Items.{items_of}
pub use Rattle.radio_relay.specs.Pulled.{GoesOn, Stops}
pub use Rattle.radio_relay.specs.Pulling.{NumberedState, Pulling, event_for, running_pull, state_after_reply}
pub use Rattle.radio_relay.specs.declared.items.PullItem.{PullItem}
pub use Rattle.radio_masters.specs.ListAnswers.{ListOver}
pub use Rattle.radio_masters.specs.Listed.{most_listed}
pub use Rattle.radio_masters.specs.Pulls.{AppliesAll, AppliesAtMost, Comes, FrontIsTaken, GoesOnHere, IsCalledIn, IsPullTurn, KeepsFront, PullOver, front_with, turn_by_state}
pub use Rattle.radio_masters.specs.declared.mount_pull.PullTurn.{PullTurn}
