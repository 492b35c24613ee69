-- The state may go to another thread.
use denote.Param.Send.{IsSend, view_send}
use Rattle.radio_parts_station.proofs.registry.Registry.TheSendSync as registry
use Rattle.radio_parts_mount.proofs.Threads.{declared_send}
use Rattle.radio_parts_table.proofs.Threads.{listeners_send}
use Rattle.radio_parts_changes.specs.contracts.state.ServerState as state

pub state_send : IsSend state.the_row
state_send = view_send _ _ _ _ _ (declared_send state.TheInside.the_type (registry.the_send, (listeners_send, tt)))
