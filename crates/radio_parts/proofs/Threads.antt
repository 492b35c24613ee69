-- A control may go to another thread.
use denote.Param.Send.{IsSend, sendable, view_send}
use Rattle.radio_parts_mount.proofs.Threads.{declared_send}
use Rattle.radio_parts_changes.proofs.Threads.{state_send}
use Rattle.radio_parts.specs.contracts.control.Control as control

pub control_send : IsSend control.the_row
control_send = view_send _ _ _ _ _ (declared_send control.TheInside.the_type (search sendable depth 8, (state_send, (search sendable depth 8, tt))))
