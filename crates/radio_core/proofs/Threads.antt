-- A core may go to another thread.
use denote.Param.Send.{IsSend, view_send}
use Rattle.radio_parts_mount.proofs.Threads.{declared_send}
use Rattle.radio_parts.proofs.Threads.{control_send}
use Rattle.radio_core.specs.contracts.server.Core as core

pub core_send : IsSend core.the_row
core_send = view_send _ _ _ _ _ (declared_send core.TheInside.the_type (control_send, tt))
