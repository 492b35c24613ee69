-- A part may go to another thread.
use denote.Struct.Declared.{Declared, fields, shape, row}
use denote.Struct.Struct.{Struct}
use denote.Param.Send.{IsSend, AllSend, recorded_send, struct_send, sendable, view_send}
use Rattle.std.proofs.Crossing.{crosses}
use Rattle.radio_attachments.proofs.branch.Branch.TheLaws.TheKnot.{send-Branch}
use Rattle.radio_parts_mount.proofs.sessions.Session.TheSendSync as session
use Rattle.radio_values.proofs.mount_name.MountName.TheSendSync as mount_name
use Rattle.radio_parts_mount.proofs.list.KeptItems.TheSendSync as kept
use Rattle.radio_parts_mount.specs.contracts.list.PartList as list_of
use Rattle.radio_parts_mount.specs.contracts.listed.ListedPart as listed
use Rattle.radio_parts_mount.specs.contracts.part.MountPart as part

-- a struct may, if each of its fields may
pub declared_send : (T : Declared) → AllSend (fields T) → IsSend (row T)
declared_send T sends = recorded_send (Struct (shape T)) T.D T.to T.to_one (struct_send (shape T) sends)

part_send : IsSend (part.the_field).row
part_send = search (sendable, crosses, mount_name.the_send, session.the_send, send-Branch) depth 30

list_send : IsSend (list_of.the_field).row
list_send = struct_send (shape list_of.the_type) (search (sendable, crosses, kept.the_send) depth 20, tt)

pub listed_send : IsSend listed.the_row
listed_send = view_send _ _ _ _ _ (declared_send listed.TheInside.the_type (part_send, (list_send, tt)))
