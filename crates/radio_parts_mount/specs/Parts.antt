-- One mount's part.
use Rattle.std.specs.Prelude.{ℕ, Bool, List, Option}
use Rattle.std.specs.Option.{option_map}
use Rattle.std.specs.Str.{bytes_eq}
use Rattle.radio_attachments.specs.declared.attachment.Attachment.{Attachment}
use Rattle.radio_parts_mount.specs.Sessions.{Session}
use Rattle.radio_parts_mount.specs.declared.part.MountPart.{MountPart}

abbrev pub is_part_of : List ℕ → MountPart → Bool
is_part_of mount part = bytes_eq part.mount mount

-- the part with this session, or with none
abbrev pub with_session_in : Option Session → MountPart → MountPart
with_session_in session part = record part { session = session }

-- the part whose session has changed, if its mount is live
abbrev pub with_session_changed : (Session → Session) → MountPart → MountPart
with_session_changed f part = record part { session = option_map f part.session }

-- who is attached to one mount
pub record MountAttachments : Type 0 where
  pub mount : List ℕ
  pub attachments : List Attachment

abbrev pub attached_to : MountPart → MountAttachments
attached_to part = record { mount = part.mount; attachments = part.attachments }
