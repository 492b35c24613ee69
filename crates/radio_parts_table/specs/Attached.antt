-- Who is attached to each mount.
use Rattle.std.specs.Prelude.{ℕ, Bool, List, [], Option, None, Some, find}
use Rattle.std.specs.Str.{bytes_eq}
use Rattle.radio_attachments.specs.declared.attachment.Attachment.{Attachment}
use Rattle.radio_attachments.specs.Rows.{is_attached}
use Rattle.radio_parts_table.specs.Parts.{ByMount}
use Rattle.radio_parts_mount.specs.Parts.{MountAttachments}
use Rattle.radio_parts_mount.specs.Attached.{place_in}

abbrev pub is_of_mount : List ℕ → MountAttachments → Bool
is_of_mount mount row = bytes_eq row.mount mount

abbrev pub attachments_in : Option MountAttachments → List Attachment
attachments_in None = []
attachments_in (Some row) = row.attachments

abbrev pub found_in : ℕ → Option MountAttachments → Option Attachment
found_in id None = None
found_in id (Some row) = find (is_attached id) row.attachments

-- how far the listener of this number has heard at the mount, if it is attached there
abbrev pub places_in : List MountAttachments → List ℕ → ℕ → Option ℕ
places_in mounts mount id = place_in (found_in id (find (is_of_mount mount) mounts))

-- these are attached
abbrev pub with_attached : List MountAttachments → ByMount → ByMount
with_attached attached parts = record parts { attached = attached }
