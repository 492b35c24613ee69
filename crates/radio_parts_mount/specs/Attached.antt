-- Who is attached to one mount.
use Rattle.std.specs.Prelude.{ℕ, Bool, ◌==◌, List, Option, None, Some, filter, not}
use Rattle.std.specs.List.{list_any}
use Rattle.std.specs.Option.{option_map}
use Rattle.radio_tables.specs.Lists.{update_first}
use Rattle.radio_attachments.specs.declared.attachment.Attachment.{Attachment}
use Rattle.radio_attachments.specs.Rows.{is_attached, at_place, put_in, lags}
use Rattle.radio_parts_mount.specs.declared.part.MountPart.{MountPart}
use Rattle.radio_parts_mount.specs.Parts.{MountAttachments, attached_to}
use Rattle.radio_seats_rows.specs.declared.seat.Listener.{Listener}
use Rattle.radio_seats_rows.specs.Seats.{sits_at}

-- without the attachment of this number
abbrev pub without_id : ℕ → MountAttachments → MountAttachments
without_id id row = record row { attachments = filter (λ attachment. not (is_attached id attachment)) row.attachments }

abbrev pub put_if : Option Attachment → List Attachment → List Attachment
put_if None rows = rows
put_if (Some attachment) rows = put_in attachment rows

-- with this attachment, if there is one
abbrev pub with_boxed : Option Attachment → MountAttachments → MountAttachments
with_boxed boxed row = record row { attachments = put_if boxed row.attachments }

-- with the attachment of this number at this place
abbrev pub advanced_there : ℕ → ℕ → MountAttachments → MountAttachments
advanced_there id place row = record row { attachments = update_first (is_attached id) (at_place place) row.attachments }

-- without those that are further behind this end than a queue is long
abbrev pub without_lagging : ℕ → ℕ → MountAttachments → MountAttachments
without_lagging end queue row = record row { attachments = filter (λ attachment. not (lags end queue attachment)) row.attachments }

-- with those alone who sit at the mount
abbrev pub with_sitters : List Listener → List ℕ → MountAttachments → MountAttachments
with_sitters seats mount row =
    record row { attachments = filter (λ attachment. not (not (sits_at seats attachment.id mount))) row.attachments }

abbrev pub place_in : Option Attachment → Option ℕ
place_in found = option_map (λ (attachment : Attachment). attachment.place) found

-- one of these attachments is of this number
abbrev pub is_among : List Attachment → ℕ → Bool
is_among attachments id = list_any (λ (attachment : Attachment). id == attachment.id) attachments

-- the part whose attachments have changed so
abbrev pub on_part : (MountAttachments → MountAttachments) → MountPart → MountPart
on_part f part = record part { attachments = (f (attached_to part)).attachments }
