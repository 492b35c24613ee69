use Rattle.std.proofs.Common.{◌≡◌, ℕ, List, length}
use Rattle.radio_parts_mount.proofs.Words.{Attachment, IsList, without_all}
use Rattle.radio_parts_mount.proofs.noting.note_all_detached.Given as goal

-- the list is of those who are left, and once the rest are detached too, all are
abbrev pub invariant-others : goal.invariant-others
invariant-others l = (mount : List ℕ) (attachments : List Attachment) → IsList l.initial.list mount l.initial.session attachments
    → (left : List Attachment) × IsList l.list mount l.initial.session left × (without_all l.others left ≡ without_all l.initial.others attachments)

abbrev pub decreases-others : goal.decreases-others
decreases-others l = length l.others
