use Rattle.std.proofs.Common.{ℕ, List, Option}
use Rattle.radio_parts_mount.proofs.Words.{Attachment, Session, IsList}
use Rattle.radio_parts_mount.proofs.noting.note_lagging.Given as goal

-- what the list was of it still is of
abbrev pub invariant-loop : goal.invariant-loop
invariant-loop l = (mount : List ℕ) (session : Option Session) (attachments : List Attachment) → IsList l.initial.list mount session attachments
    → IsList l.list mount session attachments
