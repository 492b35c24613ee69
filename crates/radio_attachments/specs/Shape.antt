-- What a tree is seen as.
use Rattle.std.specs.Prelude.{List, [], ◌∷◌, ◌++◌, Option, Some, None}
use Rattle.std.specs.declared.alloc.Global.{Global}
use Rattle.std.proofs.Common.{Box}
use Rattle.radio_attachments.specs.declared.attachment.Attachment.{Attachment}
use Rattle.radio_attachments.specs.declared.branch.Node.{Node}
use Rattle.radio_attachments.specs.Rows.{Forked}

abbrev pub rows_in : Forked → List Attachment
rows_in fork = fork.less ++ fork.row ∷ fork.more

abbrev pub rows_of : Option (Box Node Global) → List Attachment
rows_of None = []
rows_of (Some fork) = rows_in fork.value
