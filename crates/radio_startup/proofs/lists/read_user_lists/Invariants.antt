use Rattle.std.proofs.Common.{drop}
use Rattle.radio_access.specs.Lists.{Lists}
use Rattle.radio_startup.specs.Files.{ReadUsers}
use Rattle.radio_startup.proofs.lists.read_user_lists.Given as goal

-- whatever the remaining mounts give from here, all mounts give from the beginning
abbrev pub invariant-loop-mount : goal.invariant-loop-mount
invariant-loop-mount g l =
    (after : Lists) → ReadUsers (g.F.ReadsFiles.holds l.files) (drop l.mount-index l.mounts) l.lists after
    → ReadUsers (g.F.ReadsFiles.holds l.files) l.mounts l.fn.lists after
