use Rattle.std.proofs.Common.{◌≡◌, ◌++◌, take}
use Rattle.std.specs.List.{flat_map}
use Rattle.std.specs.Option.{option_to_list}
use Rattle.radio_startup.specs.Warnings.{weak_mount_password}
use Rattle.radio_startup.proofs.warnings.add_mount_passwords.Given as goal

abbrev pub invariant-loop-mount : goal.invariant-loop-mount
invariant-loop-mount l =
    l.to.items ≡ l.fn.to.items ++ flat_map (λ mount. option_to_list (weak_mount_password l.source mount)) (take l.mount-index l.mounts)
