use Rattle.std.proofs.Common.{◌≡◌, take}
use Rattle.radio_startup.specs.Doubts.{limited_listeners}
use Rattle.radio_startup.proofs.doubts.limited_listeners.Given as goal

abbrev pub invariant-loop-mount : goal.invariant-loop-mount
invariant-loop-mount l = l.sum ≡ limited_listeners (take l.mount-index l.mounts)
