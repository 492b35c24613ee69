use Rattle.std.proofs.Common.{◌≡◌, drop}
use Rattle.radio_relay.proofs.Words.{with_other_names}
use Rattle.radio_relay.proofs.orders.add_all.Given as goal

-- with the names that are left they are all
abbrev pub invariant-loop-name : goal.invariant-loop-name
invariant-loop-name l = with_other_names l.mounts.keys (drop l.name-index l.names) ≡ with_other_names l.initial.mounts.keys l.names
