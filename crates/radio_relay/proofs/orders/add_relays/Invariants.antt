use Rattle.std.proofs.Common.{◌≡◌, drop}
use Rattle.radio_relay.proofs.Words.{with_other_names, relayed_mounts}
use Rattle.radio_relay.proofs.orders.add_relays.Given as goal

-- with the mounts of the relays that are left they are all
abbrev pub invariant-loop-relay : goal.invariant-loop-relay
invariant-loop-relay l = with_other_names l.mounts.keys (relayed_mounts (drop l.relay-index l.relays)) ≡ with_other_names l.initial.mounts.keys (relayed_mounts l.relays)
