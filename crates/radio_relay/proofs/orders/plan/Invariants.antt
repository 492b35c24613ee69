use Rattle.std.proofs.Common.{◌≡◌, ◌++◌, length}
use Rattle.radio_relay.proofs.Words.{flat_map, orders, order_at}
use Rattle.radio_relay.proofs.orders.plan.Given as goal

-- the orders so far and those for the mounts that are left are all
abbrev pub invariant-mounts : goal.invariant-mounts
invariant-mounts l =
    orders l.settings l.list.keys l.live l.wanted ≡ l.orders.items ++ flat_map (order_at l.settings l.list.keys l.live l.wanted) l.mounts.keys

abbrev pub decreases-mounts : goal.decreases-mounts
decreases-mounts l = length l.mounts.keys
