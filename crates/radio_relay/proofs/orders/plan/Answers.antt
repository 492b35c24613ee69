use Rattle.std.proofs.Common.{List, ◌++◌, ap, sym, ◌∙◌}
use Rattle.radio_relay.proofs.Words.{flat_map, orders, order_at}
use Rattle.radio_relay.specs.declared.orders.RelayOrder.{RelayOrder}
use Rattle.radio_relay.proofs.orders.plan.Goals as goal

pub mounts-init : goal.mounts-init
unfolding orders
mounts-init c =
    let order = order_at c.args.settings.now c.args.list.now.keys c.args.live.now c.args.wanted.now in
    ap (flat_map order) (sym c.in_ok-mounts.ensures)
    ∙ ap (λ (found : List RelayOrder). found ++ flat_map order c.in_ok-mounts.mounts.keys) (sym c.new-orders.ensures.items)
