use Rattle.std.proofs.Common.{OnErr, subst}
use Rattle.radio_parts_changes.proofs.Words.{World, IsUnfit}
use Rattle.radio_parts_changes.proofs.LentState.{lent_holds, lent_seen, not_lent}
use Rattle.radio_parts_changes.proofs.state.ServerState.exchange.Goals as goal

pub invariant_of-self : goal.invariant_of-self
invariant_of-self c =
    let registry = c.self.inside.registry in
    lent_holds c.args.part registry.settings registry.live c.self.inside.listeners c.exchange.new.self c.exchange.result c.exchange.ensures.ok c.exchange.ensures.err
    c.self.invariant.0 c.self.invariant.1

pub returns-clause-ok : goal.returns-clause-ok
returns-clause-ok c =
    lent_seen c.args.part c.self.inside.registry c.self.inside.listeners c.exchange.new.self c.exchange.result c.exchange.ensures.ok c.args.self.now c.self.view_is

pub returns-clause-err : goal.returns-clause-err
returns-clause-err c =
    not_lent c.self.inside.registry c.self.inside.listeners c.exchange.new.self c.exchange.result c.exchange.ensures.err c.args.self.now c.self.view_is

pub returns-clause-unfit : goal.returns-clause-unfit
returns-clause-unfit c =
    subst (λ (w : World). OnErr c.exchange.result (IsUnfit c.args.part w.station.live)) c.self.view_is c.exchange.ensures.unfit
