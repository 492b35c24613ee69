use Rattle.std.proofs.Common.{◌≤◌, ◌-◌, sym, subst, ◌∙◌}
use Rattle.radio_attachments.specs.Rows.{lags}
use Rattle.radio_attachments.proofs.Bounds.{IsBound, none_lag, none_pass}
use Rattle.radio_attachments.proofs.Sides.{none_goes}
use Rattle.radio_attachments.proofs.tree.AttachmentTree.take_lagging.Goals as goal

pub returns-then-saturating_sub-queue-clause-rest : goal.returns-then-saturating_sub-queue-clause-rest
returns-then-saturating_sub-queue-clause-rest c =
    let within : c.args.end - c.self.inside.least ≤ c.args.queue = subst (λ n. n ≤ c.args.queue) c.saturating_sub.ensures c.if-saturating_sub-queue.true in
    sym (none_goes (lags c.args.end c.args.queue) c.args.self.now
    (none_lag c.args.end c.args.queue c.self.inside.least within c.args.self.now (subst (IsBound c.self.inside.least) c.self.view_is c.self.invariant)))

pub returns-then-saturating_sub-queue-clause-lagging : goal.returns-then-saturating_sub-queue-clause-lagging
returns-then-saturating_sub-queue-clause-lagging c =
    let within : c.args.end - c.self.inside.least ≤ c.args.queue = subst (λ n. n ≤ c.args.queue) c.saturating_sub.ensures c.if-saturating_sub-queue.true in
    c.new.ensures ∙ sym (none_pass (lags c.args.end c.args.queue) c.args.self.now
    (none_lag c.args.end c.args.queue c.self.inside.least within c.args.self.now (subst (IsBound c.self.inside.least) c.self.view_is c.self.invariant)))
