use Rattle.std.proofs.Common.{find, Some, ap, sym, ◌∙◌}
use Rattle.radio_attachments.specs.Rows.{is_attached, Forked}
use Rattle.radio_attachments.proofs.AtFork.{at_fork}
use Rattle.radio_attachments.proofs.Forks.{finds_here}
use Rattle.radio_attachments.proofs.branch.Branch.get.Goals as goal

pub returns-then-id-deref : goal.returns-then-id-deref
returns-then-id-deref c =
    let f = at_fork c.branch.view_is c.branch.invariant c.in-Some.is in
    let v = c.in-Some.fork.value in
    let one = c.behind-fork.view_is ∙ c.deref.ensures in
    let two = c.behind-fork-then-id-deref.view_is ∙ c.deref-then-id-deref.ensures in
    let his = sym (c.if-id-deref.true ∙ ap (λ (x : Forked). x.row.id) one) in
    ap (λ (x : Forked). Some x.row) two ∙ sym (finds_here c.args.id v.less v.row v.more f.sorted his)
    ∙ ap (find (is_attached c.args.id)) (sym f.is) ∙ sym c.branches.invariant
