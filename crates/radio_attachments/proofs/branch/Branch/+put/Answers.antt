use Rattle.std.proofs.Common.{◌≡◌, true, false, ◌∷◌, ◌++◌, ap, sym, subst, ◌∙◌}
use Rattle.std.specs.Prelude.{◌==◌}
use Rattle.radio_attachments.specs.declared.attachment.Attachment.{Attachment}
use Rattle.radio_attachments.specs.Rows.{comes_before, AreInOrder, put_in, Forked}
use Rattle.radio_attachments.proofs.AtFork.{at_fork, apart_so}
use Rattle.radio_attachments.proofs.Order.{put_left, put_right, put_there, comes_after, in_order_put}
use Rattle.radio_attachments.proofs.branch.Branch.+put.Goals as goal

pub returns-then-row-deref : goal.returns-then-row-deref
returns-then-row-deref t c =
    let f = at_fork c.self.view_is c.self.invariant (c.in-Some.is) in
    let v = c.in-Some.fork.value in
    let one = c.behind-fork.view_is ∙ c.deref.ensures in
    let two = c.behind-fork-then-row-deref.view_is ∙ c.deref_mut.ensures.value in
    let his = sym (ap (λ (x : Attachment). x.id) c.row-row.ensures) ∙ c.if-row-deref.true ∙ ap (λ (x : Forked). x.row.id) one in
    ap (λ (x : Attachment). c.behind-fork-then-row-deref.inside.less ++ x ∷ c.behind-fork-then-row-deref.inside.more) c.row-row.ensures
    ∙ ap (λ (x : Forked). x.less ++ c.args.boxed ∷ x.more) two
    ∙ sym (put_there c.args.boxed v.less v.row v.more his f.sorted) ∙ ap (put_in c.args.boxed) (sym f.is)

pub invariant_of-self-then-row-deref : goal.invariant_of-self-then-row-deref
invariant_of-self-then-row-deref t c =
    subst AreInOrder (sym (returns-then-row-deref t c)) (in_order_put c.args.boxed c.args.self.now (subst AreInOrder c.self.view_is c.self.invariant))

pub returns-then-comes_before : goal.returns-then-comes_before
returns-then-comes_before t c =
    let f = at_fork c.self.view_is c.self.invariant (c.in-Some.is) in
    let v = c.in-Some.fork.value in
    let one = c.behind-fork-else-deref.view_is ∙ c.deref-else-deref.ensures in
    let two = c.behind-fork-then-comes_before.view_is ∙ c.deref_mut-then-comes_before.ensures.value in
    let first : comes_before c.args.boxed.id v.row.id ≡ true =
    sym (ap (λ (x : Attachment). comes_before x.id v.row.id) c.row-row.ensures)
    ∙ sym (ap (λ (x : Forked). comes_before c.row-row.result.id x.row.id) one) ∙ sym c.comes_before.ensures ∙ c.if-comes_before.true in
    ap (λ ys. ys ++ c.behind-fork-then-comes_before.inside.row ∷ c.behind-fork-then-comes_before.inside.more) c.put.ensures
    ∙ ap (λ (x : Forked). put_in c.args.boxed x.less ++ x.row ∷ x.more) two
    ∙ sym (put_left c.args.boxed v.less v.row v.more first) ∙ ap (put_in c.args.boxed) (sym f.is)

pub invariant_of-self-then-comes_before : goal.invariant_of-self-then-comes_before
invariant_of-self-then-comes_before t c =
    subst AreInOrder (sym (returns-then-comes_before t c)) (in_order_put c.args.boxed c.args.self.now (subst AreInOrder c.self.view_is c.self.invariant))

pub returns-else-comes_before : goal.returns-else-comes_before
returns-else-comes_before t c =
    let f = at_fork c.self.view_is c.self.invariant (c.in-Some.is) in
    let v = c.in-Some.fork.value in
    let before = c.behind-fork.view_is ∙ c.deref.ensures in
    let one = c.behind-fork-else-deref.view_is ∙ c.deref-else-deref.ensures in
    let two = c.behind-fork-else-comes_before.view_is ∙ c.deref_mut-else-comes_before.ensures.value in
    let not_first : comes_before c.args.boxed.id v.row.id ≡ false =
    sym (ap (λ (x : Attachment). comes_before x.id v.row.id) c.row-row.ensures)
    ∙ sym (ap (λ (x : Forked). comes_before c.row-row.result.id x.row.id) one) ∙ sym c.comes_before.ensures ∙ c.if-comes_before.false in
    let apart : (c.args.boxed.id == v.row.id) ≡ false =
    apart_so c.args.boxed.id v.row.id (λ e. c.if-row-deref.false (ap (λ (x : Attachment). x.id) c.row-row.ensures ∙ e ∙ sym (ap (λ (x : Forked). x.row.id) before))) in
    ap (λ ys. c.behind-fork-else-comes_before.inside.less ++ c.behind-fork-else-comes_before.inside.row ∷ ys) c.put-else-comes_before.ensures
    ∙ ap (λ (x : Forked). x.less ++ x.row ∷ put_in c.args.boxed x.more) two
    ∙ sym (put_right c.args.boxed v.less v.row v.more (comes_after c.args.boxed.id v.row.id apart not_first) f.sorted) ∙ ap (put_in c.args.boxed) (sym f.is)

pub invariant_of-self-else-comes_before : goal.invariant_of-self-else-comes_before
invariant_of-self-else-comes_before t c =
    subst AreInOrder (sym (returns-else-comes_before t c)) (in_order_put c.args.boxed c.args.self.now (subst AreInOrder c.self.view_is c.self.invariant))
