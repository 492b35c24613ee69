use Rattle.std.proofs.Common.{◌≡◌, true, ◌∷◌, ◌++◌, ap, sym, subst, ◌∙◌}
use Rattle.std.specs.Prelude.{filter}
use Rattle.radio_attachments.specs.Rows.{comes_before, AreInOrder, Forked}
use Rattle.radio_attachments.proofs.AtFork.{at_fork, its_side}
use Rattle.radio_attachments.proofs.Cuts.{under, over, under_first, over_first, under_later, over_later, under_it, over_it, neither}
use Rattle.radio_attachments.proofs.Forks.{in_order_filtered}
use Rattle.radio_attachments.proofs.branch.Branch.+cut_at.Goals as goal

pub returns-then-comes_before-clause-less : goal.returns-then-comes_before-clause-less
returns-then-comes_before-clause-less t c =
    let f = at_fork c.self.view_is c.self.invariant (sym c.take.ensures.value ∙ c.in-Some.is) in
    let v = c.in-Some.fork.value in
    let first = its_side c.args.id (c.behind-fork.view_is ∙ c.deref.ensures) c.comes_before.ensures c.if-comes_before.true in
    let one = c.behind-fork-then-comes_before.view_is ∙ c.deref_mut.ensures.value in
    let two = c.behind-fork-then-comes_before-2.view_is ∙ c.deref_mut-then-comes_before.ensures.value in
    c.replace-then-comes_before.view_is ∙ c.replace.ensures.value ∙ ap (λ (x : Forked). x.less) two ∙ c.cut_at-more.ensures.less
    ∙ ap (λ (x : Forked). filter (under c.args.id) x.less) one ∙ sym (under_first c.args.id v.less v.row v.more f.sorted first)
    ∙ ap (filter (under c.args.id)) (sym f.is)

pub returns-then-comes_before-clause-more : goal.returns-then-comes_before-clause-more
returns-then-comes_before-clause-more t c =
    let f = at_fork c.self.view_is c.self.invariant (sym c.take.ensures.value ∙ c.in-Some.is) in
    let v = c.in-Some.fork.value in
    let first = its_side c.args.id (c.behind-fork.view_is ∙ c.deref.ensures) c.comes_before.ensures c.if-comes_before.true in
    let one = c.behind-fork-then-comes_before.view_is ∙ c.deref_mut.ensures.value in
    let two = c.behind-fork-then-comes_before-2.view_is ∙ c.deref_mut-then-comes_before.ensures.value in
    let less : c.replace.new.dest ≡ filter (over c.args.id) v.less =
    c.replace.ensures.after ∙ c.cut_at-more.ensures.more ∙ ap (λ (x : Forked). filter (over c.args.id) x.less) one in
    ap (λ ys. ys ++ c.behind-fork-then-comes_before-2.inside.row ∷ c.behind-fork-then-comes_before-2.inside.more) less
    ∙ ap (λ (x : Forked). filter (over c.args.id) v.less ++ x.row ∷ x.more) two ∙ ap (λ (x : Forked). filter (over c.args.id) v.less ++ x.row ∷ x.more) one
    ∙ sym (over_first c.args.id v.less v.row v.more f.sorted first) ∙ ap (filter (over c.args.id)) (sym f.is)

pub invariant_of-result : goal.invariant_of-result
invariant_of-result t c =
    subst AreInOrder (sym (returns-then-comes_before-clause-more t c))
    (in_order_filtered (over c.args.id) c.args.self.now (subst AreInOrder c.self.view_is c.self.invariant))

pub returns-then-comes_before-2-clause-less : goal.returns-then-comes_before-2-clause-less
returns-then-comes_before-2-clause-less t c =
    let f = at_fork c.self.view_is c.self.invariant (sym c.take.ensures.value ∙ c.in-Some.is) in
    let v = c.in-Some.fork.value in
    let after : comes_before v.row.id c.args.id ≡ true =
    sym (ap (λ (x : Forked). comes_before x.row.id c.args.id) (c.behind-fork-2.view_is ∙ c.deref-2.ensures)) ∙ sym c.comes_before-2.ensures ∙ c.if-comes_before-2.true in
    let one = c.behind-fork-then-comes_before-2-2.view_is ∙ c.deref_mut-then-comes_before-2.ensures.value in
    ap (λ ys. c.behind-fork-then-comes_before-2-2.inside.less ++ c.behind-fork-then-comes_before-2-2.inside.row ∷ ys) c.cut_at-more-then-comes_before-2.ensures.less
    ∙ ap (λ (x : Forked). x.less ++ x.row ∷ filter (under c.args.id) x.more) one
    ∙ sym (under_later c.args.id v.less v.row v.more f.sorted after) ∙ ap (filter (under c.args.id)) (sym f.is)

pub invariant_of-self-then-comes_before-2 : goal.invariant_of-self-then-comes_before-2
invariant_of-self-then-comes_before-2 t c =
    subst AreInOrder (sym (returns-then-comes_before-2-clause-less t c))
    (in_order_filtered (under c.args.id) c.args.self.now (subst AreInOrder c.self.view_is c.self.invariant))

pub returns-then-comes_before-2-clause-more : goal.returns-then-comes_before-2-clause-more
returns-then-comes_before-2-clause-more t c =
    let f = at_fork c.self.view_is c.self.invariant (sym c.take.ensures.value ∙ c.in-Some.is) in
    let v = c.in-Some.fork.value in
    let after : comes_before v.row.id c.args.id ≡ true =
    sym (ap (λ (x : Forked). comes_before x.row.id c.args.id) (c.behind-fork-2.view_is ∙ c.deref-2.ensures)) ∙ sym c.comes_before-2.ensures ∙ c.if-comes_before-2.true in
    let one = c.behind-fork-then-comes_before-2-2.view_is ∙ c.deref_mut-then-comes_before-2.ensures.value in
    c.cut_at-more-then-comes_before-2.ensures.more ∙ ap (λ (x : Forked). filter (over c.args.id) x.more) one
    ∙ sym (over_later c.args.id v.less v.row v.more f.sorted after) ∙ ap (filter (over c.args.id)) (sym f.is)

pub returns-clause-less : goal.returns-clause-less
returns-clause-less t c =
    let f = at_fork c.self.view_is c.self.invariant (sym c.take.ensures.value ∙ c.in-Some.is) in
    let v = c.in-Some.fork.value in
    let not_first = its_side c.args.id (c.behind-fork.view_is ∙ c.deref.ensures) c.comes_before.ensures c.if-comes_before.false in
    let not_after = sym (ap (λ (x : Forked). comes_before x.row.id c.args.id) (c.behind-fork-2.view_is ∙ c.deref-2.ensures)) ∙ sym c.comes_before-2.ensures ∙ c.if-comes_before-2.false in
    let one = c.behind-fork-3.view_is ∙ c.deref_mut-2.ensures.value in
    c.replace-3.view_is ∙ c.replace-2.ensures.value ∙ ap (λ (x : Forked). x.less) one
    ∙ sym (under_it c.args.id v.less v.row v.more f.sorted (neither c.args.id v.row.id not_first not_after)) ∙ ap (filter (under c.args.id)) (sym f.is)

pub returns-clause-more : goal.returns-clause-more
returns-clause-more t c =
    let f = at_fork c.self.view_is c.self.invariant (sym c.take.ensures.value ∙ c.in-Some.is) in
    let v = c.in-Some.fork.value in
    let not_first = its_side c.args.id (c.behind-fork.view_is ∙ c.deref.ensures) c.comes_before.ensures c.if-comes_before.false in
    let not_after = sym (ap (λ (x : Forked). comes_before x.row.id c.args.id) (c.behind-fork-2.view_is ∙ c.deref-2.ensures)) ∙ sym c.comes_before-2.ensures ∙ c.if-comes_before-2.false in
    let one = c.behind-fork-3.view_is ∙ c.deref_mut-2.ensures.value in
    let two = c.behind-fork-4.view_is ∙ c.deref_mut-3.ensures.value in
    c.replace-4.ensures.value ∙ ap (λ (x : Forked). x.more) two ∙ ap (λ (x : Forked). x.more) one
    ∙ sym (over_it c.args.id v.less v.row v.more f.sorted (neither c.args.id v.row.id not_first not_after)) ∙ ap (filter (over c.args.id)) (sym f.is)
