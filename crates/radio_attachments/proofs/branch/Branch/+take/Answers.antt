use Rattle.std.proofs.Common.{◌≡◌, ◌∷◌, ◌++◌, not, Some, ap, sym, subst, ◌∙◌}
use Rattle.std.specs.Prelude.{find, filter}
use Rattle.radio_attachments.specs.Rows.{is_attached, AreInOrder, Forked}
use Rattle.radio_attachments.proofs.AtFork.{at_fork, its_side, not_its}
use Rattle.radio_attachments.proofs.Forks.{finds_here, finds_less, finds_more, goes_here, goes_less, goes_more, in_order_filtered}
use Rattle.radio_attachments.proofs.branch.Branch.+take.Goals as goal

pub joined-requires : goal.joined-requires
joined-requires t c =
    let f = at_fork c.self.view_is c.self.invariant (sym c.take.ensures.value ∙ c.in-Some.is) in
    let v = c.in-Some.fork.value in
    let two = c.behind-fork-then-id-deref.view_is ∙ c.deref_mut.ensures.value in
    let three = c.behind-fork-then-id-deref-2.view_is ∙ c.deref_mut-then-id-deref.ensures.value in
    let his = sym (c.if-id-deref.true ∙ ap (λ (x : Forked). x.row.id) (c.behind-fork.view_is ∙ c.deref.ensures)) in
    let less : c.replace-less.result ≡ v.less = c.replace-less.ensures.value ∙ ap (λ (x : Forked). x.less) two in
    let more : c.replace-more.result ≡ v.more = c.replace-more.ensures.value ∙ ap (λ (x : Forked). x.more) three ∙ ap (λ (x : Forked). x.more) two in
    subst AreInOrder (sym (ap (λ ys. ys ++ c.replace-more.result) less ∙ ap (λ ys. v.less ++ ys) more))
    (subst AreInOrder (goes_here c.args.id v.less v.row v.more f.sorted his)
    (in_order_filtered (λ row. not (is_attached c.args.id row)) (v.less ++ v.row ∷ v.more) f.sorted))

pub returns-then-id-deref-clause-rest : goal.returns-then-id-deref-clause-rest
returns-then-id-deref-clause-rest t c =
    let f = at_fork c.self.view_is c.self.invariant (sym c.take.ensures.value ∙ c.in-Some.is) in
    let v = c.in-Some.fork.value in
    let two = c.behind-fork-then-id-deref.view_is ∙ c.deref_mut.ensures.value in
    let three = c.behind-fork-then-id-deref-2.view_is ∙ c.deref_mut-then-id-deref.ensures.value in
    let his = sym (c.if-id-deref.true ∙ ap (λ (x : Forked). x.row.id) (c.behind-fork.view_is ∙ c.deref.ensures)) in
    let less : c.replace-less.result ≡ v.less = c.replace-less.ensures.value ∙ ap (λ (x : Forked). x.less) two in
    let more : c.replace-more.result ≡ v.more = c.replace-more.ensures.value ∙ ap (λ (x : Forked). x.more) three ∙ ap (λ (x : Forked). x.more) two in
    c.joined-then-id-deref.view_is ∙ c.joined.ensures ∙ ap (λ ys. ys ++ c.replace-more.result) less ∙ ap (λ ys. v.less ++ ys) more
    ∙ sym (goes_here c.args.id v.less v.row v.more f.sorted his) ∙ ap (filter (λ row. not (is_attached c.args.id row))) (sym f.is)

pub returns-then-id-deref-clause-found : goal.returns-then-id-deref-clause-found
returns-then-id-deref-clause-found t c =
    let f = at_fork c.self.view_is c.self.invariant (sym c.take.ensures.value ∙ c.in-Some.is) in
    let v = c.in-Some.fork.value in
    let two = c.behind-fork-then-id-deref.view_is ∙ c.deref_mut.ensures.value in
    let three = c.behind-fork-then-id-deref-2.view_is ∙ c.deref_mut-then-id-deref.ensures.value in
    let his = sym (c.if-id-deref.true ∙ ap (λ (x : Forked). x.row.id) (c.behind-fork.view_is ∙ c.deref.ensures)) in
    ap (λ (x : Forked). Some x.row) three ∙ ap (λ (x : Forked). Some x.row) two
    ∙ sym (finds_here c.args.id v.less v.row v.more f.sorted his) ∙ ap (find (is_attached c.args.id)) (sym f.is)

pub returns-then-comes_before-clause-rest : goal.returns-then-comes_before-clause-rest
returns-then-comes_before-clause-rest t c =
    let f = at_fork c.self.view_is c.self.invariant (sym c.take.ensures.value ∙ c.in-Some.is) in
    let v = c.in-Some.fork.value in
    let two = c.behind-fork-then-comes_before.view_is ∙ c.deref_mut-then-comes_before.ensures.value in
    let first = its_side c.args.id (c.behind-fork-else-id-deref.view_is ∙ c.deref-else-id-deref.ensures) c.comes_before.ensures c.if-comes_before.true in
    ap (λ ys. ys ++ c.behind-fork-then-comes_before.inside.row ∷ c.behind-fork-then-comes_before.inside.more) c.take-found.ensures.rest
    ∙ ap (λ (x : Forked). filter (λ row. not (is_attached c.args.id row)) x.less ++ x.row ∷ x.more) two
    ∙ sym (goes_less c.args.id v.less v.row v.more f.sorted first) ∙ ap (filter (λ row. not (is_attached c.args.id row))) (sym f.is)

pub invariant_of-self-then-comes_before : goal.invariant_of-self-then-comes_before
invariant_of-self-then-comes_before t c =
    subst AreInOrder (sym (returns-then-comes_before-clause-rest t c))
    (in_order_filtered (λ row. not (is_attached c.args.id row)) c.args.self.now (subst AreInOrder c.self.view_is c.self.invariant))

pub returns-then-comes_before-clause-found : goal.returns-then-comes_before-clause-found
returns-then-comes_before-clause-found t c =
    let f = at_fork c.self.view_is c.self.invariant (sym c.take.ensures.value ∙ c.in-Some.is) in
    let v = c.in-Some.fork.value in
    let two = c.behind-fork-then-comes_before.view_is ∙ c.deref_mut-then-comes_before.ensures.value in
    let first = its_side c.args.id (c.behind-fork-else-id-deref.view_is ∙ c.deref-else-id-deref.ensures) c.comes_before.ensures c.if-comes_before.true in
    c.take-found.ensures.found ∙ ap (λ (x : Forked). find (is_attached c.args.id) x.less) two
    ∙ sym (finds_less c.args.id v.less v.row v.more f.sorted first) ∙ ap (find (is_attached c.args.id)) (sym f.is)

pub returns-else-comes_before-clause-rest : goal.returns-else-comes_before-clause-rest
returns-else-comes_before-clause-rest t c =
    let f = at_fork c.self.view_is c.self.invariant (sym c.take.ensures.value ∙ c.in-Some.is) in
    let v = c.in-Some.fork.value in
    let two = c.behind-fork-else-comes_before.view_is ∙ c.deref_mut-else-comes_before.ensures.value in
    let not_first = its_side c.args.id (c.behind-fork-else-id-deref.view_is ∙ c.deref-else-id-deref.ensures) c.comes_before.ensures c.if-comes_before.false in
    let apart = not_its c.args.id (c.behind-fork.view_is ∙ c.deref.ensures) c.if-id-deref.false in
    ap (λ ys. c.behind-fork-else-comes_before.inside.less ++ c.behind-fork-else-comes_before.inside.row ∷ ys) c.take-found-else-comes_before.ensures.rest
    ∙ ap (λ (x : Forked). x.less ++ x.row ∷ filter (λ row. not (is_attached c.args.id row)) x.more) two
    ∙ sym (goes_more c.args.id v.less v.row v.more f.sorted apart not_first) ∙ ap (filter (λ row. not (is_attached c.args.id row))) (sym f.is)

pub invariant_of-self-else-comes_before : goal.invariant_of-self-else-comes_before
invariant_of-self-else-comes_before t c =
    subst AreInOrder (sym (returns-else-comes_before-clause-rest t c))
    (in_order_filtered (λ row. not (is_attached c.args.id row)) c.args.self.now (subst AreInOrder c.self.view_is c.self.invariant))

pub returns-else-comes_before-clause-found : goal.returns-else-comes_before-clause-found
returns-else-comes_before-clause-found t c =
    let f = at_fork c.self.view_is c.self.invariant (sym c.take.ensures.value ∙ c.in-Some.is) in
    let v = c.in-Some.fork.value in
    let two = c.behind-fork-else-comes_before.view_is ∙ c.deref_mut-else-comes_before.ensures.value in
    let not_first = its_side c.args.id (c.behind-fork-else-id-deref.view_is ∙ c.deref-else-id-deref.ensures) c.comes_before.ensures c.if-comes_before.false in
    let apart = not_its c.args.id (c.behind-fork.view_is ∙ c.deref.ensures) c.if-id-deref.false in
    c.take-found-else-comes_before.ensures.found ∙ ap (λ (x : Forked). find (is_attached c.args.id) x.more) two
    ∙ sym (finds_more c.args.id v.less v.row v.more f.sorted apart not_first) ∙ ap (find (is_attached c.args.id)) (sym f.is)
