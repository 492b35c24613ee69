use Rattle.std.proofs.Common.{◌≡◌, ℕ, List, Some, ◌∷◌, ◌++◌, ap, sym, subst, ◌∙◌, find}
use Rattle.radio_tables.specs.Lists.{update_first}
use Rattle.radio_attachments.specs.declared.attachment.Attachment.{Attachment}
use Rattle.radio_attachments.specs.Rows.{is_attached, at_place, AreInOrder, Forked}
use Rattle.radio_attachments.proofs.AtFork.{at_fork, its_side, not_its}
use Rattle.radio_attachments.proofs.Forks.{finds_here, finds_less, finds_more, changes_here, changes_less, changes_more, visited_here, visited_there, visited_in_order}
use Rattle.radio_attachments.proofs.branch.Branch.+visit.Goals as goal

pub returns-then-id-deref : goal.returns-then-id-deref
returns-then-id-deref g t c =
    let f = at_fork c.self.view_is c.self.invariant (c.in-Some.is) in
    let v = c.in-Some.fork.value in
    let id = c.args.id in
    let one = c.behind-fork.view_is ∙ c.deref.ensures in
    let two = c.behind-fork-then-id-deref.view_is ∙ c.deref_mut.ensures.value in
    let his = sym (c.if-id-deref.true ∙ ap (λ (x : Forked). x.row.id) one) in
    let found : find (is_attached id) c.args.self.now ≡ Some v.row = ap (find (is_attached id)) f.is ∙ finds_here id v.less v.row v.more f.sorted his in
    visited_here g.V.PlaceVisit.visits id c.args.visitor.now c.visit.new.self c.args.self.now _ v.row c.visit.new.place c.visit.result found
    (ap (λ (x : Forked). x.less ++ at_place c.visit.new.place x.row ∷ x.more) two
    ∙ sym (changes_here id v.less v.row v.more f.sorted his (at_place c.visit.new.place))
    ∙ ap (update_first (is_attached id) (at_place c.visit.new.place)) (sym f.is))
    (subst (λ (n : ℕ). g.V.PlaceVisit.visits c.args.visitor.now n c.visit.result c.visit.new.self c.visit.new.place)
    (ap (λ (x : Forked). x.row.place) two) c.visit.ensures)

pub invariant_of-self-then-id-deref : goal.invariant_of-self-then-id-deref
invariant_of-self-then-id-deref g t c =
    visited_in_order g.V.PlaceVisit.visits c.args.id c.args.visitor.now c.visit.new.self c.args.self.now _ (Some c.visit.result) (returns-then-id-deref g t c)
    (subst AreInOrder c.self.view_is c.self.invariant)

pub returns-then-comes_before : goal.returns-then-comes_before
returns-then-comes_before g t c =
    let f = at_fork c.self.view_is c.self.invariant (c.in-Some.is) in
    let v = c.in-Some.fork.value in
    let id = c.args.id in
    let two = c.behind-fork-then-comes_before.view_is ∙ c.deref_mut-then-comes_before.ensures.value in
    let first = its_side id (c.behind-fork-2.view_is ∙ c.deref-2.ensures) c.comes_before.ensures c.if-comes_before.true in
    let side : c.behind-fork-then-comes_before.inside.less ≡ v.less = ap (λ (x : Forked). x.less) two in
    let whole : (ys : List Attachment) → (ys ++ c.behind-fork-then-comes_before.inside.row ∷ c.behind-fork-then-comes_before.inside.more) ≡ ys ++ v.row ∷ v.more =
    λ ys. ap (λ (x : Forked). ys ++ x.row ∷ x.more) two in
    visited_there g.V.PlaceVisit.visits id c.args.visitor.now c.visit-then-comes_before.new.visitor c.args.self.now _
    c.behind-fork-then-comes_before.inside.less c.visit-then-comes_before.new.self c.visit-then-comes_before.result
    (ap (find (is_attached id)) f.is ∙ finds_less id v.less v.row v.more f.sorted first ∙ ap (find (is_attached id)) (sym side))
    (λ place is. whole c.visit-then-comes_before.new.self ∙ ap (λ ys. ys ++ v.row ∷ v.more) (is ∙ ap (update_first (is_attached id) (at_place place)) side)
    ∙ sym (changes_less id v.less v.row v.more f.sorted first (at_place place)) ∙ ap (update_first (is_attached id) (at_place place)) (sym f.is))
    (λ is. whole c.visit-then-comes_before.new.self ∙ ap (λ ys. ys ++ v.row ∷ v.more) (is ∙ side) ∙ sym f.is)
    c.visit-then-comes_before.ensures

pub invariant_of-self-then-comes_before : goal.invariant_of-self-then-comes_before
invariant_of-self-then-comes_before g t c =
    visited_in_order g.V.PlaceVisit.visits c.args.id c.args.visitor.now c.visit-then-comes_before.new.visitor c.args.self.now _ c.visit-then-comes_before.result
    (returns-then-comes_before g t c) (subst AreInOrder c.self.view_is c.self.invariant)

pub returns : goal.returns
returns g t c =
    let f = at_fork c.self.view_is c.self.invariant (c.in-Some.is) in
    let v = c.in-Some.fork.value in
    let id = c.args.id in
    let two = c.behind-fork-3.view_is ∙ c.deref_mut-2.ensures.value in
    let not_first = its_side id (c.behind-fork-2.view_is ∙ c.deref-2.ensures) c.comes_before.ensures c.if-comes_before.false in
    let apart = not_its id (c.behind-fork.view_is ∙ c.deref.ensures) c.if-id-deref.false in
    let side : c.behind-fork-3.inside.more ≡ v.more = ap (λ (x : Forked). x.more) two in
    let whole : (ys : List Attachment) → (c.behind-fork-3.inside.less ++ c.behind-fork-3.inside.row ∷ ys) ≡ v.less ++ v.row ∷ ys =
    λ ys. ap (λ (x : Forked). x.less ++ x.row ∷ ys) two in
    visited_there g.V.PlaceVisit.visits id c.args.visitor.now c.visit-2.new.visitor c.args.self.now _
    c.behind-fork-3.inside.more c.visit-2.new.self c.visit-2.result
    (ap (find (is_attached id)) f.is ∙ finds_more id v.less v.row v.more f.sorted apart not_first ∙ ap (find (is_attached id)) (sym side))
    (λ place is. whole c.visit-2.new.self ∙ ap (λ ys. v.less ++ v.row ∷ ys) (is ∙ ap (update_first (is_attached id) (at_place place)) side)
    ∙ sym (changes_more id v.less v.row v.more f.sorted apart not_first (at_place place)) ∙ ap (update_first (is_attached id) (at_place place)) (sym f.is))
    (λ is. whole c.visit-2.new.self ∙ ap (λ ys. v.less ++ v.row ∷ ys) (is ∙ side) ∙ sym f.is)
    c.visit-2.ensures

pub invariant_of-self-2 : goal.invariant_of-self-2
invariant_of-self-2 g t c =
    visited_in_order g.V.PlaceVisit.visits c.args.id c.args.visitor.now c.visit-2.new.visitor c.args.self.now _ c.visit-2.result
    (returns g t c) (subst AreInOrder c.self.view_is c.self.invariant)
