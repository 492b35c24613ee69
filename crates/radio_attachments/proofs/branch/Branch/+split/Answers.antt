use Rattle.std.proofs.Common.{◌≡◌, Bool, true, false, ◌∷◌, ◌++◌, not, ap, sym, subst, ◌∙◌}
use Rattle.std.specs.Prelude.{filter}
use Rattle.radio_attachments.specs.declared.attachment.Attachment.{Attachment}
use Rattle.radio_attachments.specs.Rows.{AreInOrder, Forked}
use Rattle.radio_attachments.proofs.AtFork.{at_fork, sides_split, sides_kept}
use Rattle.radio_attachments.proofs.Forks.{in_order_filtered, splits_out, splits_apart}
use Rattle.radio_attachments.proofs.branch.Branch.+split.Goals as goal

pub joined-requires : goal.joined-requires
joined-requires g t c =
    let p = g.T.AttachmentTest.passes c.args.test.now in
    let s = sides_split p (at_fork c.self.view_is c.self.invariant (sym c.take.ensures.value ∙ c.in-Some.is)) (c.behind-fork.view_is ∙ c.deref_mut.ensures.value)
    (c.behind-fork-2.view_is ∙ c.deref_mut-2.ensures.value) (c.behind-fork-3.view_is ∙ c.deref.ensures) c.split-less.ensures.rest c.split-less.ensures.passed
    c.split-more.ensures.rest c.split-more.ensures.passed in
    let kept = sides_kept s (c.behind-fork-then-passes.view_is ∙ c.deref_mut-then-passes.ensures.value)
    (c.behind-fork-then-passes-2.view_is ∙ c.deref_mut-then-passes-2.ensures.value) c.replace-rest_less.ensures.value c.replace-rest_more.ensures.value
    (sym (ap p s.tested) ∙ sym c.passes.ensures ∙ c.if-passes.true) in
    subst AreInOrder (sym kept) (in_order_filtered (λ row. not (p row)) _ s.sorted)

pub returns-then-passes-clause-rest : goal.returns-then-passes-clause-rest
returns-then-passes-clause-rest g t c =
    let p = g.T.AttachmentTest.passes c.args.test.now in
    let s = sides_split p (at_fork c.self.view_is c.self.invariant (sym c.take.ensures.value ∙ c.in-Some.is)) (c.behind-fork.view_is ∙ c.deref_mut.ensures.value)
    (c.behind-fork-2.view_is ∙ c.deref_mut-2.ensures.value) (c.behind-fork-3.view_is ∙ c.deref.ensures) c.split-less.ensures.rest c.split-less.ensures.passed
    c.split-more.ensures.rest c.split-more.ensures.passed in
    let kept = sides_kept s (c.behind-fork-then-passes.view_is ∙ c.deref_mut-then-passes.ensures.value)
    (c.behind-fork-then-passes-2.view_is ∙ c.deref_mut-then-passes-2.ensures.value) c.replace-rest_less.ensures.value c.replace-rest_more.ensures.value
    (sym (ap p s.tested) ∙ sym c.passes.ensures ∙ c.if-passes.true) in
    c.joined-then-passes.view_is ∙ c.joined.ensures ∙ kept ∙ ap (filter (λ row. not (p row))) (sym s.is)

pub returns-then-passes-clause-passed : goal.returns-then-passes-clause-passed
returns-then-passes-clause-passed g t c =
    let p = g.T.AttachmentTest.passes c.args.test.now in
    let s = sides_split p (at_fork c.self.view_is c.self.invariant (sym c.take.ensures.value ∙ c.in-Some.is)) (c.behind-fork.view_is ∙ c.deref_mut.ensures.value)
    (c.behind-fork-2.view_is ∙ c.deref_mut-2.ensures.value) (c.behind-fork-3.view_is ∙ c.deref.ensures) c.split-less.ensures.rest c.split-less.ensures.passed
    c.split-more.ensures.rest c.split-more.ensures.passed in
    let v = c.in-Some.fork.value in
    let passed : p v.row ≡ true = sym (ap p s.tested) ∙ sym c.passes.ensures ∙ c.if-passes.true in
    let four = c.behind-fork-then-passes.view_is ∙ c.deref_mut-then-passes.ensures.value in
    let five = c.behind-fork-then-passes-2.view_is ∙ c.deref_mut-then-passes-2.ensures.value in
    let less_3 : c.behind-fork-then-passes-2.inside.less ≡ filter p v.less = ap (λ (x : Forked). x.less) five ∙ c.replace-rest_less.ensures.after ∙ s.less_out in
    let row_4 : c.behind-fork-then-passes-2.inside.row ≡ v.row = ap (λ (x : Forked). x.row) five ∙ ap (λ (x : Forked). x.row) four ∙ s.row in
    let more_3 : c.replace-rest_more.new.dest ≡ filter p v.more = c.replace-rest_more.ensures.after ∙ s.more_out in
    ap (λ ys. ys ++ c.behind-fork-then-passes-2.inside.row ∷ c.replace-rest_more.new.dest) less_3
    ∙ ap (λ (row : Attachment). filter p v.less ++ row ∷ c.replace-rest_more.new.dest) row_4
    ∙ ap (λ ys. filter p v.less ++ v.row ∷ ys) more_3 ∙ sym (splits_out p v.less v.row v.more passed) ∙ ap (filter p) (sym s.is)

pub invariant_of-result : goal.invariant_of-result
invariant_of-result g t c =
    subst AreInOrder (sym (returns-then-passes-clause-passed g t c))
    (in_order_filtered (g.T.AttachmentTest.passes c.args.test.now) c.args.self.now (subst AreInOrder c.self.view_is c.self.invariant))

pub joined-requires-2 : goal.joined-requires-2
joined-requires-2 g t c =
    let p = g.T.AttachmentTest.passes c.args.test.now in
    let s = sides_split p (at_fork c.self.view_is c.self.invariant (sym c.take.ensures.value ∙ c.in-Some.is)) (c.behind-fork.view_is ∙ c.deref_mut.ensures.value)
    (c.behind-fork-2.view_is ∙ c.deref_mut-2.ensures.value) (c.behind-fork-3.view_is ∙ c.deref.ensures) c.split-less.ensures.rest c.split-less.ensures.passed
    c.split-more.ensures.rest c.split-more.ensures.passed in
    let v = c.in-Some.fork.value in
    let failed : p v.row ≡ false = sym (ap p s.tested) ∙ sym c.passes.ensures ∙ c.if-passes.false in
    subst AreInOrder (splits_apart p v.less v.row v.more failed ∙ sym (ap (λ ys. ys ++ c.split-more.result) s.less_out ∙ ap (λ ys. filter p v.less ++ ys) s.more_out))
    (in_order_filtered p (v.less ++ v.row ∷ v.more) s.sorted)

pub returns-clause-rest : goal.returns-clause-rest
returns-clause-rest g t c =
    let p = g.T.AttachmentTest.passes c.args.test.now in
    let s = sides_split p (at_fork c.self.view_is c.self.invariant (sym c.take.ensures.value ∙ c.in-Some.is)) (c.behind-fork.view_is ∙ c.deref_mut.ensures.value)
    (c.behind-fork-2.view_is ∙ c.deref_mut-2.ensures.value) (c.behind-fork-3.view_is ∙ c.deref.ensures) c.split-less.ensures.rest c.split-less.ensures.passed
    c.split-more.ensures.rest c.split-more.ensures.passed in
    let v = c.in-Some.fork.value in
    let q : Attachment → Bool = λ row. not (p row) in
    let failed : p v.row ≡ false = sym (ap p s.tested) ∙ sym c.passes.ensures ∙ c.if-passes.false in
    ap (λ ys. ys ++ c.behind-fork-2.inside.row ∷ c.split-more.new.self) s.less
    ∙ ap (λ (row : Attachment). filter q v.less ++ row ∷ c.split-more.new.self) s.row
    ∙ ap (λ ys. filter q v.less ++ v.row ∷ ys) s.more ∙ sym (splits_out q v.less v.row v.more (ap not failed)) ∙ ap (filter q) (sym s.is)

pub returns-clause-passed : goal.returns-clause-passed
returns-clause-passed g t c =
    let p = g.T.AttachmentTest.passes c.args.test.now in
    let s = sides_split p (at_fork c.self.view_is c.self.invariant (sym c.take.ensures.value ∙ c.in-Some.is)) (c.behind-fork.view_is ∙ c.deref_mut.ensures.value)
    (c.behind-fork-2.view_is ∙ c.deref_mut-2.ensures.value) (c.behind-fork-3.view_is ∙ c.deref.ensures) c.split-less.ensures.rest c.split-less.ensures.passed
    c.split-more.ensures.rest c.split-more.ensures.passed in
    let v = c.in-Some.fork.value in
    let failed : p v.row ≡ false = sym (ap p s.tested) ∙ sym c.passes.ensures ∙ c.if-passes.false in
    c.joined-2.ensures ∙ ap (λ ys. ys ++ c.split-more.result) s.less_out ∙ ap (λ ys. filter p v.less ++ ys) s.more_out
    ∙ sym (splits_apart p v.less v.row v.more failed) ∙ ap (filter p) (sym s.is)

pub invariant_of-self-2 : goal.invariant_of-self-2
invariant_of-self-2 g t c =
    subst AreInOrder (sym (returns-clause-rest g t c))
    (in_order_filtered (λ row. not (g.T.AttachmentTest.passes c.args.test.now row)) c.args.self.now (subst AreInOrder c.self.view_is c.self.invariant))
