use Rattle.std.proofs.Common.{◌≡◌, ◌++◌, length, ap, sym, subst, ◌∙◌, arith, length-append}
use Rattle.radio_attachments.specs.Rows.{AreInOrder, Forked}
use Rattle.radio_attachments.specs.Shape.{rows_in, rows_of}
use Rattle.radio_attachments.proofs.Order.{behind_row, before_row}
use Rattle.radio_attachments.proofs.branch.+joined.Goals as goal

pub joined-requires : goal.joined-requires
joined-requires t c =
    let less : c.args.less ≡ rows_in c.in-Some-Some.first.value = sym c.less.view_is ∙ ap rows_of c.in-Some-Some.is-0 in
    let more : c.args.more ≡ rows_in c.in-Some-Some.second.value = sym c.more.view_is ∙ ap rows_of c.in-Some-Some.is-1 in
    let v = c.in-Some-Some.first.value in
    let between : c.replace-between.result ≡ v.more =
    c.replace-between.ensures.value ∙ ap (λ (x : Forked). x.more) (c.behind-first-then-deref.view_is ∙ c.deref_mut.ensures.value) in
    let counted = ap length less ∙ length-append v.less _ in
    let now = ap length between in
    let others = ap length more in (
      grind (arith, c.decreases, counted, now, others),
      subst (λ ys. AreInOrder (ys ++ rows_in c.in-Some-Some.second.value)) (sym between)
          (behind_row v.less v.row v.more (rows_in c.in-Some-Some.second.value)
          (subst (λ ys. AreInOrder (rows_in v ++ ys)) more (subst (λ ys. AreInOrder (ys ++ c.args.more)) less c.requires))),
    )

pub joined-requires-in-Some-Some : goal.joined-requires-in-Some-Some
joined-requires-in-Some-Some t c =
    let less : c.args.less ≡ rows_in c.in-Some-Some.first.value = sym c.less.view_is ∙ ap rows_of c.in-Some-Some.is-0 in
    let more : c.args.more ≡ rows_in c.in-Some-Some.second.value = sym c.more.view_is ∙ ap rows_of c.in-Some-Some.is-1 in
    let v = c.in-Some-Some.second.value in
    let between : c.replace-between-in-Some-Some.result ≡ v.less =
    c.replace-between-in-Some-Some.ensures.value ∙ ap (λ (x : Forked). x.less) (c.behind-second-in-Some-Some.view_is ∙ c.deref_mut-in-Some-Some.ensures.value) in
    let counted = ap length more ∙ length-append v.less _ in
    let now = ap length between in
    let others = ap length less in (
      grind (arith, c.decreases, counted, now, others),
      subst (λ ys. AreInOrder (rows_in c.in-Some-Some.first.value ++ ys)) (sym between)
          (before_row (rows_in c.in-Some-Some.first.value) v.less v.row v.more
          (subst (λ ys. AreInOrder (rows_in c.in-Some-Some.first.value ++ ys)) more (subst (λ ys. AreInOrder (ys ++ c.args.more)) less c.requires))),
    )
