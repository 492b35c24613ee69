use Rattle.std.proofs.Common.{◌≡◌, ◌∷◌, ◌++◌, ap, sym, subst, ◌∙◌}
use Rattle.std.specs.Prelude.{filter}
use Rattle.radio_attachments.specs.declared.attachment.Attachment.{Attachment}
use Rattle.radio_attachments.specs.Rows.{AreInOrder, Forked}
use Rattle.radio_attachments.proofs.Cuts.{under, over, put_between}
use Rattle.radio_attachments.proofs.Order.{in_order_put}
use Rattle.radio_attachments.proofs.branch.Branch.put_on_top.Goals as goal

pub returns : goal.returns
returns c =
    let rows = c.args.self.now in
    let one = c.behind-node.view_is ∙ c.deref_mut.ensures.value in
    let two = c.behind-node-2.view_is ∙ c.deref_mut-3.ensures.value in
    let row : c.behind-node-2.inside.row ≡ c.args.boxed = ap (λ (x : Forked). x.row) two ∙ ap (λ (x : Forked). x.row) one ∙ c.boxed.view_is in
    let less : c.behind-node-2.inside.less ≡ filter (under c.args.boxed.id) rows =
    ap (λ (x : Forked). x.less) two ∙ c.replace-less.ensures.value ∙ c.cut_at-more.ensures.less
    ∙ ap (λ (x : Attachment). filter (under x.id) rows) c.row.ensures in
    let more : c.cut_at-more.result ≡ filter (over c.args.boxed.id) rows =
    c.cut_at-more.ensures.more ∙ ap (λ (x : Attachment). filter (over x.id) rows) c.row.ensures in
    ap (λ ys. ys ++ c.behind-node-2.inside.row ∷ c.cut_at-more.result) less
    ∙ ap (λ (x : Attachment). filter (under c.args.boxed.id) rows ++ x ∷ c.cut_at-more.result) row
    ∙ ap (λ ys. filter (under c.args.boxed.id) rows ++ c.args.boxed ∷ ys) more ∙ put_between c.args.boxed rows c.cut_at-more.ensures.once

pub invariant_of-self : goal.invariant_of-self
invariant_of-self c = subst AreInOrder (sym (returns c)) (in_order_put c.args.boxed c.args.self.now c.cut_at-more.ensures.once)
