use Rattle.std.proofs.Common.{◌≡◌, true, false, find, ap, sym, ◌∙◌}
use Rattle.radio_attachments.specs.Rows.{is_attached, comes_before, Forked}
use Rattle.radio_attachments.proofs.Forks.{finds_less, finds_more}
use Rattle.radio_attachments.proofs.branch.side_of.Goals as goal

pub returns-then-comes_before-clause-found : goal.returns-then-comes_before-clause-found
returns-then-comes_before-clause-found c =
    let v = c.args.node.now in
    let id = c.args.id in
    let first : comes_before id v.row.id ≡ true =
    sym (ap (λ (x : Forked). comes_before id x.row.id) c.node.view_is) ∙ sym c.comes_before.ensures ∙ c.if-comes_before.true in
    finds_less id v.less v.row v.more c.requires.sorted first ∙ sym (ap (λ (x : Forked). find (is_attached id) x.less) c.node.view_is)

pub returns-clause-found : goal.returns-clause-found
returns-clause-found c =
    let v = c.args.node.now in
    let id = c.args.id in
    let not_first : comes_before id v.row.id ≡ false =
    sym (ap (λ (x : Forked). comes_before id x.row.id) c.node.view_is) ∙ sym c.comes_before.ensures ∙ c.if-comes_before.false in
    finds_more id v.less v.row v.more c.requires.sorted c.requires.apart not_first ∙ sym (ap (λ (x : Forked). find (is_attached id) x.more) c.node.view_is)
