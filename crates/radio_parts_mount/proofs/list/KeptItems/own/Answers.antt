use Rattle.std.proofs.Common.{List, refl, sym, subst}
use Rattle.radio_parts_mount.proofs.Words.{MountItem, Own, after_own, IsListOf}
use Rattle.radio_parts_mount.proofs.ListLemmas.{one_more}
use Rattle.radio_parts_mount.proofs.list.KeptItems.own.Goals as goal

pub returns : goal.returns
returns c = λ mount session attachments list replied.
    let kept = c.args.self.now in
    let later = after_own kept.queue mount c.args.moment session attachments c.args.entry.event in
    subst (λ (items : List MountItem). IsListOf kept.queue mount items kept.grants.items later.session later.attachments) (sym c.push_reserved.ensures.items)
    (one_more kept.queue mount (Own c.args.grant c.args.moment c.args.entry) kept.items.items kept.grants.items kept.grants.items session later.session
    attachments later.attachments list ((c.args.id, c.requires.client, c.requires.has), replied) refl)
