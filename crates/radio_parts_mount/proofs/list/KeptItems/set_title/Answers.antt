use Rattle.std.proofs.Common.{Some, List, refl, sym, subst}
use Rattle.radio_parts_mount.proofs.Words.{option_map, with_title, MountItem, Titled, IsListOf}
use Rattle.radio_parts_mount.proofs.ListLemmas.{one_more}
use Rattle.radio_parts_mount.proofs.list.KeptItems.set_title.Goals as goal

pub returns : goal.returns
returns c = λ mount session attachments list.
    let kept = c.args.self.now in
    let session' = option_map (with_title (Some c.args.title)) session in
    subst (λ (items : List MountItem). IsListOf kept.queue mount items kept.grants.items session' attachments) (sym c.push_reserved.ensures.items)
    (one_more kept.queue mount (Titled c.args.title) kept.items.items kept.grants.items kept.grants.items session session' attachments attachments list tt refl)
