use Rattle.std.proofs.Common.{rules, vec_len, ◌≡◌, ℕ, ◌+◌, [], ◌∷◌, ◌++◌, List, length, refl, ap, sym, subst, ◌∙◌}
use Rattle.radio_parts_mount.proofs.Words.{MountItem, Attach, Grant, attached_with, granted, session_with, IsListOf}
use Rattle.radio_parts_mount.proofs.ListLemmas.{one_more}
use Rattle.radio_parts_mount.proofs.list.KeptItems.attach.Goals as goal

pub returns : goal.returns
returns c = λ mount session attachments list.
    let kept = c.args.self.now in
    let with_item = kept.items.items ++ Attach c.args.id c.args.attached ∷ [] in
    let session' = session_with mount c.args.id c.args.attached session in
    let attachments' = attached_with c.args.id c.args.attached attachments in
    let fits : vec_len kept.items ≡ length kept.items.items = search rules in
    let grants : c.push_reserved-2.new.self.items ≡ kept.grants.items ++ granted c.args.id (length kept.items.items + 1) ∷ [] =
    c.push_reserved-2.ensures.items
    ∙ ap (λ (place : ℕ). kept.grants.items ++ granted c.args.id place ∷ []) (c.len-place.ensures ∙ c.push_reserved.ensures.len ∙ ap (λ (n : ℕ). n + 1) fits) in
    subst (λ (items : List MountItem). IsListOf kept.queue mount items c.push_reserved-2.new.self.items session' attachments')
    (sym c.push_reserved.ensures.items)
    (subst (λ (has : List Grant). IsListOf kept.queue mount with_item has session' attachments') (sym grants)
    (one_more kept.queue mount (Attach c.args.id c.args.attached) kept.items.items kept.grants.items _ session session' attachments attachments' list
    c.requires.free refl))
