use Rattle.std.proofs.Common.{rules, ◌≡◌, Bool, ◌+◌, [], ◌∷◌, ◌++◌, List, length, ap, sym, subst}
use Rattle.std.proofs.lemmas.Fn.{filter_same}
use Rattle.radio_parts_mount.proofs.Words.{MountItem, Detach, Grant, attached_without, by_list, session_without, without_grant, IsListOf}
use Rattle.radio_parts_mount.proofs.ListLemmas.{one_more}
use Rattle.radio_parts_mount.proofs.list.KeptItems.detach.Goals as goal

pub returns : goal.returns
returns c = λ mount session attachments list.
    let kept = c.args.self.now in
    let with_item = kept.items.items ++ Detach c.args.id c.args.grant c.lagged_if-rule.result ∷ [] in
    let session' = session_without c.args.id c.args.has_lagged session in
    let attachments' = attached_without c.args.id c.args.has_lagged session attachments in
    let grants : c.retain.new.self.items ≡ without_grant c.args.id kept.grants.items =
    filter_same _ _ _ (λ x b f' k. search rules) _ _ c.retain.ensures.filtered in
    subst (λ (items : List MountItem). IsListOf kept.queue mount items c.retain.new.self.items session' attachments') (sym c.push_reserved.ensures.items)
    (subst (λ (has : List Grant). IsListOf kept.queue mount with_item has session' attachments') (sym grants)
    (one_more kept.queue mount (Detach c.args.id c.args.grant c.lagged_if-rule.result) kept.items.items kept.grants.items _ session session' attachments
    attachments' list c.requires.has
    (ap (λ (b : Bool). by_list (session_without c.args.id b session) (attached_without c.args.id b session attachments)
    (without_grant c.args.id kept.grants.items) (length kept.items.items + 1)) c.lagged_if-rule.ensures)))
