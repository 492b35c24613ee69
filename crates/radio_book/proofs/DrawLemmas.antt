-- The reply of a book's part to a draw: read `handed_here` first.
use Rattle.std.proofs.Common.{◌≡◌, ℕ, Option, None, Some, Result, Ok, Err, IfOk, OnOk, refl, ap, sym, subst, ◌∙◌}
use Rattle.std.proofs.lemmas.Option.{none-some, same_Some}
use Rattle.radio_book.proofs.Words.{find, option_map, option_map_or, AllocError, Draw, Reply, MountPart, PartAnswer, Replied, Elsewhere, answered_here, with_mount_part, BookOfMount, CanOwn, IsReplyHere}
use Rattle.radio_attachments.specs.declared.attachment.Attachment.{Attachment}
use Rattle.radio_attachments.specs.Rows.{is_attached}
use Rattle.radio_parts_mount.specs.Steps.{heard_on, part_hands, part_heard, portion_at, portion_reply, KeepsFor}
use Rattle.radio_parts_mount.specs.declared.drawing.Portion.{Portion}
use Rattle.radio_parts_mount.proofs.PartLemmas.{none_changes}

module _ (book : BookOfMount) (p after : MountPart) (id room : ℕ) where
  -- the book with this part
  abbrev it : MountPart → BookOfMount
  it part = with_mount_part (Some part) book

  abbrev handed : Option Attachment → Option Portion
  handed found = option_map (λ (row : Attachment). portion_at p.session row.place room) found

  abbrev answered : Option Attachment → PartAnswer
  answered found = option_map_or (λ (portion : Portion). Replied (portion_reply portion)) (handed found) (Elsewhere (Draw id room))

  by_found : (found : Option Attachment) → find (is_attached id) p.attachments ≡ found → (result : Result (Option Reply) AllocError)
      → IfOk result (λ reply. reply ≡ option_map portion_reply (handed found)) → OnOk result (after ≡ part_heard p id room)
      → IfOk result (λ reply. IsReplyHere (it p) (Draw id room) reply (it after))
  by_found found is (Err refused) reply heard = tt
  by_found None is (Ok (Some reply)) none heard = absurd (none-some reply (sym none))
  by_found (Some row) is (Ok None) some heard = absurd (none-some (portion_reply (portion_at p.session row.place room)) some)
  by_found (Some row) is (Ok (Some reply)) some heard = record {
    replied = ap answered is ∙ ap Replied (sym (same_Some reply (portion_reply (portion_at p.session row.place room)) some));
    becomes = ap it heard;
  }
  by_found None is (Ok None) none heard = record {
    elsewhere = (Draw id room, ap answered is);
    unchanged = ap it (heard ∙ ap (λ rows. let q : MountPart = record p { attachments = rows } in q) (none_changes (is_attached id) (heard_on p.session room) p.attachments is));
  }

-- a book that equals this one, and whose part is present, gives this reply
pub handed_here : (book now : BookOfMount) (p after : MountPart) (id room : ℕ) (result : Result (Option Reply) AllocError)
    → book ≡ now → book.part ≡ Some p
    → (KeepsFor id p → IfOk result (λ reply. reply ≡ option_map portion_reply (part_hands p id room)))
    → (KeepsFor id p → OnOk result (after ≡ part_heard p id room))
    → CanOwn now (Draw id room) → IfOk result (λ reply. IsReplyHere now (Draw id room) reply (with_mount_part (Some after) book))
handed_here book now p after id room result same here reply heard can =
    let can_it : CanOwn book (Draw id room) = subst (λ (b : BookOfMount). CanOwn b (Draw id room)) (sym same) can in
    let keeps : CanOwn (with_mount_part (Some p) book) (Draw id room) =
    subst (λ (part : Option MountPart). CanOwn (with_mount_part part book) (Draw id room)) here can_it in
    subst (λ (b : BookOfMount). IfOk result (λ reply. IsReplyHere b (Draw id room) reply (with_mount_part (Some after) book))) same
    (subst (λ (part : Option MountPart). IfOk result (λ reply. IsReplyHere (with_mount_part part book) (Draw id room) reply (with_mount_part (Some after) book)))
    (sym here) (by_found book p after id room (find (is_attached id) p.attachments) refl result (reply keeps) (heard keeps)))

-- without a part there is no reply
pub nothing_here : (book now : BookOfMount) (id room : ℕ) → book ≡ now → book.part ≡ None → IsReplyHere now (Draw id room) None book
nothing_here book now id room same none =
    subst (λ (b : BookOfMount). IsReplyHere b (Draw id room) None book) same
    (record { elsewhere = (Draw id room, ap (λ (part : Option MountPart). answered_here part (Draw id room)) none); unchanged = refl })
