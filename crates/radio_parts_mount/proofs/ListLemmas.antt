-- a list with one item more
use Rattle.std.proofs.Common.{◌≡◌, ◌==◌, ℕ, Bool, true, false, Option, Some, None, List, [], ◌∷◌, ◌++◌, refl, ap, sym, subst, ◌∙◌, suc, ◌+◌, length, arith}
use Rattle.radio_parts_mount.proofs.Words.{nat_tests, filter, not, if◌then◌else◌, Attachment, is_attached, Session, MountItem, Grant, PartList, ByList, by_list, nothing, played, played_all, attached_without}
use Rattle.radio_parts_mount.proofs.Words.{session_without, May, Replays, IsList, IsListIf, IsListOf}
use Rattle.radio_parts_mount.specs.declared.list.KeptItems.{KeptItems}

module _ (queue : ℕ) (mount : List ℕ) (item : MountItem) where
  gives_more : (s : ByList) (items : List MountItem) → played_all queue mount s (items ++ item ∷ []) ≡ played queue mount (played_all queue mount s items) item
  gives_more s [] = refl
  gives_more s (x ∷ items) = gives_more (played queue mount s x) items

  replays_more : (s : ByList) (items : List MountItem) → Replays queue mount s items → May mount (played_all queue mount s items) item
      → Replays queue mount s (items ++ item ∷ [])
  replays_more s [] replays may = (may, tt)
  replays_more s (x ∷ items) replays may = (replays.0, replays_more (played queue mount s x) items replays.1 may)

  plus_one : (n : ℕ) → suc (n + 1) ≡ suc n + 1
  plus_one n = omega arith

  longer_by : (items : List MountItem) → length (items ++ item ∷ []) ≡ length items + 1
  longer_by [] = refl
  longer_by (x ∷ items) = ap suc (longer_by items) ∙ plus_one (length items)

  pub one_more : (items : List MountItem) (grants grants' : List Grant) (session session' : Option Session) (attachments attachments' : List Attachment)
      → IsListOf queue mount items grants session attachments → May mount (by_list session attachments grants (length items)) item
      → played queue mount (by_list session attachments grants (length items)) item ≡ by_list session' attachments' grants' (length items + 1)
      → IsListOf queue mount (items ++ item ∷ []) grants' session' attachments'
  one_more items grants grants' session session' attachments attachments' list may is = record {
    replays = replays_more nothing items list.replays (subst (λ (s : ByList). May mount s item) (sym list.gives) may);
    gives = gives_more nothing items ∙ ap (λ (s : ByList). played queue mount s item) list.gives ∙ is
        ∙ ap (by_list session' attachments' grants') (sym (longer_by items));
  }

module _ (mount : List ℕ) (session : Option Session) (attachments : List Attachment) where
  -- a list with more room is the same
  pub known : (list : PartList) (kept now : KeptItems) → list.kept ≡ Some kept
      → ((now.items.items ≡ kept.items.items) × (now.grants.items ≡ kept.grants.items) × (now.queue ≡ kept.queue))
      → IsList list mount session attachments → IsListOf now.queue mount now.items.items now.grants.items session attachments
  known list kept now is same told =
      let here = subst (λ (k : Option KeptItems). IsListIf k mount session attachments) is told in
      subst (λ (queue : ℕ). IsListOf queue mount now.items.items now.grants.items session attachments) (sym same.2)
      (subst (λ (grants : List Grant). IsListOf kept.queue mount now.items.items grants session attachments) (sym same.1)
      (subst (λ (items : List MountItem). IsListOf kept.queue mount items kept.grants.items session attachments) (sym same.0) here))

fed_by_itself : (n : ℕ) → (n == n) ≡ true
fed_by_itself n = grind (arith, nat_tests)

-- the source is detached
pub ended : (list : PartList) (mount : List ℕ) (attachments : List Attachment) (session : Option Session) (its : Session) (number : ℕ)
    → session ≡ Some its → its.number ≡ number
    → IsList list mount (session_without number false session) (attached_without number false session attachments) → IsList list mount None attachments
ended list mount attachments session its number is named told =
    subst (λ (b : Bool). IsList list mount (if b then None else Some its) (if b then attachments else filter (λ row. not (is_attached number row)) attachments))
    (ap (λ n. n == number) named ∙ fed_by_itself number)
    (subst (λ (s : Option Session). IsList list mount (session_without number false s) (attached_without number false s attachments)) is told)
