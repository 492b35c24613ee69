-- A part's own steps: those of others change nothing, and whoever is set back after a draw is where it was.
use Rattle.std.proofs.Common.{◌≡◌, ◌⊎◌, inl, inr, ℕ, Bool, true, false, List, [], ◌∷◌, Option, None, Some, Result, Ok, Err, IfOk, OnOk, refl, ap, sym, subst, ◌∙◌}
use Rattle.std.specs.Prelude.{find, if◌then◌else◌}
use Rattle.radio_tables.specs.Lists.{update_first}
use Rattle.radio_tables.proofs.FindLaws.{unchanged}
use Rattle.radio_attachments.specs.declared.attachment.Attachment.{Attachment}
use Rattle.radio_attachments.specs.Rows.{is_attached, at_place}
use Rattle.radio_chronicle.proofs.Words.{HoldsNoText, Event, Reply, Deny, Noted, heard_on, is_fed_by, is_spent_with, part_after, part_answers, MountPart, drawer_in, is_part_event, once, set_back_in, IsKeptUnlessReplied}
use Rattle.radio_chronicle.proofs.Words.{IsNoPartsOwn}
use Rattle.radio_events.specs.declared.event.Event.TheVariants.{Arrive, Source, Push, SourceEnd, Title, Listen, Draw, Command, Leave, RelayUp, RelayDown, Clock}
use Rattle.radio_policy.specs.declared.rule.Rule.TheVariants.{NumbersSpent}
use Rattle.radio_parts_mount.proofs.PartLemmas.{none_changes}
use Rattle.radio_parts_mount.specs.declared.step.PartAnswer.{PartAnswer}
use Rattle.radio_parts_mount.specs.declared.step.PartAnswer.TheVariants.{Replied, Elsewhere}
use Rattle.std.specs.declared.alloc.AllocError.{AllocError}
use Rattle.radio_chronicle.specs.declared.own_steps.Twice.{Twice}
use Rattle.radio_chronicle.specs.declared.own_steps.Twice.TheVariants.{Replied as RepliedTwice, Elsewhere as GivenBack}

-- two changes of the same element, one after the other, are one
module _ {X : Type 0} (p : X → Bool) (f g : X → X) (same : (x : X) → p (f x) ≡ p x) where
  both_at : (x : X) (xs : List X) (b : Bool) → p x ≡ b → update_first p g (update_first p f xs) ≡ update_first p (λ y. g (f y)) xs
      → update_first p g (if b then f x ∷ xs else x ∷ update_first p f xs) ≡ (if b then g (f x) ∷ xs else x ∷ update_first p (λ y. g (f y)) xs)
  both_at x xs true e later = ap (λ (b : Bool). if b then g (f x) ∷ xs else f x ∷ update_first p g xs) (same x ∙ e)
  both_at x xs false e later =
      ap (λ (b : Bool). if b then g x ∷ update_first p f xs else x ∷ update_first p g (update_first p f xs)) e ∙ ap (λ (ys : List X). x ∷ ys) later

  both : (xs : List X) → update_first p g (update_first p f xs) ≡ update_first p (λ y. g (f y)) xs
  both [] = refl
  both (x ∷ xs) = both_at x xs (p x) refl (both xs)

module _ (queue moment : ℕ) (p : MountPart) where
  by_feeding : (fed : Bool) (reply : Reply) (done : MountPart) (event e : Event) → (if fed then Replied reply else Elsewhere event) ≡ Elsewhere e
      → (if fed then done else p) ≡ p
  by_feeding true reply done event e is = let none : Replied reply ≡ Elsewhere e = is in cc
  by_feeding false reply done event e is = refl

  by_row : (id room : ℕ) (e : Event) (found : Option Attachment) → find (is_attached id) p.attachments ≡ found → part_answers p (Draw id room) ≡ Elsewhere e
      → part_after queue moment p (Draw id room) ≡ p
  by_row id room e None none is =
      ap (λ (rows : List Attachment). record p { attachments = rows }) (none_changes (is_attached id) (heard_on p.session room) p.attachments none)
  by_row id room e (Some row) some is = let other : part_answers p (Draw id room) ≡ Elsewhere e = is in cc

  -- if the client is not attached, nothing changes
  others_change_nothing : (event e : Event) → part_answers p event ≡ Elsewhere e → part_after queue moment p event ≡ p
  others_change_nothing (Push id block) e is = by_feeding (is_fed_by id p) (if is_spent_with block p then Deny NumbersSpent else Noted) _ (Push id block) e is
  others_change_nothing (Title id text) e is = by_feeding (is_fed_by id p) Noted _ (Title id text) e is
  others_change_nothing (Draw id room) e is = by_row id room e (find (is_attached id) p.attachments) refl is
  others_change_nothing (Arrive peer) e is = refl
  others_change_nothing (Source asked) e is = refl
  others_change_nothing (SourceEnd id) e is = refl
  others_change_nothing (Listen asked) e is = refl
  others_change_nothing (Command asked) e is = refl
  others_change_nothing (Leave id) e is = refl
  others_change_nothing (RelayUp mount shown) e is = refl
  others_change_nothing (RelayDown id) e is = refl
  others_change_nothing (Clock ms) e is = refl

  no_text : (spent : Bool) → HoldsNoText (if spent then Deny NumbersSpent else Noted)
  no_text true = tt
  no_text false = tt

  said_by_feeder : (fed : Bool) (said reply : Reply) (event : Event) → HoldsNoText said → (if fed then Replied said else Elsewhere event) ≡ Replied reply
      → HoldsNoText reply
  said_by_feeder true said reply event short is = let same : said ≡ reply = cc in subst HoldsNoText same short
  said_by_feeder false said reply event short is = let none : Elsewhere event ≡ Replied reply = is in cc

  set_back_at : (id room : ℕ) (row : Attachment) → find (is_attached id) p.attachments ≡ Some row
      → update_first (is_attached id) (at_place row.place) (update_first (is_attached id) (heard_on p.session room) p.attachments) ≡ p.attachments
  set_back_at id room row some =
      both (is_attached id) (heard_on p.session room) (at_place row.place) (λ x. refl) p.attachments
      ∙ unchanged (is_attached id) (λ x. at_place row.place (heard_on p.session room x)) row refl p.attachments some

  abbrev IsUndone : Event → Reply → Type 0
  IsUndone event reply = HoldsNoText reply ⊎ (set_back_in (drawer_in p event) (part_after queue moment p event) ≡ p)

  undone_by_row : (id room : ℕ) (reply : Reply) (found : Option Attachment) → find (is_attached id) p.attachments ≡ found
      → part_answers p (Draw id room) ≡ Replied reply → IsUndone (Draw id room) reply
  undone_by_row id room reply None none is = let other : part_answers p (Draw id room) ≡ Replied reply = is in cc
  undone_by_row id room reply (Some row) some is =
      inr (rw some (ap (λ (rows : List Attachment). record p { attachments = rows }) (set_back_at id room row some)))

  -- a reply is copied without memory, or the listener is where it was, once it is set back
  pub undone : (event : Event) (reply : Reply) → part_answers p event ≡ Replied reply → IsUndone event reply
  undone (Push id block) reply is = inl (said_by_feeder (is_fed_by id p) _ reply (Push id block) (no_text (is_spent_with block p)) is)
  undone (Title id text) reply is = inl (said_by_feeder (is_fed_by id p) Noted reply (Title id text) tt is)
  undone (Draw id room) reply is = undone_by_row id room reply (find (is_attached id) p.attachments) refl is
  undone (Arrive peer) reply is = let none : Elsewhere (Arrive peer) ≡ Replied reply = is in cc
  undone (Source asked) reply is = let none : Elsewhere (Source asked) ≡ Replied reply = is in cc
  undone (SourceEnd id) reply is = let none : Elsewhere (SourceEnd id) ≡ Replied reply = is in cc
  undone (Listen asked) reply is = let none : Elsewhere (Listen asked) ≡ Replied reply = is in cc
  undone (Command asked) reply is = let none : Elsewhere (Command asked) ≡ Replied reply = is in cc
  undone (Leave id) reply is = let none : Elsewhere (Leave id) ≡ Replied reply = is in cc
  undone (RelayUp mount shown) reply is = let none : Elsewhere (RelayUp mount shown) ≡ Replied reply = is in cc
  undone (RelayDown id) reply is = let none : Elsewhere (RelayDown id) ≡ Replied reply = is in cc
  undone (Clock ms) reply is = let none : Elsewhere (Clock ms) ≡ Replied reply = is in cc

-- a part that does not reply is as it was
pub kept_in : (queue moment : ℕ) (p after : MountPart) (event : Event) (answered : Result PartAnswer AllocError)
    → IfOk answered (λ answer. answer ≡ part_answers p event) → OnOk answered (after ≡ part_after queue moment p event)
    → IfOk answered (λ answer. IsKeptUnlessReplied answer (Some p) (Some after))
kept_in queue moment p after event (Ok (Replied reply)) answer becomes = tt
kept_in queue moment p after event (Ok (Elsewhere other)) answer becomes = ap Some (becomes ∙ others_change_nothing queue moment p event other (sym answer))
kept_in queue moment p after event (Err refused) answer becomes = tt

pub twice_kept_in : (queue moment : ℕ) (p after : MountPart) (event : Event) (stepped : Result Twice AllocError)
    → IfOk stepped (λ twice. once twice ≡ part_answers p event) → OnOk stepped (after ≡ part_after queue moment p event)
    → IfOk stepped (λ twice. IsKeptUnlessReplied (once twice) (Some p) (Some after))
twice_kept_in queue moment p after event (Ok (RepliedTwice one other)) answer becomes = tt
twice_kept_in queue moment p after event (Ok (GivenBack other)) answer becomes =
    ap Some (becomes ∙ others_change_nothing queue moment p event other (sym answer))
twice_kept_in queue moment p after event (Err refused) answer becomes = tt

-- a part does not reply to an event that is not its own
not_its_own : (p : MountPart) (event : Event) → is_part_event event ≡ false → part_answers p event ≡ Elsewhere event
not_its_own p (Push id block) is = let none : true ≡ false = is in cc
not_its_own p (Title id text) is = let none : true ≡ false = is in cc
not_its_own p (Draw id room) is = let none : true ≡ false = is in cc
not_its_own p (Arrive peer) is = refl
not_its_own p (Source asked) is = refl
not_its_own p (SourceEnd id) is = refl
not_its_own p (Listen asked) is = refl
not_its_own p (Command asked) is = refl
not_its_own p (Leave id) is = refl
not_its_own p (RelayUp mount shown) is = refl
not_its_own p (RelayDown id) is = refl
not_its_own p (Clock ms) is = refl

pub no_parts_own : (event : Event) → is_part_event event ≡ false → IsNoPartsOwn event
no_parts_own event is None = refl
no_parts_own event is (Some p) = not_its_own p event is
