-- The results of calls, and what passes gain.
use Rattle.std.proofs.Common.{◌≡◌, ℕ, Bool, true, false, List, [], ◌∷◌, ◌++◌, Result, Ok, Err, IfOk, OnErr, refl, ap, sym, subst, ◌∙◌, append_assoc, append-nil}
use Rattle.std.proofs.lemmas.Bool.{false≢true}
use Rattle.radio_locks.proofs.Words.{AllocError, Event, Draw, Reply, World, IsNotedIn, Own, Made, Elsewhere, IsReplied}
use Rattle.radio_events.specs.declared.entry.Entry.{Entry}
use Rattle.radio_book.specs.Receipts.{ReceiptOf, receipt_of}
use Rattle.radio_chronicle.specs.Stamps.{stamp}
use Rattle.radio_chronicle.specs.declared.stamp.Stamp.{Stamp}
use Rattle.radio_locks.specs.Callers.{IsCalled, IsResultOfCall, IsResultOfStep, MayBeRefused, OwnGains, PassesGainWhatWasApplied}

pub gained : PassesGainWhatWasApplied
gained opening before after [] c = ([], c ∙ sym (append-nil before), refl)
gained opening before after (e ∷ entries) c =
    let one = c.1.gains refl in
    let rest = gained opening c.0 after entries c.2 in
    let receipt = receipt_of one.0 e.event e.reply in (
      receipt ∷ rest.0,
      rest.1 ∙ ap (λ (xs : List ReceiptOf). xs ++ rest.0) one.1 ∙ append_assoc before (receipt ∷ []) rest.0,
      ap (λ (xs : List Entry). e ∷ xs) rest.2,
    )

-- a call has ended with a legal reply, or memory was refused
pub called_by : (keeps : Bool) (opening : World) (before now : List ReceiptOf) (event : Event) (result : Result Reply AllocError)
    → IsResultOfStep keeps opening before event result now → IfOk result (λ reply. IsCalled keeps opening before event reply now)
called_by keeps opening before now event (Ok reply) is = record { legal = is.legal; gains = is.gains; unkept = is.unkept }
called_by keeps opening before now event (Err refused) is = tt

-- what a mount's book says of the pass, whether entries are stored or not
pub own_gains : (keeps : Bool) (list : ℕ) (before now : List ReceiptOf) (event : Event) (result : Result Own AllocError)
    → (keeps ≡ true → IfOk result (λ own. IsNotedIn list event own before now)) → (keeps ≡ false → now ≡ before)
    → IfOk result (λ own. OwnGains keeps before event own now)
own_gains true list before now event (Ok (Made reply)) kept unkept = λ keeps. let noted = kept refl in (stamp list noted.0, noted.1)
own_gains true list before now event (Ok (Elsewhere same)) kept unkept = (kept refl).1
own_gains true list before now event (Err refused) kept unkept = tt
own_gains false list before now event (Ok (Made reply)) kept unkept = λ keeps. absurd (false≢true keeps)
own_gains false list before now event (Ok (Elsewhere same)) kept unkept = unkept refl
own_gains false list before now event (Err refused) kept unkept = tt

-- by a draw of which nothing is stored
pub drawn : (keeps : Bool) (opening : World) (before now : List ReceiptOf) (draw : Event) (result : Result Reply AllocError) → keeps ≡ false
    → IfOk result (λ reply. ∥ IsReplied opening draw reply ∥₁) → now ≡ before → IfOk result (λ reply. IsCalled keeps opening before draw reply now)
drawn keeps opening before now draw (Ok reply) unkept legal same = record {
  legal = legal;
  gains = λ kept. let both : true ≡ false = sym kept ∙ unkept in cc;
  unkept = λ none. same;
}
drawn keeps opening before now draw (Err refused) unkept legal same = tt

-- the receipt of a call, which was of the event of which there is a copy
pub receipted : (keeps : Bool) (opening : World) (before now : List ReceiptOf) (event copy : Event) (reply : Reply) (receipt : ReceiptOf)
    → IsCalled keeps opening before event reply now → copy ≡ event → (receipt.event ≡ copy) × (receipt.reply ≡ reply)
    → (keeps ≡ true → (front : List ReceiptOf) (place : Stamp) → now ≡ front ++ receipt_of place copy reply ∷ [] → now ≡ front ++ receipt ∷ [])
    → (keeps ≡ false → receipt.stamp ≡ stamp 0 0) → IsResultOfCall keeps opening before event (Ok receipt) now
receipted keeps opening before now event copy reply receipt called same entry kept unkept = record {
  event_is = entry.0 ∙ same;
  legal = subst (λ (r : Reply). ∥ IsReplied opening event r ∥₁) (sym entry.1) called.legal;
  kept = λ stores.
      let gained = called.gains stores in
      kept stores before gained.0 (gained.1 ∙ ap (λ (e : Event). before ++ receipt_of gained.0 e reply ∷ []) (sym same));
  unkept = λ none. (called.unkept none, unkept none);
  refused = tt;
}

pub draw_refused : (keeps : Bool) (before : List ReceiptOf) (id room : ℕ) (result : Result Reply AllocError) → keeps ≡ false
    → OnErr result (MayBeRefused keeps before (Draw id room))
draw_refused keeps before id room (Ok reply) unkept = tt
draw_refused keeps before id room (Err refused) unkept =
    record { other = λ kept. let both : true ≡ false = sym kept ∙ unkept in cc; takes = λ same small. small }
