-- What a part has done by itself, as its book's: it replied, or it is not here.
use Rattle.std.proofs.Common.{◌≡◌, ℕ, List, Option, Result, Ok, Err, IfOk, OnOk, refl, ap, sym, subst, ◌∙◌}
use Rattle.radio_book.proofs.Words.{AllocError, Event, Reply, MountPart, PartAnswer, Replied, Elsewhere, answered_here, once, part_here, CanDrawHere, IsKeptUnlessReplied, IsNoPartsOwn, noted_own, once_in, own_in}
use Rattle.radio_book.proofs.Words.{with_mount_part, BookOfMount, CanOwn, IsDone, IsNotedIn, IsNotHere, IsOwnStep, ReceiptOf}
use Rattle.radio_chronicle.specs.Stamps.{stamp}
use Rattle.radio_chronicle.specs.declared.own_steps.Twice.{Twice}
use Rattle.radio_book.specs.declared.mount_book.Own.{Own}

-- the answer of the part of this book, which becomes that
record IsAnswerOf (book : BookOfMount) (later : Option MountPart) (event : Event) (answered : Result PartAnswer AllocError) : Type 0 where
  answer : IfOk answered (λ answer. answer ≡ answered_here book.part event)
  becomes : OnOk answered (later ≡ part_here book.queue book.moment book.part event)
  kept : IfOk answered (λ answer. IsKeptUnlessReplied answer book.part later)

module _ (book : BookOfMount) (later : Option MountPart) (event : Event) where
  replied_here : (reply : Reply) → IsAnswerOf book later event (Ok (Replied reply)) → IsOwnStep book event reply (with_mount_part later book)
  replied_here reply is = record { replied = sym is.answer; becomes = ap (λ (part : Option MountPart). with_mount_part part book) is.becomes }

  not_here : (other : Event) → IsAnswerOf book later event (Ok (Elsewhere other)) → IsNotHere book event (with_mount_part later book)
  not_here other is = record { elsewhere = (other, sym is.answer); unchanged = ap (λ (part : Option MountPart). with_mount_part part book) is.kept }

  done_so : (copy : Event) (answered : Result PartAnswer AllocError) → IsAnswerOf book later event answered
      → IfOk (own_in copy answered) (λ own. IsDone book event own (with_mount_part later book))
  done_so copy (Ok (Replied reply)) is = replied_here reply is
  done_so copy (Ok (Elsewhere other)) is = not_here other is
  done_so copy (Err refused) is = tt

  -- what a call ensures of the answer, if the data after a drawing listener's place are not forgotten
  abbrev pub Answers : Result PartAnswer AllocError → Type 0
  Answers answered = (CanDrawHere book.part event → IfOk answered (λ answer. answer ≡ answered_here book.part event))
      × (CanDrawHere book.part event → OnOk answered (later ≡ part_here book.queue book.moment book.part event))
      × (CanDrawHere book.part event → IfOk answered (λ answer. IsKeptUnlessReplied answer book.part later))

  answer_of : (answered : Result PartAnswer AllocError) → Answers answered → CanOwn book event → IsAnswerOf book later event answered
  answer_of answered is can = record { answer = is.0 can; becomes = is.1 can; kept = is.2 can }

  -- a book that is seen as this one has done so
  pub done_here : (now : BookOfMount) (copy : Event) (answered : Result PartAnswer AllocError) (result : Result Own AllocError)
      → book ≡ now → result ≡ own_in copy answered → Answers answered
      → CanOwn now event → IfOk result (λ own. IsDone now event own (with_mount_part later book))
  done_here now copy answered result is comes answers can =
      let can_it : CanOwn book event = subst (λ (b : BookOfMount). CanOwn b event) (sym is) can in
      subst (λ (b : BookOfMount). IfOk result (λ own. IsDone b event own (with_mount_part later book))) is
      (subst (λ (r : Result Own AllocError). IfOk r (λ own. IsDone book event own (with_mount_part later book))) (sym comes)
      (done_so copy answered (answer_of answered answers can_it)))

-- the event of another is not done here
pub others_not_here : (book : BookOfMount) (event : Event) → IsNoPartsOwn event → IsNotHere book event book
others_not_here book event others = record { elsewhere = (event, others book.part); unchanged = refl }

pub once_answers : (answer : PartAnswer) (stepped : Result Twice AllocError) → IfOk stepped (λ twice. once twice ≡ answer) → IfOk (once_in stepped) (λ a. a ≡ answer)
once_answers answer (Ok twice) is = is
once_answers answer (Err refused) is = tt

pub once_becomes : (before after : Option MountPart) (stepped : Result Twice AllocError) → OnOk stepped (after ≡ before) → OnOk (once_in stepped) (after ≡ before)
once_becomes before after (Ok twice) is = is
once_becomes before after (Err refused) is = tt

pub once_kept : (before after : Option MountPart) (stepped : Result Twice AllocError) → IfOk stepped (λ twice. IsKeptUnlessReplied (once twice) before after)
    → IfOk (once_in stepped) (λ answer. IsKeptUnlessReplied answer before after)
once_kept before after (Ok twice) is = is
once_kept before after (Err refused) is = tt

-- the receipt of a copy of the event, at a place of the book's list
pub noted_in : (book now : BookOfMount) (serial : ℕ) (event held : Event) (before after : List ReceiptOf) (result : Result Own AllocError)
    → book ≡ now → held ≡ event → IfOk result (λ own. after ≡ noted_own (stamp book.list serial) held own before)
    → IfOk result (λ own. IsNotedIn now.list event own before after)
noted_in book now serial event held before after (Ok own) is same noted = (
  serial,
  noted
      ∙ ap (λ (e : Event). noted_own (stamp book.list serial) e own before) same
      ∙ ap (λ (b : BookOfMount). noted_own (stamp b.list serial) event own before) is,
)
noted_in book now serial event held before after (Err refused) is same noted = tt
