-- Bytes that arrive on a connection have one reading.
use Rattle.std.proofs.Common.{◌≡◌, ℕ, List, ◌++◌, drop, subst, ap, sym, ◌∙◌, refl, inl, inr, Result, Ok, Err, IsErr}
use Rattle.radio_heads.specs.declared.outcome.Progress.{Progress}
use Rattle.radio_heads.specs.declared.outcome.Progress.TheVariants.{Whole}
use Rattle.radio_heads.specs.declared.outcome.HeadFault.{HeadFault}
use Rattle.radio_heads.specs.Head.{RequestParts, ShowsRequest}
use Rattle.radio_heads.specs.Reading.{IsReading}
use Rattle.radio_heads.specs.Laws.{ReadingsAgree}
use Rattle.radio_session.specs.declared.session.Hears.{Hears}
use Rattle.radio_session.specs.declared.session.Hears.TheVariants.{Head, Body, Nothing}
use Rattle.radio_session.specs.Conversation.{Conversation}
use Rattle.radio_session.specs.Hearing.{EventReading, HearsAs, head_heard, request_heard, nothing_held}
use Rattle.radio_session.specs.Laws.{HearingIsOne}

-- two faults of a head are read alike
pub faults-alike : (conversation : Conversation) (bytes : List ℕ) (r s : Result (Progress RequestParts) HeadFault) → IsErr r → IsErr s
    → head_heard conversation bytes r ≡ head_heard conversation bytes s
faults-alike conversation bytes (Err e) (Err f) h k = refl
faults-alike conversation bytes (Err e) (Ok p) h k = cc
faults-alike conversation bytes (Ok p) s h k = cc

-- a whole head with bytes after it is read as a request
pub heard_whole : (conversation start : Conversation) (bytes all behind : List ℕ) (request : RequestParts) (n : ℕ) (heard : EventReading)
    → request_heard start request behind ≡ heard → all ≡ conversation.held ++ bytes → IsReading ShowsRequest all (Ok (Whole request n))
    → start ≡ nothing_held conversation → behind ≡ drop n all → HearsAs Head conversation bytes heard
heard_whole conversation start bytes all behind request n heard e together reading same rest = (
  Ok (Whole request n),
  subst (λ (xs : List ℕ). IsReading ShowsRequest xs (Ok (Whole request n))) together reading,
  sym e
      ∙ ap (λ (c : Conversation). request_heard c request behind) same
      ∙ ap (request_heard (nothing_held conversation) request) (rest ∙ ap (drop n) together),
)

module _ (agree : ReadingsAgree ShowsRequest) where
  -- two readings of the same bytes as a head are one
  pub heard-alike : (conversation : Conversation) (bytes : List ℕ) (r s : Result (Progress RequestParts) HeadFault) → IsReading ShowsRequest bytes r
      → IsReading ShowsRequest bytes s → head_heard conversation bytes r ≡ head_heard conversation bytes s
  heard-alike conversation bytes r s p q = elim (agree bytes r s p q) [
    | inl same ↦ ap (head_heard conversation bytes) same
    | inr faults ↦ faults-alike conversation bytes r s faults.0 faults.1
  ]

  heard_as_one : (hears : Hears) (conversation : Conversation) (bytes : List ℕ) (h k : EventReading) → HearsAs hears conversation bytes h
      → HearsAs hears conversation bytes k → h ≡ k
  heard_as_one Nothing conversation bytes h k e f = e ∙ sym f
  heard_as_one (Body body) conversation bytes h k e f = e ∙ sym f
  heard_as_one Head conversation bytes h k e f =
      e.2 ∙ heard-alike conversation (conversation.held ++ bytes) e.0 f.0 e.1 f.1 ∙ sym f.2

  pub hearing_is_one : HearingIsOne
  hearing_is_one conversation bytes one other h k = heard_as_one conversation.hears conversation bytes one other h k
