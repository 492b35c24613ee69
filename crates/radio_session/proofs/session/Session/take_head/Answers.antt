use Rattle.std.proofs.Common.{◌≡◌, ℕ, ◌≤◌, Ok, List, ◌++◌, length, take, drop, ap, sym, ◌∙◌, subst, arith}
use Rattle.std.proofs.lemmas.List.{take_at}
use Rattle.radio_heads.specs.declared.outcome.Progress.{Progress}
use Rattle.radio_heads.specs.declared.outcome.Progress.TheVariants.{Whole}
use Rattle.radio_heads.specs.Search.{HasNoEnd}
use Rattle.radio_heads.specs.Head.{RequestParts, ShowsRequest}
use Rattle.radio_heads.specs.Reading.{IsReading, IsWithin, IsUnfinished}
use Rattle.std.proofs.lemmas.Result.{IfOk-weaker}
use Rattle.radio_session.specs.Conversation.{Conversation}
use Rattle.radio_session.specs.Hearing.{nothing_held}
use Rattle.radio_session.proofs.HearingLemmas.{heard_whole}
use Rattle.radio_session.proofs.session.Session.take_head.Goals as goal

-- a head lies within the bytes that it was read from
within : (bytes : List ℕ) (p : Progress RequestParts) (head : RequestParts) (n : ℕ) → IsWithin bytes p → p ≡ Whole head n → n ≤ length bytes
within bytes p head n h e = subst (IsWithin bytes) e h

-- the bytes held before contain no end of a head
pub read_request_from-requires-clause-searched : goal.read_request_from-requires-clause-searched
read_request_from-requires-clause-searched c =
    let old = c.self.inside.held.items in
    let bytes : c.as_slice.result.now ≡ old ++ c.args.bytes.now =
    c.as_slice.ensures.value ∙ c.in_ok-extend_from_slice.ensures.items ∙ ap (λ v. v.items ++ c.args.bytes.now) c.replace-held.ensures.value in
    let seen : length old ≡ c.len-seen.result = omega (arith, c.self.inside.held.ok.0, c.len-seen.ensures) in
    let front : take c.len-seen.result c.as_slice.result.now ≡ old =
    ap (take c.len-seen.result) bytes ∙ take_at old c.args.bytes.now c.len-seen.result seen in
    subst HasNoEnd (sym front) c.self.invariant.0

-- nor do the bytes held now
pub invariant_of-self-in-Ok-More : goal.invariant_of-self-in-Ok-More
invariant_of-self-in-Ok-More c =
    let bytes = c.as_slice.result.now in
    let unfinished : IsUnfinished bytes = subst (λ (p : Progress RequestParts). IsReading ShowsRequest bytes
    (Ok p)) c.in-Ok-More.field-0-is c.in-Ok-More.ensures.reading in
    (subst HasNoEnd c.as_slice.ensures.value unfinished.open_end, c.self.invariant.1)

pub behind-requires : goal.behind-requires
behind-requires c =
    let low = within c.as_slice.result.now c.in-Ok-Whole.field-0 c.in-Ok-Whole.head c.in-Ok-Whole.length c.in-Ok-Whole.ensures.within
    c.in-Ok-Whole.field-0-is in
    let same : length c.as_slice.result.now ≡ length c.deref.result.now = ap length (c.as_slice.ensures.value ∙ sym c.deref.ensures.value) in
    omega (arith, low, same)

pub returns-in-Ok-Whole : goal.returns-in-Ok-Whole
returns-in-Ok-Whole c =
    let old = c.self.inside.held.items in
    let now = c.args.self.now in
    let all = c.as_slice.result.now in
    let head = c.in-Ok-Whole.head in
    let n = c.in-Ok-Whole.length in
    let joined : all ≡ old ++ c.args.bytes.now =
    c.as_slice.ensures.value ∙ c.in_ok-extend_from_slice.ensures.items ∙ ap (λ v. v.items ++ c.args.bytes.now) c.replace-held.ensures.value in
    let together : all ≡ now.held ++ c.args.bytes.now = joined ∙ ap (λ (v : Conversation). v.held ++ c.args.bytes.now) c.self.view_is in
    let reading : IsReading ShowsRequest all (Ok (Whole head n)) = subst
    (λ (p : Progress RequestParts). IsReading ShowsRequest all (Ok p)) c.in-Ok-Whole.field-0-is c.in-Ok-Whole.ensures.reading in
    let rest : c.behind.result.now ≡ drop n all = c.behind.ensures ∙ ap (drop n) (c.deref.ensures.value ∙ sym c.as_slice.ensures.value) in
    let same = ap nothing_held c.self.view_is in
    IfOk-weaker c.take_request.result _ _ (λ events e. heard_whole now _ c.args.bytes.now all _ head n _ e together reading same rest) c.take_request.ensures
