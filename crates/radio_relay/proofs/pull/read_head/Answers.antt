use Rattle.std.proofs.Common.{◌≡◌, ℕ, Ok, List, ◌++◌, length, take, ap, sym, ◌∙◌, subst, arith}
use Rattle.radio_relay.proofs.Words.{take_at, Progress, More, ResponseParts, ShowsResponse, IsReading, IsUnfinished}
use Rattle.radio_heads.specs.Search.{HasNoEnd}
use Rattle.radio_relay.proofs.PullLemmas.{answered-more}
use Rattle.radio_relay.proofs.pull.read_head.Goals as goal

-- what was held before has no end of a head
pub read_response_from-requires-clause-searched : goal.read_response_from-requires-clause-searched
read_response_from-requires-clause-searched c =
    let old = c.held.inside.bytes.items in
    let bytes : c.as_slice.result.now ≡ old ++ c.args.bytes.now = c.as_slice.ensures.value ∙ c.in_ok-extend_from_slice.ensures.items in
    let seen : length old ≡ c.len-seen.result = omega (arith, c.held.inside.bytes.ok.0, c.len-seen.ensures) in
    let front : take c.len-seen.result c.as_slice.result.now ≡ old =
    ap (take c.len-seen.result) bytes ∙ take_at old c.args.bytes.now c.len-seen.result seen in
    subst HasNoEnd (sym front) c.held.invariant

-- and what is held now has none either
pub invariant_of-result : goal.invariant_of-result
invariant_of-result c =
    let bytes = c.as_slice.result.now in
    let unfinished : IsUnfinished bytes = subst (λ (p : Progress ResponseParts). IsReading ShowsResponse bytes
    (Ok p)) c.in-Ok-More.field-0-is c.in-Ok-More.ensures.reading in
    subst HasNoEnd c.as_slice.ensures.value unfinished.open_end

pub returns-in-Ok-More-clause-brings : goal.returns-in-Ok-More-clause-brings
returns-in-Ok-More-clause-brings c =
    let bytes = c.as_slice.result.now in
    let joined : c.extend_from_slice.new.self.items ≡ c.args.held ++ c.args.bytes.now =
    c.in_ok-extend_from_slice.ensures.items ∙ ap (λ (held : List ℕ). held ++ c.args.bytes.now) c.held.view_is in
    let reading : IsReading ShowsResponse bytes (Ok More) = subst (λ (p : Progress ResponseParts). IsReading ShowsResponse bytes
    (Ok p)) c.in-Ok-More.field-0-is c.in-Ok-More.ensures.reading in
    answered-more c.args.held c.args.bytes.now bytes c.extend_from_slice.new.self.items c.new.result.items c.blocks_are_the_data.ensures.none
    c.new.ensures.items (c.as_slice.ensures.value ∙ joined) joined reading
