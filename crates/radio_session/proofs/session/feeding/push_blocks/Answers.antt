use Rattle.std.proofs.Common.{◌≡◌, ℕ, List, [], ◌∷◌, ◌++◌, map, ap, sym, ◌∙◌, append_assoc, append-nil, arith}
use Rattle.std.proofs.lemmas.List.{nil_from_length}
use Rattle.std.specs.Vec.Iter.{into_iter_items}
use Rattle.radio_events.specs.declared.event.Event.{Event}
use Rattle.radio_events.specs.declared.event.Event.TheVariants.{Push}
use Rattle.radio_session.proofs.session.feeding.push_blocks.Goals as goal

pub loop-block-init : goal.loop-block-init
loop-block-init c =
    ap (λ (blocks : List (List ℕ)). c.args.events.now.items ++ map (Push c.args.id) blocks) c.into_iter-block-iterator.ensures.into_iter_gives.0

pub loop-block-preserved : goal.loop-block-preserved
loop-block-preserved c =
    let id = c.args.id in
    let rest = into_iter_items c.next.new.self in
    let before = c.loop-block.events.items in
    ap (λ (events : List Event). events ++ map (Push id) rest) c.in_ok-push.ensures.items
    ∙ append_assoc before (Push id c.in-Some.block ∷ []) (map (Push id) rest)
    ∙ ap (λ (blocks : List (List ℕ)). before ++ map (Push id) blocks) (sym c.in-Some.ensures.steps.0)
    ∙ c.loop-block.invariant

pub returns : goal.returns
returns c =
    let before = c.loop-block.events.items in
    let none : into_iter_items c.loop-block.block-iterator ≡ [] = nil_from_length (into_iter_items c.loop-block.block-iterator)
    (omega (arith, c.loop-block.block-iterator.rest.ok.0, c.in-None.ensures.steps.0)) in
    sym (append-nil before)
    ∙ ap (λ (blocks : List (List ℕ)). before ++ map (Push c.args.id) blocks) (sym none)
    ∙ c.loop-block.invariant
