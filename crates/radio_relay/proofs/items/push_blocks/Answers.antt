use Rattle.std.proofs.Common.{◌≡◌, ℕ, List, [], ◌∷◌, ◌++◌, map, ap, sym, ◌∙◌, append_assoc, append-nil, arith}
use Rattle.radio_relay.proofs.Words.{nil_from_length, into_iter_items, PullItem, Sound}
use Rattle.radio_relay.proofs.items.push_blocks.Goals as goal

pub loop-block-init : goal.loop-block-init
loop-block-init c =
    ap (λ (blocks : List (List ℕ)). c.args.items.now.items ++ map Sound blocks) c.into_iter-block-iterator.ensures.into_iter_gives.0

pub loop-block-preserved : goal.loop-block-preserved
loop-block-preserved c =
    let rest = into_iter_items c.next.new.self in
    let before = c.loop-block.items.items in
    ap (λ (items : List PullItem). items ++ map Sound rest) c.in_ok-push.ensures.items
    ∙ append_assoc before (Sound c.in-Some.block ∷ []) (map Sound rest)
    ∙ ap (λ (blocks : List (List ℕ)). before ++ map Sound blocks) (sym c.in-Some.ensures.steps.0)
    ∙ c.loop-block.invariant

pub returns : goal.returns
returns c =
    let before = c.loop-block.items.items in
    let none : into_iter_items c.loop-block.block-iterator ≡ [] = nil_from_length (into_iter_items c.loop-block.block-iterator)
    (omega (arith, c.loop-block.block-iterator.rest.ok.0, c.in-None.ensures.steps.0)) in
    sym (append-nil before)
    ∙ ap (λ (blocks : List (List ℕ)). before ++ map Sound blocks) (sym none)
    ∙ c.loop-block.invariant
