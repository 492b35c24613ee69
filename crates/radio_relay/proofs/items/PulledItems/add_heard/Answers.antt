use Rattle.std.proofs.Common.{◌≡◌, List, [], ap, sym, ◌∙◌, arith}
use Rattle.radio_relay.proofs.Words.{nil_from_length, into_iter_items, Item, atoms_of, Gathered, with_parts, parts_heard}
use Rattle.radio_relay.proofs.ItemsLemmas.{with_parts-heard}
use Rattle.radio_relay.proofs.items.PulledItems.add_heard.Goals as goal

pub loop-item-init : goal.loop-item-init
loop-item-init c =
    ap (λ (items : List Item). with_parts c.args.self.now (parts_heard (atoms_of items))) c.into_iter-item-iterator.ensures.into_iter_gives.0

pub loop-item-preserved : goal.loop-item-preserved
loop-item-preserved c =
    let rest = into_iter_items c.next.new.self in
    let before = c.loop-item.self in
    ap (λ (g : Gathered). with_parts g (parts_heard (atoms_of rest))) c.in_ok-add_item.ensures
    ∙ sym (with_parts-heard before c.in-Some.item rest)
    ∙ ap (λ (items : List Item). with_parts before (parts_heard (atoms_of items))) (sym c.in-Some.ensures.steps.0)
    ∙ c.loop-item.invariant

pub returns : goal.returns
returns c =
    let before = c.loop-item.self in
    let none : into_iter_items c.loop-item.item-iterator ≡ [] = nil_from_length (into_iter_items c.loop-item.item-iterator)
    (omega (arith, c.loop-item.item-iterator.rest.ok.0, c.in-None.ensures.steps.0)) in
    ap (λ (items : List Item). with_parts before (parts_heard (atoms_of items))) (sym none)
    ∙ c.loop-item.invariant
