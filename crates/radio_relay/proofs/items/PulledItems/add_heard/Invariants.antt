use Rattle.std.proofs.Common.{◌≡◌}
use Rattle.radio_relay.proofs.Words.{into_iter_items, atoms_of, with_parts, parts_heard}
use Rattle.radio_relay.proofs.items.PulledItems.add_heard.Given as goal

-- with what is left they are what all makes of them
abbrev pub invariant-loop-item : goal.invariant-loop-item
invariant-loop-item l =
    with_parts l.self (parts_heard (atoms_of (into_iter_items l.item-iterator))) ≡ with_parts l.initial.self (parts_heard (atoms_of l.fn.heard.items))
