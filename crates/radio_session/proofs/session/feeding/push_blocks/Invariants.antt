use Rattle.std.proofs.Common.{◌≡◌, ◌++◌, map}
use Rattle.std.specs.Vec.Iter.{into_iter_items}
use Rattle.radio_events.specs.declared.event.Event.TheVariants.{Push}
use Rattle.radio_session.proofs.session.feeding.push_blocks.Given as goal

-- the events so far, and those of the remaining blocks, are the events of all blocks
abbrev pub invariant-loop-block : goal.invariant-loop-block
invariant-loop-block l =
    l.events.items ++ map (Push l.id) (into_iter_items l.block-iterator) ≡ l.initial.events.items ++ map (Push l.id) l.fn.blocks.items
