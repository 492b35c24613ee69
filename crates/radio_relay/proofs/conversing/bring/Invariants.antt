use Rattle.std.proofs.Common.{◌≡◌, ℕ, Option}
use Rattle.radio_relay.proofs.Words.{into_iter_items, NumberedState, BringsItems, BringsAtMost}
use Rattle.radio_relay.proofs.conversing.bring.Given as goal

-- whatever the remaining items yield from here, all items yield from the start
abbrev pub invariant-loop-item : goal.invariant-loop-item
invariant-loop-item g l = record {
  same : l.relay ≡ record l.initial.relay { number = l.relay.number };
  all : (after : NumberedState) (to : g.row.S.Denot)
      → BringsItems g.S.Server.steps l.initial.relay.mount l.relay.number (into_iter_items l.item-iterator) l.server after to
      → BringsItems g.S.Server.steps l.initial.relay.mount l.initial.relay.number l.fn.items.items l.initial.server after to;
  at_most : (number : Option ℕ) (to : g.row.S.Denot)
      → BringsAtMost g.S.Server.steps g.S.Server.refuses l.initial.relay.mount l.relay.number (into_iter_items l.item-iterator) l.server number to
      → BringsAtMost g.S.Server.steps g.S.Server.refuses l.initial.relay.mount l.initial.relay.number l.fn.items.items l.initial.server number to;
}
