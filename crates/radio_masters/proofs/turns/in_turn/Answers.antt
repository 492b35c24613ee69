use Rattle.std.proofs.Common.{rules, subst}
use Rattle.std.proofs.lemmas.Fn.{filter_same}
use Rattle.std.specs.List.Sorted.{IsPermutation}
use Rattle.radio_masters.proofs.turns.in_turn.Goals as goal

pub returns : goal.returns
returns c = record {
  queue = c.sort.new.self.items;
  all_due = subst (λ due. IsPermutation due c.sort.new.self.items)
      (filter_same _ _ _ (λ x b f' k. search rules) _ _ c.retain.ensures.filtered) c.in_ok-sort.ensures.permutation;
  in_order = c.in_ok-sort.ensures.sorted;
  first = c.truncate.ensures.items;
}
