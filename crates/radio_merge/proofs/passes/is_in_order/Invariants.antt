use Rattle.std.proofs.Common.{drop}
use Rattle.radio_merge.proofs.Words.{IsSubsequence}
use Rattle.radio_merge.proofs.passes.is_in_order.Given as goal

abbrev pub invariant-order : goal.invariant-order
invariant-order l = IsSubsequence l.left (drop l.taken-index l.order) → IsSubsequence l.pass l.order
