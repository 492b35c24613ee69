use Rattle.std.proofs.Common.{take}
use Rattle.radio_merge.proofs.Words.{All, IsSubsequence}
use Rattle.radio_merge.proofs.passes.are_in_order.Given as goal

abbrev pub invariant-loop-pass : goal.invariant-loop-pass
invariant-loop-pass l = All (λ pass. IsSubsequence pass.items l.order) (take l.pass-index l.passes)
