use Rattle.radio_review.proofs.NearLemmas.{NoneSoFar}
use Rattle.radio_review.proofs.meant.near.Given as goal

abbrev pub invariant-loop-known : goal.invariant-loop-known
invariant-loop-known l = NoneSoFar l.most l.name l.keys l.known-index
