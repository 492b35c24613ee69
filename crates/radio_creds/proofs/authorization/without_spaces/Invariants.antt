use Rattle.std.proofs.Common.{◌≡◌, length}
use Rattle.radio_creds.specs.Authorization.{without_spaces}
use Rattle.radio_creds.proofs.authorization.without_spaces.Given as goal

abbrev pub invariant-loop-rest : goal.invariant-loop-rest
invariant-loop-rest l = without_spaces l.text ≡ without_spaces l.rest

abbrev pub decreases-loop-rest : goal.decreases-loop-rest
decreases-loop-rest l = length l.rest
