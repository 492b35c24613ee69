use Rattle.std.proofs.Common.{rules, ◌≡◌, Some, sym, subst}
use Rattle.radio_masters.specs.Failures.{FailureIsNoted}
use Rattle.radio_masters.proofs.failing.note_failure.Goals as goal

pub returns-then-eq : goal.returns-then-eq
returns-then-eq c =
    let same : c.in-Some.failing.why ≡ c.args.why = search rules in
    subst (λ before. FailureIsNoted before c.args.why c.args.ms c.failed_again.result.0 c.failed_again.result.1) (sym c.in-Some.is)
    (subst (λ why. FailureIsNoted (Some c.in-Some.failing) why c.args.ms c.failed_again.result.0 c.failed_again.result.1) same c.failed_again.ensures)
