use Rattle.std.proofs.Common.{◌≡◌, ◌++◌, length}
use Rattle.radio_log.specs.Shown.{shown_value}
use Rattle.radio_log.proofs.shown.push_shown.Given as goal

-- what is added, and what is left to be shown, are the value
abbrev pub invariant-runs : goal.invariant-runs
invariant-runs l = l.line.items ++ shown_value l.rest ≡ l.initial.line.items ++ shown_value l.value

abbrev pub decreases-runs : goal.decreases-runs
decreases-runs l = length l.rest
