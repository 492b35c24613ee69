use Rattle.std.proofs.Common.{◌+◌, drop}
use Rattle.radio_script.proofs.RunLemmas.{RunsOn}
use Rattle.radio_script.proofs.running.run_with.Given as goal

abbrev pub invariant-loop-i : goal.invariant-loop-i
invariant-loop-i g l =
    RunsOn g.P.Performer.performs l.fn.performer l.deliveries l.performer (l.i + 1) (drop l.i l.deliveries) l.text.items
