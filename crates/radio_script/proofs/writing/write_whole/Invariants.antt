use Rattle.std.proofs.Common.{◌≡◌, ◌+◌, ◌-◌, ◌≤◌, length, take}
use Rattle.radio_script.proofs.Words.{Appends}
use Rattle.radio_script.proofs.writing.write_whole.Given as goal

abbrev pub invariant-loop-done : goal.invariant-loop-done
invariant-loop-done g l = record {
  within : l.done ≤ length l.text;
  written : Appends (g.W.Write.contents l.fn.writer) (g.W.Write.contents l.writer) (take l.done l.text);
  calls : g.W.Counted.calls l.writer ≤ g.W.Counted.calls l.fn.writer + l.done;
  failures : g.W.Counted.failures l.writer ≡ g.W.Counted.failures l.fn.writer;
}

abbrev pub decreases-loop-done : goal.decreases-loop-done
decreases-loop-done g l = length l.text - l.done
