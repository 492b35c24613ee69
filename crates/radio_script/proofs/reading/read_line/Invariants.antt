use Rattle.std.proofs.Common.{◌≡◌, ◌+◌, ◌-◌, ◌≤◌, length, vec_len, false}
use Rattle.radio_script.proofs.Words.{Consumes, max_line, has_feed}
use Rattle.radio_script.proofs.reading.read_line.Given as goal

abbrev pub invariant-loop-reader : goal.invariant-loop-reader
invariant-loop-reader g l = record {
  consumed : Consumes (g.R.Read.remaining l.fn.reader) (g.R.Read.remaining l.reader) l.line.items;
  one_line : has_feed l.line.items ≡ false;
  within : length l.line.items ≤ max_line;
  calls : g.R.Counted.calls l.reader ≤ g.R.Counted.calls l.fn.reader + length l.line.items;
  failures : g.R.Counted.failures l.reader ≡ g.R.Counted.failures l.fn.reader;
}

abbrev pub decreases-loop-reader : goal.decreases-loop-reader
decreases-loop-reader g l = max_line - vec_len l.line
