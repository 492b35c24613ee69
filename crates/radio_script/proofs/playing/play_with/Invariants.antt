use Rattle.std.proofs.Common.{◌≡◌, ◌+◌, ◌*◌, ◌≤◌, true}
use Rattle.radio_script.proofs.ScriptPlays.{IsSoFar}
use Rattle.radio_script.proofs.playing.play_with.Given as goal

abbrev pub invariant-loop-number : goal.invariant-loop-number
invariant-loop-number g l = record {
  so_far : IsSoFar g.P.Performer.performs l.fn.performer l.performer l.number
      (g.R.Read.remaining l.fn.reader) (g.R.Read.remaining l.reader) (g.W.Write.contents l.fn.writer) (g.W.Write.contents l.writer)
      (g.W.Counted.calls l.fn.writer) (g.W.Counted.calls l.writer);
  reader_calls : g.R.Counted.calls l.reader + 65537 ≤ g.R.Counted.calls l.fn.reader + 65537 * l.number;
  reader_failures : g.R.Counted.failures l.reader ≡ g.R.Counted.failures l.fn.reader;
  writer_failures : g.W.Counted.failures l.writer ≡ g.W.Counted.failures l.fn.writer;
  flushed : g.W.CountedWrite.is_flushed l.fn.writer ≡ true → g.W.CountedWrite.is_flushed l.writer ≡ true;
}
