use Rattle.std.proofs.Common.{Ok, Err, refl, arith}
use Rattle.radio_script.proofs.Words.{Write}
use Rattle.radio_script.proofs.ScriptPlays.{IsSoFar-none, IsSoFar-more, IsSoFar-ends, IsSoFar-looked, Ok-not_Err}
use Rattle.radio_script.proofs.playing.play_with.Goals as goal

pub loop-number-init : goal.loop-number-init
loop-number-init g c = record {
  so_far = IsSoFar-none g.P.Performer.performs c.args.performer.now (g.R.Read.remaining c.args.reader.now) (g.W.Write.contents c.args.writer.now)
      (g.W.Counted.calls c.args.writer.now);
  reader_calls = omega arith;
  reader_failures = refl;
  writer_failures = refl;
  flushed = λ e. e;
}

pub returns-in-Ok-false-clause-plays : goal.returns-in-Ok-false-clause-plays
returns-in-Ok-false-clause-plays g c =
    IsSoFar-ends g.P.Performer.performs c.args.performer.now c.loop-number.performer c.play_line.new.performer c.loop-number.number (Ok tt)
    (g.R.Read.remaining c.args.reader.now) (g.R.Read.remaining c.loop-number.reader) (g.R.Read.remaining c.play_line.new.reader)
    (g.W.Write.contents c.args.writer.now) (g.W.Write.contents c.loop-number.writer) (g.W.Write.contents c.play_line.new.writer)
    (g.W.Counted.calls c.args.writer.now) (g.W.Counted.calls c.loop-number.writer) (g.W.Counted.calls c.play_line.new.writer)
    c.loop-number.invariant.so_far (rw c.in-Ok-false.field-0-test at c.in-Ok-false.ensures.plays)

pub returns-in-Err-clause-plays : goal.returns-in-Err-clause-plays
returns-in-Err-clause-plays g c =
    IsSoFar-ends g.P.Performer.performs c.args.performer.now c.loop-number.performer c.play_line.new.performer c.loop-number.number (Err c.in-Err.fault)
    (g.R.Read.remaining c.args.reader.now) (g.R.Read.remaining c.loop-number.reader) (g.R.Read.remaining c.play_line.new.reader)
    (g.W.Write.contents c.args.writer.now) (g.W.Write.contents c.loop-number.writer) (g.W.Write.contents c.play_line.new.writer)
    (g.W.Counted.calls c.args.writer.now) (g.W.Counted.calls c.loop-number.writer) (g.W.Counted.calls c.play_line.new.writer)
    c.loop-number.invariant.so_far c.in-Err.ensures.plays

pub loop-number-preserved : goal.loop-number-preserved
loop-number-preserved g c = record {
  so_far = IsSoFar-more g.P.Performer.performs c.args.performer.now c.loop-number.performer c.play_line.new.performer c.loop-number.number
      (g.R.Read.remaining c.args.reader.now) (g.R.Read.remaining c.loop-number.reader) (g.R.Read.remaining c.play_line.new.reader)
      (g.W.Write.contents c.args.writer.now) (g.W.Write.contents c.loop-number.writer) (g.W.Write.contents c.play_line.new.writer)
      (g.W.Counted.calls c.args.writer.now) (g.W.Counted.calls c.loop-number.writer) (g.W.Counted.calls c.play_line.new.writer)
      c.loop-number.invariant.so_far (rw c.in-Ok-true.field-0-test at c.in-Ok-true.ensures.plays);
  reader_calls = omega (arith, c.in-Ok-true.ensures.reader_calls);
  reader_failures = cc (c.in-Ok-true.ensures.reader_failures);
  writer_failures = cc (c.in-Ok-true.ensures.writer_failures);
  flushed = λ e. c.in-Ok-true.ensures.flushed (Ok-not_Err c.in-Ok-true.field-0 Write) (c.loop-number.invariant.flushed e);
}

pub returns-clause-plays : goal.returns-clause-plays
returns-clause-plays g c =
    IsSoFar-looked g.P.Performer.performs c.args.performer.now c.loop-number.performer c.loop-number.number c.expect_end.result
    (g.R.Read.remaining c.args.reader.now) (g.R.Read.remaining c.loop-number.reader) (g.R.Read.remaining c.expect_end.new.reader)
    (g.W.Write.contents c.args.writer.now) (g.W.Write.contents c.loop-number.writer)
    (g.W.Counted.calls c.args.writer.now) (g.W.Counted.calls c.loop-number.writer)
    (omega arith) c.loop-number.invariant.so_far c.expect_end.ensures.ends
