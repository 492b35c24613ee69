use Rattle.radio_script.proofs.LinePlays.{line_failed, line_at_end, line_too_long, line_last, line_last_failed, line_whole_failed}
use Rattle.radio_script.proofs.playing.play_line.Goals as goal

pub returns-in-Err-clause-plays : goal.returns-in-Err-clause-plays
returns-in-Err-clause-plays g c =
    line_failed g.P.Performer.performs c.args.performer.now c.args.number
    (g.R.Read.remaining c.args.reader.now) (g.R.Read.remaining c.read_line.new.reader)
    (g.W.Write.contents c.args.writer.now) (g.W.Counted.calls c.args.writer.now)
    c.in-Err.fault c.read_line.new.line.items c.in-Err.ensures.reads

pub returns-in-Ok-Nothing-clause-plays : goal.returns-in-Ok-Nothing-clause-plays
returns-in-Ok-Nothing-clause-plays g c =
    line_at_end g.P.Performer.performs c.args.performer.now c.args.number
    (g.R.Read.remaining c.args.reader.now) (g.R.Read.remaining c.read_line.new.reader)
    (g.W.Write.contents c.args.writer.now) (g.W.Counted.calls c.args.writer.now)
    c.read_line.new.line.items (rw c.in-Ok-Nothing.field-0-is at c.in-Ok-Nothing.ensures.reads)

pub returns-in-Ok-TooLong-clause-plays : goal.returns-in-Ok-TooLong-clause-plays
returns-in-Ok-TooLong-clause-plays g c =
    line_too_long g.P.Performer.performs c.args.performer.now c.args.number
    (g.R.Read.remaining c.args.reader.now) (g.R.Read.remaining c.read_line.new.reader)
    (g.W.Write.contents c.args.writer.now) (g.W.Counted.calls c.args.writer.now)
    c.read_line.new.line.items (rw c.in-Ok-TooLong.field-0-is at c.in-Ok-TooLong.ensures.reads)

pub returns-in-Ok-clause-plays : goal.returns-in-Ok-clause-plays
returns-in-Ok-clause-plays g c =
    line_last g.P.Performer.performs c.args.performer.now c.args.number
    (g.R.Read.remaining c.args.reader.now) (g.R.Read.remaining c.read_line.new.reader)
    (g.W.Write.contents c.args.writer.now) (g.W.Write.contents c.answer_line.new.writer)
    (g.W.Counted.calls c.args.writer.now) (g.W.Counted.calls c.answer_line.new.writer)
    c.read_line.new.line.items c.deref.result.now c.answer_line.new.performer c.deref.ensures.value
    (rw c.in-Ok-Last.field-0-is at c.in-Ok-Last.ensures.reads) c.in-Ok.ensures.answers

pub returns-in-Err-answer_line-clause-plays : goal.returns-in-Err-answer_line-clause-plays
returns-in-Err-answer_line-clause-plays g c =
    line_last_failed g.P.Performer.performs c.args.performer.now c.args.number
    (g.R.Read.remaining c.args.reader.now) (g.R.Read.remaining c.read_line.new.reader)
    (g.W.Write.contents c.args.writer.now) (g.W.Write.contents c.answer_line.new.writer)
    (g.W.Counted.calls c.args.writer.now) (g.W.Counted.calls c.answer_line.new.writer)
    c.read_line.new.line.items c.deref.result.now c.in-Err-answer_line.fault c.answer_line.new.performer c.deref.ensures.value
    (rw c.in-Ok-Last.field-0-is at c.in-Ok-Last.ensures.reads) c.in-Err-answer_line.ensures.answers

pub returns-in-Err-answer_line-2-clause-plays : goal.returns-in-Err-answer_line-2-clause-plays
returns-in-Err-answer_line-2-clause-plays g c =
    line_whole_failed g.P.Performer.performs c.args.performer.now c.args.number
    (g.R.Read.remaining c.args.reader.now) (g.R.Read.remaining c.read_line.new.reader)
    (g.W.Write.contents c.args.writer.now) (g.W.Write.contents c.answer_line-in-Ok-Whole.new.writer)
    (g.W.Counted.calls c.args.writer.now) (g.W.Counted.calls c.answer_line-in-Ok-Whole.new.writer)
    c.read_line.new.line.items c.deref-in-Ok-Whole.result.now c.in-Err-answer_line-2.fault
    c.answer_line-in-Ok-Whole.new.performer c.deref-in-Ok-Whole.ensures.value
    (rw c.in-Ok-Whole.field-0-is at c.in-Ok-Whole.ensures.reads) c.in-Err-answer_line-2.ensures.answers
