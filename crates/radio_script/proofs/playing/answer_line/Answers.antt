use Rattle.std.proofs.Common.{Err}
use Rattle.radio_script.proofs.Words.{AnswersLine}
use Rattle.radio_script.proofs.LinePlays.{writes_nothing, unwritten, written_whole, written_in_part}
use Rattle.radio_script.proofs.playing.answer_line.Goals as goal

pub returns-in-Err-clause-answers : goal.returns-in-Err-clause-answers
returns-in-Err-clause-answers g c =
    writes_nothing (g.W.Write.contents c.args.writer.now) (g.W.Counted.calls c.args.writer.now)
    (λ written most_calls. AnswersLine g.P.Performer.performs c.args.performer.now c.args.number c.args.line.now
    (Err c.in-Err.fault) written most_calls c.perform_line.new.performer)
    (unwritten g.P.Performer.performs c.args.performer.now c.args.number c.args.line.now c.perform_line.new.text.items
    c.in-Err.fault c.perform_line.new.performer c.in-Err.ensures)

pub returns-in-Ok-write_whole-clause-answers : goal.returns-in-Ok-write_whole-clause-answers
returns-in-Ok-write_whole-clause-answers g c =
    written_whole g.P.Performer.performs c.args.performer.now c.args.number c.args.line.now c.perform_line.new.text.items c.deref.result.now
    c.perform_line.new.performer (g.W.Write.contents c.args.writer.now) (g.W.Write.contents c.write_whole.new.writer)
    (g.W.Counted.calls c.args.writer.now) (g.W.Counted.calls c.write_whole.new.writer)
    c.deref.ensures.value c.in-Ok.ensures c.in-Ok-write_whole.ensures.ok c.write_whole.ensures.calls

pub returns-in-Err-write_whole-clause-answers : goal.returns-in-Err-write_whole-clause-answers
returns-in-Err-write_whole-clause-answers g c =
    written_in_part g.P.Performer.performs c.args.performer.now c.args.number c.args.line.now c.perform_line.new.text.items c.deref.result.now
    c.perform_line.new.performer (g.W.Write.contents c.args.writer.now) (g.W.Write.contents c.write_whole.new.writer)
    (g.W.Counted.calls c.args.writer.now) (g.W.Counted.calls c.write_whole.new.writer)
    c.deref.ensures.value c.in-Ok.ensures c.in-Err-write_whole.ensures.err c.write_whole.ensures.calls
