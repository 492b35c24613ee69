use Rattle.std.proofs.Common.{length-drop, take, drop, arith}
use Rattle.std.proofs.Math.Seq.{take-add}
use Rattle.radio_script.proofs.Words.{take_rest, Appends-trans}
use Rattle.radio_script.proofs.writing.write_whole.Goals as goal

pub loop-done-preserved : goal.loop-done-preserved
loop-done-preserved g c =
    let text = c.args.text.now in
    let n = c.in_ok-done.field-0 in
    let contents = g.W.Write.contents in
    let rest = take_rest text c.loop-done.done in
    let bound = rw rest at c.in_ok-done.ensures.bound in
    let taken = rw rest at c.in_ok-done.ensures.bytes in
    let both = Appends-trans (contents c.args.writer.now) (contents c.loop-done.writer) (contents c.write_counted.new.self)
    (take c.loop-done.done text) (take n (drop c.loop-done.done text)) c.loop-done.invariant.written taken in
    record {
      within = omega (arith, c.in_ok-done.ensures.bound, length-drop c.loop-done.done text, bound);
      written = rw take-add both;
      calls = omega (arith, c.in_ok-done.ensures.some);
      failures = cc (c.in_ok-done.ensures.ok);
    }
