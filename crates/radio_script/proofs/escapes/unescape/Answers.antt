use Rattle.std.proofs.Common.{arith, rules, refl, ◌∙◌, get_or}
use Rattle.radio_script.proofs.Words.{common_steps, step_at, unescaped}
use Rattle.radio_script.proofs.EscapeLemmas.{taken}
use Rattle.radio_script.proofs.escapes.unescape.Goals as goal

pub loop-b-init : goal.loop-b-init
loop-b-init c = grind (arith, common_steps)

pub returns-in_err-next : goal.returns-in_err-next
returns-in_err-next c = search rules

pub returns-in-None : goal.returns-in-None
unfolding unescaped
returns-in-None c = grind (arith, common_steps)

pub loop-b-preserved : goal.loop-b-preserved
loop-b-preserved c =
    let here = step_at c.loop-b.place (get_or c.args.text.now c.loop-b.b-index 0) in
    taken c.loop-b.bytes.items c.take_byte.new.bytes.items c.loop-b.place c.in-Some.next c.args.text.now c.loop-b.b-index c.loop-b-test.true here refl
    (rw c.in-Some.is at c.in_ok-next.ensures)
    ∙ c.loop-b.invariant

pub returns-in_ok-from_vec-in-Between : goal.returns-in_ok-from_vec-in-Between
unfolding unescaped
returns-in_ok-from_vec-in-Between c = grind (arith, common_steps)

pub returns-in-Escape : goal.returns-in-Escape
unfolding unescaped
returns-in-Escape c = grind (arith, common_steps)
