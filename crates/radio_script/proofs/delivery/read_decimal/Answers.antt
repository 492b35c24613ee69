use Rattle.std.proofs.Common.{arith}
use Rattle.radio_script.proofs.Words.{number_of-large}
use Rattle.radio_script.proofs.delivery.read_decimal.Goals as goal

pub returns-then-number-from : goal.returns-then-number-from
returns-then-number-from c =
    number_of-large 10 4294967295 c.loop-byte.byte-index c.loop-byte.number c.args.text.now (omega arith) c.loop-byte-test.true
    (omega (arith, c.in_ok-digit.ensures.value.1, c.from.ensures, c.from-in-loop-byte.ensures, c.if-number-from.true)) c.loop-byte.invariant.1
