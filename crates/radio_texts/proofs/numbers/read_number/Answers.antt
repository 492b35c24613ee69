use Rattle.std.proofs.Common.{arith}
use Rattle.radio_texts.proofs.NumbersLemmas.{number_of-large}
use Rattle.radio_texts.proofs.numbers.read_number.Goals as goal

pub returns-then-longer-from-clause-value : goal.returns-then-longer-from-clause-value
returns-then-longer-from-clause-value c =
    number_of-large c.args.base c.args.most c.loop-byte.byte-index c.loop-byte.number c.args.text.now (omega arith) c.loop-byte-test.true
    (omega (arith, c.with_digit-longer.ensures, c.in_ok-digit.ensures.value.1)) c.loop-byte.invariant.1
