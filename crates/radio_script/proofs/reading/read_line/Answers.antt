use Rattle.std.proofs.Common.{◌≡◌, [], ◌∷◌, ◌++◌, false, ◌==◌, arith}
use Rattle.radio_script.proofs.Words.{nat_tests, common_steps, length_push, Consumes-trans}
use Rattle.radio_script.proofs.DeviceLemmas.{has_feed-push}
use Rattle.radio_script.proofs.reading.read_line.Goals as goal

pub returns-then-is_err-clause-reads : goal.returns-then-is_err-clause-reads
returns-then-is_err-clause-reads g c =
    let remaining = g.R.Read.remaining in
    let byte = rw c.in-Ok-Some.field-0-is at c.in-Ok-Some.ensures.byte in
    let other : (c.in-Ok-Some.byte == 10) ≡ false = grind (arith, nat_tests, c.in-Ok-Some.byte-test.1) in (
      c.loop-reader.line.items ++ c.in-Ok-Some.byte ∷ [],
      Consumes-trans (remaining c.args.reader.now) (remaining c.loop-reader.reader) (remaining c.next_of_line.new.reader)
          c.loop-reader.line.items (c.in-Ok-Some.byte ∷ []) c.loop-reader.invariant.consumed byte,
      has_feed-push c.loop-reader.line.items c.in-Ok-Some.byte c.loop-reader.invariant.one_line other,
    )

pub loop-reader-preserved : goal.loop-reader-preserved
loop-reader-preserved g c =
    let remaining = g.R.Read.remaining in
    let byte = rw c.in-Ok-Some.field-0-is at c.in-Ok-Some.ensures.byte in
    let pushed : c.append_byte.new.line.items ≡ c.loop-reader.line.items ++ c.in-Ok-Some.byte ∷ [] = grind (arith, common_steps) in
    let other : (c.in-Ok-Some.byte == 10) ≡ false = grind (arith, nat_tests, c.in-Ok-Some.byte-test.1) in
    let longer = length_push c.loop-reader.line.items c.in-Ok-Some.byte in
    record {
      consumed = rw pushed (Consumes-trans (remaining c.args.reader.now) (remaining c.loop-reader.reader) (remaining c.next_of_line.new.reader)
          c.loop-reader.line.items (c.in-Ok-Some.byte ∷ []) c.loop-reader.invariant.consumed byte);
      one_line = rw pushed (has_feed-push c.loop-reader.line.items c.in-Ok-Some.byte c.loop-reader.invariant.one_line other);
      within = rw (pushed, longer) (omega (arith, c.loop-reader.line.ok.0));
      calls = rw (pushed, longer) (omega arith);
      failures = cc (c.in-Ok-Some.ensures.sound);
    }

pub returns-in-Ok-Some-next_of_line-clause-reads : goal.returns-in-Ok-Some-next_of_line-clause-reads
returns-in-Ok-Some-next_of_line-clause-reads g c =
    let remaining = g.R.Read.remaining in
    let last = c.in-Ok-Some-next_of_line.field-0-0 in
    let byte = rw c.in-Ok-Some-next_of_line.field-0-is at c.in-Ok-Some-next_of_line.ensures.byte in
    let other : (last == 10) ≡ false = grind (arith, nat_tests, c.in-Ok-Some-next_of_line.field-0-0-test.1) in (
      c.loop-reader.line.items ++ last ∷ [],
      Consumes-trans (remaining c.args.reader.now) (remaining c.loop-reader.reader) (remaining c.next_of_line-2.new.reader)
          c.loop-reader.line.items (last ∷ []) c.loop-reader.invariant.consumed byte,
      has_feed-push c.loop-reader.line.items last c.loop-reader.invariant.one_line other,
      rw (length_push c.loop-reader.line.items last) (omega (arith, c.loop-reader.line.ok.0)),
    )
