use Rattle.std.proofs.Common.{arith}
use Rattle.std.proofs.lemmas.Result.{err_from_is_err_and}
use Rattle.radio_addr.proofs.ListsLemmas.{line_more, line_last, fault_more, fault_last}
use Rattle.radio_addr.proofs.lists.AddressList.read.Goals as goal

pub returns-in_err-add_line-clause-fault : goal.returns-in_err-add_line-clause-fault
returns-in_err-add_line-clause-fault c =
    let p = err_from_is_err_and c.from_residual.result c.from_residual.ensures.1 in
    rw (p.1, p.2)
    (fault_more c.lines.passed c.lines.rest.now c.in-Some.line.now c.in-Some.later.now c.lines.ranges.items _
    c.in_err-add_line.field-0.0 c.in-Some.ensures.fields c.in_err-add_line.ensures.fault c.lines.invariant.1)

pub lines-smaller : goal.lines-smaller
lines-smaller c = omega (arith, c.in-Some.ensures.sizes)

pub lines-preserved : goal.lines-preserved
lines-preserved c = (
  omega (arith, c.in-Some.ensures.sizes),
  line_more c.lines.passed c.lines.rest.now c.in-Some.line.now c.in-Some.later.now c.lines.ranges.items c.add_line.new.ranges.items _
      c.in-Some.ensures.fields c.in_ok-add_line.ensures.ok c.lines.invariant.1,
)

pub returns-in_err-add_line-2-clause-fault : goal.returns-in_err-add_line-2-clause-fault
returns-in_err-add_line-2-clause-fault c =
    let p = err_from_is_err_and c.from_residual-in_err-add_line-2.result c.from_residual-in_err-add_line-2.ensures.1 in
    rw (p.1, p.2)
    (fault_last c.lines.passed c.lines.rest.now c.lines.ranges.items _
    c.in_err-add_line-2.field-0.0 c.in_default.ensures.fields c.in_err-add_line-2.ensures.fault c.lines.invariant.1)

pub returns-clause-ok : goal.returns-clause-ok
returns-clause-ok c =
    line_last c.lines.passed c.lines.rest.now c.lines.ranges.items c.add_line-2.new.ranges.items _
    c.in_default.ensures.fields c.in_ok-add_line-2.ensures.ok c.lines.invariant.1
