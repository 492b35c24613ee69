use Rattle.std.proofs.Common.{arith}
use Rattle.radio_addr.proofs.ListsLemmas.{bad_line}
use Rattle.radio_addr.proofs.lists.add_line.Goals as goal

pub overflow_add-result : goal.overflow_add-result
overflow_add-result c = omega (arith, bad_line c.args.line.now c.in-Bad.ensures)
