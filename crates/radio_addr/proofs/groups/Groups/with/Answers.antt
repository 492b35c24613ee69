use Rattle.std.proofs.Common.{arith}
use Rattle.radio_addr.proofs.CountsLemmas.{pow_room}
use Rattle.radio_addr.proofs.groups.Groups.with.Goals as goal

pub overflow_mul-result : goal.overflow_mul-result
overflow_mul-result c = omega (arith, pow_room c.args.self.count (omega arith), c.args.self.small)

pub overflow_add-result-2 : goal.overflow_add-result-2
overflow_add-result-2 c = omega (arith, pow_room c.args.self.count (omega arith), c.args.self.small, c.from.ensures)
