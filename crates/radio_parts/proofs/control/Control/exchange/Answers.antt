use Rattle.radio_parts_changes.proofs.LentState.{lent_due_by}
use Rattle.radio_parts.proofs.control.Control.exchange.Goals as goal

pub invariant_of-self : goal.invariant_of-self
invariant_of-self c =
    rw (c.min-self-inside.ensures, c.part_due.ensures)
    (lent_due_by c.args.part c.self.inside.due_from c.self.inside.state c.exchange.new.self c.exchange.result c.exchange.ensures.ok c.exchange.ensures.err
    c.self.invariant)
