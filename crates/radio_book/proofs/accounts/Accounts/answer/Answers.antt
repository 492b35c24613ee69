use Rattle.radio_book.proofs.HistoryLemmas.{made_unkept, refused_over, stepped_over}
use Rattle.radio_book.proofs.accounts.Accounts.answer.Goals as goal

pub invariant_of-self-clause-by_entries : goal.invariant_of-self-clause-by_entries
invariant_of-self-clause-by_entries g c =
    let control = c.args.self.now.control in
    let event = c.args.event in
    let books = c.args.lent.now in
    let lent = c.lend_each.new.lent in
    let whole = c.lend_each.new.control in
    let lends = c.lend_each.ensures in
    let step = c.step-stepped in
    let back = c.take_back_each.new.lent in
    let after = c.take_back_each.new.control in
    let takes_back = c.take_back_each.ensures in
    let reached = c.reaches_parts-is_reached in
    made_unkept g.C.Chronicle.KEEPS g.H.Origin.opening c.args.self.now.lines.items books back control after event step.result c.requires
    (stepped_over books lent back control whole step.new.self after event reached.result step.result reached.ensures lends takes_back step.ensures.told step.ensures.ok step.ensures.common)
    (refused_over books lent back control whole step.new.self after reached.result step.result lends takes_back step.ensures.err) c.args.self.now.by_entries
