use Rattle.std.proofs.Common.{refl, true}
use Rattle.radio_book.proofs.Words.{IsControlAsBefore}
use Rattle.radio_book.proofs.HistoryLemmas.{legal_wanted, made_still, wanted_over}
use Rattle.radio_book.proofs.accounts.Accounts.wanted.Goals as goal

pub invariant_of-self-clause-by_entries : goal.invariant_of-self-clause-by_entries
invariant_of-self-clause-by_entries g c =
    let as_before : IsControlAsBefore c.args.lent.now c.args.self.now.control c.take_back_each.new.lent c.take_back_each.new.control = record {
      lent = c.lend_each.new.lent;
      whole = c.lend_each.new.control;
      reached = true;
      lends = c.lend_each.ensures;
      takes_back = c.take_back_each.ensures;
    } in
    made_still g.C.Chronicle.KEEPS g.H.Origin.opening c.args.self.now.lines.items c.args.self.now.lines.items c.args.lent.now c.take_back_each.new.lent
    c.args.self.now.control c.take_back_each.new.control refl as_before c.args.self.now.by_entries

pub returns-clause-over : goal.returns-clause-over
returns-clause-over g c =
    wanted_over (λ mounts. mounts.items) c.args.lent.now c.lend_each.new.lent c.args.self.now.control c.lend_each.new.control c.wanted-wanted.result
    c.lend_each.ensures c.wanted-wanted.ensures

pub returns-clause-legal : goal.returns-clause-legal
returns-clause-legal g c =
    legal_wanted g.C.Chronicle.KEEPS g.H.Origin.opening (λ mounts. mounts.items) c.args.self.now.lines.items c.args.lent.now c.lend_each.new.lent
    c.args.self.now.control c.lend_each.new.control c.wanted-wanted.result c.lend_each.ensures c.wanted-wanted.ensures c.args.self.now.by_entries
