use Rattle.std.proofs.Common.{refl}
use Rattle.radio_book.proofs.HistoryLemmas.{taken_back, made_still}
use Rattle.radio_book.proofs.accounts.Accounts.part_of.Goals as goal

pub invariant_of-self-clause-by_entries : goal.invariant_of-self-clause-by_entries
invariant_of-self-clause-by_entries g c =
    let back = taken_back _ c.args.self.now.control c.take_out.new.self c.take_out.result c.take_out.ensures.out c.take_out.ensures.err in
    made_still g.C.Chronicle.KEEPS g.H.Origin.opening c.args.self.now.lines.items c.args.self.now.lines.items back.0 back.1 c.args.self.now.control
    c.take_out.new.self refl back.2 c.args.self.now.by_entries
