use Rattle.radio_book.proofs.Newcomers.{own_noted}
use Rattle.radio_book.proofs.holdings.Holdings.note_own.Goals as goal

pub invariant_of-self-clause-here : goal.invariant_of-self-clause-here
invariant_of-self-clause-here g c =
    own_noted c.args.self.now.receipts.items c.push_reserved.new.self.items c.args.receipt c.args.self.now.present.items c.args.self.now.here
    c.push_reserved.ensures.items c.requires.own
