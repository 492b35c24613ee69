use Rattle.std.proofs.Common.{inr}
use Rattle.radio_book.proofs.MountBookLemmas.{refused_same}
use Rattle.radio_book.proofs.book.Book.wanted.Goals as goal

pub returns-clause-same : goal.returns-clause-same
returns-clause-same g c = refused_same c.args.lent.now c.wanted.new.lent _ _ (inr c.wanted.ensures.lent)
