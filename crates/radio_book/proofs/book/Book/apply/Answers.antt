use Rattle.radio_book.proofs.MountBookLemmas.{same_so}
use Rattle.radio_book.proofs.HistoryLemmas.{legal_reply}
use Rattle.radio_book.proofs.book.Book.apply.Goals as goal

pub returns-then-KEEPS-clause-same : goal.returns-then-KEEPS-clause-same
returns-then-KEEPS-clause-same g c =
    same_so c.args.lent.now c.note.new.lent _ _ c.args.event c.note.result c.note.ensures.step c.note.ensures.err

pub returns-else-KEEPS-clause-same : goal.returns-else-KEEPS-clause-same
returns-else-KEEPS-clause-same g c =
    same_so c.args.lent.now c.answer.new.lent _ _ c.args.event c.answer.result c.answer.ensures.step c.answer.ensures.err

pub returns-then-KEEPS-clause-legal : goal.returns-then-KEEPS-clause-legal
returns-then-KEEPS-clause-legal g c =
    legal_reply g.C.Chronicle.KEEPS g.H.Origin.opening _ c.args.lent.now c.note.new.lent _ _ c.args.event c.note.result c.note.ensures.step c.self.inside.accounts.by_entries

pub returns-else-KEEPS-clause-legal : goal.returns-else-KEEPS-clause-legal
returns-else-KEEPS-clause-legal g c =
    legal_reply g.C.Chronicle.KEEPS g.H.Origin.opening _ c.args.lent.now c.answer.new.lent _ _ c.args.event c.answer.result c.answer.ensures.step c.self.inside.accounts.by_entries
