use Rattle.radio_book.proofs.HistoryLemmas.{legal_none}
use Rattle.radio_book.proofs.book.Book.pass.Goals as goal

pub returns-in_default-clause-legal : goal.returns-in_default-clause-legal
returns-in_default-clause-legal g c =
    let inside = c.self.inside.accounts in
    legal_none g.C.Chronicle.KEEPS g.H.Origin.opening (record { control = inside.control; lines = inside.lines.items; passes = inside.passes_left })
    c.in_default.ensures.none inside.by_entries
