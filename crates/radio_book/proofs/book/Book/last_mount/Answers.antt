use Rattle.std.proofs.Common.{rules}
use Rattle.radio_book.proofs.HistoryLemmas.{legal_last}
use Rattle.radio_book.proofs.book.Book.last_mount.Goals as goal

pub returns-clause-legal : goal.returns-clause-legal
returns-clause-legal g c =
    let inside = c.self.inside.accounts in
    legal_last g.C.Chronicle.KEEPS g.H.Origin.opening inside.lines.items inside.control c.args.id _ (search rules) inside.by_entries
