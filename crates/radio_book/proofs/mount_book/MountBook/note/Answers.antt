use Rattle.radio_book.proofs.OwnLemmas.{others_not_here}
use Rattle.radio_book.proofs.mount_book.MountBook.note.Goals as goal

pub returns-then-not-is_own-clause-done : goal.returns-then-not-is_own-clause-done
returns-then-not-is_own-clause-done g c can = others_not_here c.args.self.now c.args.event (c.is_own.ensures.others c.if-not-is_own.true)
