-- Books may go to another thread.
use denote.RattleType.{RattleType}
use denote.Param.Send.{IsSend, sendable}
use Rattle.std.proofs.Crossing.{crosses}
use Rattle.std.proofs.sync.ledger.Book.TheSendSync as ledger_book
use Rattle.std.proofs.sync.ledger.Share.TheSendSync as ledger_share
use Rattle.std.specs.declared.sync.ledger.Ledger as ledger
use Rattle.radio_chronicle.proofs.line.ControlLine.TheSendSync as control_line
use Rattle.radio_chronicle.proofs.notes.Notes.TheSendSync as notes
use Rattle.radio_parts.proofs.Threads.{control_send}
use Rattle.radio_parts_mount.proofs.Threads.{listed_send}
use Rattle.radio_values.proofs.mount_name.MountName.TheSendSync as mount_name
use Rattle.radio_book.specs.contracts.accounts.Accounts as accounts
use Rattle.radio_book.specs.contracts.book.Book as book
use Rattle.radio_book.specs.contracts.mount_book.MountBook as mount_book
use Rattle.radio_chronicle.specs.declared.chronicle.Chronicle as chronicle
use Rattle.radio_chronicle.specs.declared.origin.Origin as origin

module _ (C H : RattleType) (c : chronicle.Ghosts C.Denot) (h : origin.Ghosts H.Denot) (l : ledger.Ghosts H.Denot) where
  accounts_send : IsSend C → IsSend H → IsSend (accounts.the_field C H c h l).row
  accounts_send sc sh = search (sendable, crosses, ledger_book.the_send, ledger_share.the_send, control_send, control_line.the_send, notes.the_send) depth 12

  pub book_send : IsSend C → IsSend H → IsSend (book.the_row C H c h l)
  book_send sc sh = search (sendable, accounts_send) depth 10

module _ (C : RattleType) (c : chronicle.Ghosts C.Denot) where
  pub mount_book_send : IsSend C → IsSend (mount_book.the_row C c)
  mount_book_send sc = search (sendable, crosses, mount_name.the_send, listed_send) depth 30
