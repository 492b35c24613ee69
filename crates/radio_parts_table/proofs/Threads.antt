-- The listeners may go to another thread.
use denote.Param.Send.{IsSend, sendable}
use Rattle.std.proofs.Crossing.{crosses}
use Rattle.radio_seats.proofs.seats.Seats.TheSendSync as seats
use Rattle.radio_tables.proofs.table.Table.TheSendSync as table
use Rattle.radio_parts_mount.proofs.Threads.{listed_send}
use Rattle.radio_parts_table.specs.contracts.listeners.Listeners.{the_row}

pub listeners_send : IsSend the_row
listeners_send = search (sendable, crosses, seats.the_send, table.the_send, listed_send) depth 30
