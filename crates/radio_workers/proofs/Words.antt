-- what the proofs of this crate speak of, by the crate where it is defined
pub use Rattle.std.proofs.lemmas.Bool.Decides.{nat_tests}
pub use Rattle.std.specs.List.{position, position_or_len, remove}
pub use Rattle.radio_connections.specs.Connections.{Connection, lingers, without_at, without_first}
pub use Rattle.radio_workers.specs.Balance.{IdleIsEmpty, IsBalanced, IsKnown, IsPut, IsTaken, idle, less_one, part_count, put_by, sum_of, sum_of_transfers, taken_by}
pub use Rattle.radio_workers.specs.Passes.{IsTakenOrLeft, PassRecord, all_parts, weigh}
pub use Rattle.radio_workers.specs.Shifts.{HasParted, without_oldest}
pub use Rattle.radio_workers.specs.TakenConnections.{HasTakenMore}
pub use Rattle.radio_workers.specs.Working.{HasOnlyAsked, MayRefuse, ShiftOf, WorkerHasDone, admitted, closed, nothing_yet, parted, served, shift_of, turned_off}
pub use Rattle.radio_workers.specs.declared.intake.TheConstants.{ROOM}
