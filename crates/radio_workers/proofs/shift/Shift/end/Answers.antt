use Rattle.std.proofs.Common.{sym}
use Rattle.radio_workers.proofs.shift.Shift.end.Goals as goal

pub returns : goal.returns
returns g c = (
  c.leave_all.new.server,
  c.leave_all-2.new.server,
  rw (sym c.into_server-watched.ensures, sym c.as_slice.ensures.value) c.leave_all.ensures,
  rw (sym c.as_slice-2.ensures.value) c.leave_all-2.ensures,
  c.into_pass.ensures,
)
