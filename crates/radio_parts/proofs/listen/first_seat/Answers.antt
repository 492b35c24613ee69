use Rattle.std.proofs.Common.{refl}
use Rattle.radio_parts.proofs.listen.first_seat.Goals as goal

pub returns : goal.returns
returns c =
    rw (← c.session.view_is)
    (rw (c.time.ensures, c.in_ok-home.ensures, c.burst_start.ensures, c.burst_of-burst.ensures)
    (rw (c.interval_for-interval.ensures, c.get-mount.ensures, ← c.requires) refl))
