use Rattle.std.proofs.Common.{◌≡◌, ◌+◌, ◌-◌, arith}
use Rattle.httpdate.proofs.CalendarLemmas.{days_of_years_closed}
use Rattle.radio_log.proofs.calendar.days_before.Goals as goal

pub returns : goal.returns
returns c =
    let past : c.args.year - 1970 + 369 ≡ c.args.year - 1601 = omega arith in
    omega (arith, rw past at (days_of_years_closed (c.args.year - 1970)))
