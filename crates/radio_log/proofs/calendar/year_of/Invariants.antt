use Rattle.std.proofs.Common.{◌≡◌, ◌+◌, ◌-◌}
use Rattle.httpdate.specs.Calendar.{days_of_years}
use Rattle.radio_log.proofs.calendar.year_of.Given as goal

abbrev pub invariant-years : goal.invariant-years
invariant-years l = days_of_years (l.year - 1970) + l.left ≡ l.fn.day
