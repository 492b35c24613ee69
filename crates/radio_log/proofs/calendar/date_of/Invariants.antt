use Rattle.std.proofs.Common.{◌≡◌, ◌+◌, ◌-◌, ◌<◌}
use Rattle.httpdate.specs.Calendar.{days_of_months}
use Rattle.radio_log.proofs.calendar.date_of.Given as goal

abbrev pub invariant-months : goal.invariant-months
invariant-months l = (days_of_months l.year (l.month - 1) + l.left ≡ l.initial.left) × (l.left < 366)
