use Rattle.std.proofs.Common.{arith}
use Rattle.radio_log.proofs.CalendarLemmas.{year_begun, years_more, last_year}
use Rattle.radio_log.proofs.calendar.year_of.Goals as goal

pub overflow_sub-left : goal.overflow_sub-left
overflow_sub-left c = year_begun c.args.day c.days_before.result c.days_before.ensures

pub years-init : goal.years-init
years-init c = omega (arith, c.days_before.ensures, year_begun c.args.day c.days_before.result c.days_before.ensures)

pub years-preserved : goal.years-preserved
years-preserved c = omega (arith, years_more c.years.year (omega arith))

pub returns-clause-within : goal.returns-clause-within
returns-clause-within c = last_year c.years.year c.years.left c.args.day (omega arith) c.years.invariant c.requires
