use Rattle.std.proofs.Common.{◌≡◌, ◌+◌, ◌-◌, arith, rules}
use Rattle.httpdate.proofs.CalendarLemmas.{days_of_months_more}
use Rattle.radio_log.proofs.CalendarLemmas.{no_months, december}
use Rattle.radio_log.proofs.calendar.date_of.Goals as goal

pub months-init : goal.months-init
months-init c = grind (arith, no_months c.year_of-year.result.0)

pub months-preserved : goal.months-preserved
months-preserved c =
    let back : c.months.month + 1 - 1 ≡ c.months.month = omega arith in
    rw back (omega (arith, days_of_months_more c.year_of-year.result.0 c.months.month c.months.auto.month))

pub overflow_cast-result-2 : goal.overflow_cast-result-2
overflow_cast-result-2 c =
    let left = december _ c.months.month _ _ (omega arith) c.months.invariant.0 c.year_of-year.ensures.within in
    search rules

pub overflow_add-result-2 : goal.overflow_add-result-2
overflow_add-result-2 c =
    let left = december _ c.months.month _ _ (omega arith) c.months.invariant.0 c.year_of-year.ensures.within in
    search rules

pub returns-clause-civil : goal.returns-clause-civil
returns-clause-civil c =
    let left = december _ c.months.month _ _ (omega arith) c.months.invariant.0 c.year_of-year.ensures.within in
    search rules
