-- The sums of the calendar, year by year and month by month.
use Rattle.std.proofs.Common.{◌≡◌, ℕ, zero, suc, ◌+◌, ◌-◌, ◌*◌, ◌/◌, ◌<◌, ◌≤◌, refl, arith}
use Rattle.httpdate.specs.Calendar.{days_in_year, days_of_years, days_of_months}
use Rattle.httpdate.proofs.CalendarLemmas.{days_of_years_closed, days_of_months_more, days_of_months_all}

pub no_months : (y : ℕ) → days_of_months y 0 ≡ 0
unfolding days_of_months
no_months y = refl

next_year : (n : ℕ) → days_of_years (suc n) ≡ days_of_years n + days_in_year (1970 + n)
unfolding days_of_years
next_year n = refl

-- no year has more than 366 days
years_short : (n : ℕ) → days_of_years n ≤ 366 * n
unfolding days_of_years
years_short zero = omega arith
years_short (suc n) = let before = years_short n in grind arith

-- so a year has begun on the day that so many years of 366 days end with
pub year_begun : (day before : ℕ) → before ≡ days_of_years (1970 + day / 366 - 1970) → before ≤ day
year_begun day before is =
    let back : 1970 + day / 366 - 1970 ≡ day / 366 = omega arith in
    omega (arith, rw back at is, years_short (day / 366))

-- a year more
pub years_more : (y : ℕ) → 1970 ≤ y → days_of_years (y + 1 - 1970) ≡ days_of_years (y - 1970) + days_in_year y
years_more y low =
    let past : y + 1 - 1970 ≡ suc (y - 1970) = omega arith in
    let back : 1970 + (y - 1970) ≡ y = omega arith in
    rw (past, next_year (y - 1970), back) refl

-- what all years before 9999 leave of the days to 10000 is less than a year
pub last_year : (y left day : ℕ) → y ≡ 9999 → days_of_years (y - 1970) + left ≡ day → day < 2932897 → left < 365
last_year y left day last so_far within =
    let past : y - 1970 ≡ 8029 = omega arith in
    omega (arith, rw past at so_far, days_of_years_closed 8029)

-- what eleven months leave of a year fits December
pub december : (y m left day : ℕ) → m - 1 ≡ 11 → days_of_months y (m - 1) + left ≡ day → day < days_in_year y → left < 31
december y m left day last so_far within =
    omega (arith, rw last at so_far, days_of_months_all y, days_of_months_more y 12 (omega arith))
