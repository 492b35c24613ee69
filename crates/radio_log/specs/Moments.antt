-- Moments in UTC, by the Gregorian calendar.
use Rattle.std.specs.Prelude.{ℕ, ◌≡◌, List, ◌++◌, codes}
use Rattle.httpdate.specs.Calendar.{IsCivilDate, IsTimeOfDay, seconds_from_civil}
use Rattle.httpdate.specs.Text.{two_digits, four_digits}
use Rattle.radio_log.specs.declared.moment.Moment.{Moment}

-- the calendar has the day, the clock has the time, and so many seconds lie between the beginning of 1970 and it
-- rule: Line of the log
abbrev pub IsSecond : ℕ → Moment → Type 0
IsSecond seconds m =
    IsCivilDate m.year m.month m.day × IsTimeOfDay m.hour m.minute m.second
    × (seconds_from_civil m.year m.month m.day m.hour m.minute m.second ≡ seconds)

-- the day, `2026-11-25`
unfoldable pub day_text : Moment → List ℕ
day_text m = four_digits m.year ++ codes "-" ++ two_digits m.month ++ codes "-" ++ two_digits m.day

-- the time, `08:43:49`
unfoldable pub time_text : Moment → List ℕ
time_text m = two_digits m.hour ++ codes ":" ++ two_digits m.minute ++ codes ":" ++ two_digits m.second

-- `2026-11-25T08:43:49Z` (RFC 3339, section 5.6)
unfoldable pub moment_text : Moment → List ℕ
moment_text m = day_text m ++ codes "T" ++ time_text m ++ codes "Z"

-- `2026-11-25T08:43:49+0000` (ISO 8601, section 5.4.2)
unfoldable pub offset_text : Moment → List ℕ
offset_text m = day_text m ++ codes "T" ++ time_text m ++ codes "+0000"
