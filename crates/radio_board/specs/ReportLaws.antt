-- What holds of what the desks of workers report.
use Rattle.std.specs.Prelude.{◌≡◌, ◌≤◌, ◌<◌, ◌+◌, ℕ, true, false, None}
use Rattle.radio_board.specs.declared.report.Report.{Report}
use Rattle.radio_board.specs.Reports.{drawn_with, least_read, load_taken, loses_newcomers}
use Rattle.radio_board.specs.Serving.{most_still}
use Rattle.radio_board.specs.States.{has_drawn}

-- a worker whose listeners have drawn all news holds up the end of no source
abbrev pub DrawnHoldUpNobody : Type 0
DrawnHoldUpNobody = (drawn latest : ℕ) (report : Report) → has_drawn report.state ≡ true → drawn_with drawn latest report ≡ drawn

-- nor does one that has begun no turn for more than two seconds
abbrev pub StillHoldUpNobody : Type 0
StillHoldUpNobody = (drawn latest : ℕ) (report : Report) → report.turn_ms + most_still < latest → drawn_with drawn latest report ≡ drawn

-- another whose listeners have not drawn all news does: they have drawn what it says, and no more
abbrev pub UndrawnHoldUp : Type 0
UndrawnHoldUp = (drawn latest : ℕ) (report : Report) → has_drawn report.state ≡ false → latest ≤ report.turn_ms + most_still
    → (drawn_with drawn latest report ≤ report.drawn_news) × (drawn_with drawn latest report ≤ drawn)

-- all get no later moment than a worker that has begun has read up to
abbrev pub BegunAreWaitedFor : Type 0
BegunAreWaitedFor = (least : ℕ) (report : Report)
    → (report.works ≡ true → least_read least report ≤ report.read_ms) × (report.works ≡ false → least_read least report ≡ least)

-- a worker that has begun no turn for more than two seconds takes no newcomer, and what was put for it goes to others; no other
-- loses one
abbrev pub NewcomersAreServed : Type 0
NewcomersAreServed = (latest : ℕ) (report : Report)
    → (report.turn_ms + most_still < latest → (load_taken latest report ≡ None) × (0 < report.newcomers → loses_newcomers latest report ≡ true))
    × (latest ≤ report.turn_ms + most_still → loses_newcomers latest report ≡ false)
