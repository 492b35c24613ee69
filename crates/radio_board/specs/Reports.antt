-- What follows from what the desk of a worker reports.
use Rattle.std.specs.Prelude.{ℕ, ◌==◌, Bool, Option, None, Some, not, ◌&&◌, ◌||◌, nat_le, nat_lt, if◌then◌else◌}
use Rattle.radio_board.specs.declared.news.NewsFor.{NewsFor}
use Rattle.radio_board.specs.declared.report.Report.{Report}
use Rattle.radio_board.specs.declared.report.TurnDone.{TurnDone}
use Rattle.radio_board.specs.declared.worker_state.WorkerState.{WorkerState}
use Rattle.radio_board.specs.declared.worker_state.Step.{Step}
use Rattle.radio_board.specs.declared.worker_state.Step.TheVariants.{News, MuchNews, LieDown, Pause}
use Rattle.radio_board.specs.Serving.{is_served}
use Rattle.radio_board.specs.News.{is_for}
use Rattle.radio_board.specs.States.{has_drawn, has_news, waits, state_after_step, state_number}
use Rattle.radio_board.specs.Sums.{drawn_after, first_come, least_of, most_of, load_of, left_to_draw}

-- a worker holds up the end of a source as long as its listeners have not drawn all news, and it is served
-- rule: Closing of a source
abbrev pub holds_up : ℕ → Report → Bool
holds_up latest report = not (has_drawn report.state) && is_served report.turn_ms latest

-- of some number of times that workers got news, up to which this worker's listeners have drawn too
abbrev pub drawn_with : ℕ → ℕ → Report → ℕ
drawn_with drawn latest report = least_of drawn (holds_up latest report) report.drawn_news

-- of so many bytes that came from sources, how many the listeners of this worker have still to draw, if these are more than the
-- most of other workers, and it is served
abbrev pub most_behind : ℕ → ℕ → ℕ → Report → ℕ
most_behind most received latest report =
    most_of most (is_served report.turn_ms latest) (left_to_draw received report.drawn report.has_listeners)

-- up to which moment this worker has read its sockets too, if it has begun
-- rule: Server time
abbrev pub least_read : ℕ → Report → ℕ
least_read least report = least_of least report.works report.read_ms

-- how many connections it has, if it takes newcomers: it has begun, and is served
-- rule: Newcomers
abbrev pub load_taken : ℕ → Report → Option ℕ
load_taken latest report =
    if report.works && is_served report.turn_ms latest then Some (load_of report.connections report.newcomers) else None

-- whether its newcomers go to others: there are some, and it is not served
-- rule: Newcomers
abbrev pub loses_newcomers : ℕ → Report → Bool
loses_newcomers latest report = nat_lt 0 report.newcomers && not (is_served report.turn_ms latest)

-- by which step a worker waits: with news, or only without it
abbrev pub step_to_wait : Bool → Step
step_to_wait is_paused = if is_paused then Pause else LieDown

-- by which step it gets news
abbrev pub step_of_news : Bool → Step
step_of_news is_much = if is_much then MuchNews else News

-- whether a worker that takes a step to wait in this state has something to do all the same: it does not wait, or newcomers do
abbrev pub has_work_after_step : Step → WorkerState → ℕ → Bool
has_work_after_step step state newcomers = not (waits (state_after_step step state)) || nat_lt 0 newcomers

-- the number of the state after a step, if that is another
abbrev pub changed_number : Step → WorkerState → Option ℕ
changed_number step state = if state_number (state_after_step step state) == state_number state then None else Some (state_number (state_after_step step state))

-- whether so many bytes that came are much for its listeners: they have to draw so many of them still
abbrev pub is_much : ℕ → ℕ → Report → Bool
is_much much received report = nat_le much (left_to_draw received report.drawn report.has_listeners)

-- whether the worker of this number gets news: its listeners may have some, and it has listeners
abbrev pub gets_news : NewsFor → ℕ → Report → Bool
gets_news news number report = is_for news number && report.has_listeners

-- when the news came that waits; this moment, if none does
abbrev pub news_came : ℕ → Report → ℕ
news_came now report = if has_news report.state then report.came_us else now

-- what a worker reports once a turn had this result: what its listeners have drawn, and what it
-- serves
abbrev pub report_after_turn : TurnDone → Report → Report
report_after_turn done report = record report {
  drawn = drawn_after report.drawn done.received done.has_more;
  connections = done.connections;
  has_listeners = done.has_listeners;
}

-- the step that a worker takes between two reports: its first listeners get news
abbrev pub step_between : Report → Report → Option Step
step_between before next = if first_come before.has_listeners next.has_listeners then Some News else None
