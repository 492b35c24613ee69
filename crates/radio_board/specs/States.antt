-- What a worker does, as the threads see it that give it news, and wake it.
use Rattle.std.specs.Prelude.{ℕ, Bool, true, false}
use Rattle.radio_board.specs.declared.worker_state.WorkerState.{WorkerState}
use Rattle.radio_board.specs.declared.worker_state.WorkerState.TheVariants.{Awake, Drawing, Asleep, Paused}
use Rattle.radio_board.specs.declared.worker_state.Step.{Step}
use Rattle.radio_board.specs.declared.worker_state.Step.TheVariants.{News, MuchNews, Wake, LieDown, Pause, BeginRound, EndRound}

-- whether news waits for it
abbrev pub has_news : WorkerState → Bool
has_news (Awake news) = news
has_news (Drawing news) = news
has_news Asleep = false
has_news (Paused news) = news

-- whether it waits until it is woken, or for some time
abbrev pub waits : WorkerState → Bool
waits (Awake news) = false
waits (Drawing news) = false
waits Asleep = true
waits (Paused news) = true

-- whether its listeners have drawn all the news that it got
-- rule: Closing of a source
abbrev pub has_drawn : WorkerState → Bool
has_drawn (Awake true) = false
has_drawn (Awake false) = true
has_drawn (Drawing news) = false
has_drawn Asleep = true
has_drawn (Paused true) = false
has_drawn (Paused false) = true

-- its state after a step
-- rule: News wakes once
abbrev pub state_after_step : Step → WorkerState → WorkerState
state_after_step News (Awake news) = Awake true
state_after_step News (Drawing news) = Drawing true
state_after_step News Asleep = Awake true
state_after_step News (Paused news) = Paused true
state_after_step MuchNews (Awake news) = Awake true
state_after_step MuchNews (Drawing news) = Drawing true
state_after_step MuchNews Asleep = Awake true
state_after_step MuchNews (Paused news) = Awake true
state_after_step Wake (Awake news) = Awake news
state_after_step Wake (Drawing news) = Drawing news
state_after_step Wake Asleep = Awake false
state_after_step Wake (Paused news) = Awake news
state_after_step LieDown (Awake true) = Awake true
state_after_step LieDown (Awake false) = Asleep
state_after_step LieDown (Drawing news) = Drawing news
state_after_step LieDown Asleep = Asleep
state_after_step LieDown (Paused news) = Paused news
state_after_step Pause (Awake news) = Paused news
state_after_step Pause (Drawing news) = Drawing news
state_after_step Pause Asleep = Asleep
state_after_step Pause (Paused news) = Paused news
state_after_step BeginRound (Awake news) = Drawing false
state_after_step BeginRound (Drawing news) = Drawing false
state_after_step BeginRound Asleep = Drawing false
state_after_step BeginRound (Paused news) = Drawing false
state_after_step EndRound (Awake news) = Awake news
state_after_step EndRound (Drawing news) = Awake news
state_after_step EndRound Asleep = Asleep
state_after_step EndRound (Paused news) = Paused news

-- the number of a state where it is shared
abbrev pub state_number : WorkerState → ℕ
state_number (Awake false) = 0
state_number (Awake true) = 1
state_number (Drawing false) = 2
state_number (Drawing true) = 3
state_number Asleep = 4
state_number (Paused false) = 5
state_number (Paused true) = 6
