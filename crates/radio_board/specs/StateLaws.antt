-- What holds of a worker's states.
use Rattle.std.specs.Prelude.{◌≡◌, ◌⊎◌, true, false}
use Rattle.radio_board.specs.declared.worker_state.WorkerState.{WorkerState}
use Rattle.radio_board.specs.declared.worker_state.WorkerState.TheVariants.{Asleep}
use Rattle.radio_board.specs.declared.worker_state.Step.{Step}
use Rattle.radio_board.specs.declared.worker_state.Step.TheVariants.{News, MuchNews, LieDown, BeginRound, EndRound}
use Rattle.radio_board.specs.States.{has_news, has_drawn, waits, state_after_step}

-- news that a worker gets is there, whatever it does at that moment
abbrev pub NewsIsThere : Type 0
NewsIsThere = (state : WorkerState) → (has_news (state_after_step News state) ≡ true) × (has_news (state_after_step MuchNews state) ≡ true)

-- it stays there until a round begins
abbrev pub NewsStays : Type 0
NewsStays = (step : Step) (state : WorkerState) → has_news state ≡ true → (has_news (state_after_step step state) ≡ true) ⊎ (step ≡ BeginRound)

-- which takes it
abbrev pub NewsIsTaken : Type 0
NewsIsTaken = (state : WorkerState) → has_news (state_after_step BeginRound state) ≡ false

-- listeners who have not drawn have drawn only once a round ends
abbrev pub RoundsDraw : Type 0
RoundsDraw = (step : Step) (state : WorkerState) → has_drawn state ≡ false → has_drawn (state_after_step step state) ≡ true → step ≡ EndRound

-- a worker that lies down with news does not wait
abbrev pub NewsKeepsAwake : Type 0
NewsKeepsAwake = (state : WorkerState) → waits state ≡ false → has_news state ≡ true → waits (state_after_step LieDown state) ≡ false

-- one that is asleep is woken by news, and each is by much news
abbrev pub NewsWakes : Type 0
NewsWakes = (waits (state_after_step News Asleep) ≡ false) × ((state : WorkerState) → waits (state_after_step MuchNews state) ≡ false)
