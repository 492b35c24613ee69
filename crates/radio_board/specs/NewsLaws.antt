-- What holds of the wait of news.
use Rattle.std.specs.Prelude.{◌≡◌, ◌≤◌, ◌<◌, ◌⊎◌, ◌+◌, ◌*◌, ◌-◌, ◌^◌, ℕ, Bool, false}
use Rattle.radio_board.specs.News.{Rounds, shortest, spacing_for, most_news_wait, wait_left}

-- news does not wait at a moment so long after it came
abbrev pub WaitsEnd : Type 0
WaitsEnd = (now came : ℕ) (is_much : Bool) (rounds : Rounds) → came + most_news_wait ≤ now → wait_left now came is_much rounds ≡ 0

-- if not much has come, news that does not wait came so long ago, or the last round began so many times the shortest ago
abbrev pub RoundsAreSpaced : Type 0
RoundsAreSpaced = (now came : ℕ) (rounds : Rounds) → now < 2 ^ 64 - 1 → wait_left now came false rounds ≡ 0
    → (came + most_news_wait ≤ now) ⊎ (rounds.began + shortest rounds.took * rounds.spacing ≤ now)

-- of each worker the rounds are 20 times the shortest apart at least; of so many workers, 10 times for each
abbrev pub RoundsAreFew : Type 0
RoundsAreFew = (workers : ℕ) → workers < 2 ^ 32 → (20 ≤ spacing_for workers) × (10 * workers ≤ spacing_for workers)
