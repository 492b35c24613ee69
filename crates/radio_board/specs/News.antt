-- When a worker begins a round of draws for news. Moments and times are in microseconds.
use Rattle.std.specs.Prelude.{ℕ, Bool, true, false, ◌==◌, not, List, ◌∷◌, if◌then◌else◌, ◌+◌, ◌-◌, ◌*◌, ◌^◌, min, max, fold, take, replicate, nat_lt}
use Rattle.radio_board.specs.declared.news.NewsFor.{NewsFor}
use Rattle.radio_board.specs.declared.news.NewsFor.TheVariants.{Nobody, AllBut, All}

-- a moment has 64 bits
abbrev pub as_moment : ℕ → ℕ
as_moment us = min (2 ^ 64 - 1) us

-- a round of one of so many workers begins so many times the shortest of its last rounds after the last one began, at the earliest. It is 20 times, or 10
-- times for each worker, if that is more
-- rule: News waits
abbrev pub spacing_for : ℕ → ℕ
spacing_for workers = max (as_moment (workers * 10)) 20

-- news waits so long at most
abbrev pub most_news_wait : ℕ
most_news_wait = 250000

-- when the last round began, and how long the last eight took, the latest first. Whether the news of the last one came before
-- its pause had ended. And how many times the shortest passes from one to the next
pub record Rounds : Type 0 where
  pub began : ℕ
  pub took : List ℕ
  pub was_early : Bool
  pub spacing : ℕ

-- there was no round yet of one of so many workers: a worker that has made fewer than eight has no pause
abbrev pub no_rounds : ℕ → Rounds
no_rounds workers = record { began = 0; took = replicate 8 0; was_early = false; spacing = spacing_for workers }

-- the shortest of some times
abbrev pub shortest : List ℕ → ℕ
shortest times = fold min (2 ^ 64 - 1) times

-- when the pause ends
-- rule: News waits
abbrev pub pause_end : Rounds → ℕ
pause_end rounds = as_moment (rounds.began + as_moment (shortest rounds.took * rounds.spacing))

-- for how long news that came at that moment waits still at this one: not at all if much has come
-- rule: News waits
abbrev pub wait_left : ℕ → ℕ → Bool → Rounds → ℕ
wait_left now came is_much rounds = if is_much then 0 else min (pause_end rounds - now) (as_moment (came + most_news_wait) - now)

-- a round begins at this moment, for news that came at that one
-- rule: News waits
abbrev pub round_begun : ℕ → ℕ → Rounds → Rounds
round_begun now came rounds = record rounds { began = now; was_early = nat_lt came (pause_end rounds) }

-- it ends at this moment
-- rule: News waits
abbrev pub round_ended : ℕ → Rounds → Rounds
round_ended now rounds = record rounds { took = (now - rounds.began) ∷ take 7 rounds.took }

-- whether it is for the listeners of the worker of this number
abbrev pub is_for : NewsFor → ℕ → Bool
is_for Nobody number = false
is_for (AllBut other) number = not (number == other)
is_for All number = true

-- whether it is for the listeners of some worker
abbrev pub is_for_some : NewsFor → Bool
is_for_some Nobody = false
is_for_some (AllBut other) = true
is_for_some All = true
