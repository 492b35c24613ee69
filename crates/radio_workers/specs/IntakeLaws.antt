-- What holds of connections that are accepted. Moments and times are in milliseconds.
use Rattle.std.specs.Prelude.{◌≡◌, ◌<◌, ◌+◌, ◌^◌, ℕ, false, nat_lt, List, [], ◌∷◌}
use Rattle.radio_workers.specs.declared.accepts.AcceptTry.{AcceptTry}
use Rattle.radio_workers.specs.declared.accepts.AcceptTry.TheVariants.{Accepted, Failed, NoDescriptor}
use Rattle.radio_workers.specs.Accepting.{Accepting, closed_in, most_failed, after_try}

-- what is noted after some tries, each at its moment; the last one comes first
abbrev pub accepting_after : List (ℕ × AcceptTry) → Accepting
accepting_after [] = record { failed = 0; not_before = 0; is_short = false }
accepting_after (one ∷ earlier) = after_try one.0 one.1 (accepting_after earlier)

-- how many have failed in a row; want of descriptors is no failure
abbrev pub failed_in_a_row : List (ℕ × AcceptTry) → ℕ
failed_in_a_row [] = 0
failed_in_a_row ((ms, Accepted) ∷ earlier) = 0
failed_in_a_row ((ms, Failed) ∷ earlier) = failed_in_a_row earlier + 1
failed_in_a_row ((ms, NoDescriptor) ∷ earlier) = failed_in_a_row earlier

-- a server goes on as long as fewer than a hundred have failed in a row
abbrev pub HundredFailuresEndIt : Type 0
HundredFailuresEndIt = (tries : List (ℕ × AcceptTry)) → nat_lt (accepting_after tries).failed most_failed ≡ nat_lt (failed_in_a_row tries) 100

-- none is tried for a tenth of a second after one without a connection
abbrev pub FailuresRest : Type 0
FailuresRest = (earlier : List (ℕ × AcceptTry)) (ms : ℕ) → ms < 2 ^ 63
    → ((accepting_after ((ms, Failed) ∷ earlier)).not_before ≡ ms + 100) × ((accepting_after ((ms, NoDescriptor) ∷ earlier)).not_before ≡ ms + 100)

-- if a descriptor was wanted, one is tried again as soon as a connection was closed
abbrev pub ClosingsFree : Type 0
ClosingsFree = (earlier : List (ℕ × AcceptTry)) (ms : ℕ) → (closed_in (accepting_after ((ms, NoDescriptor) ∷ earlier))).not_before ≡ 0
