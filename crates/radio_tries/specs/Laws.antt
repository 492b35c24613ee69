-- What holds of relays that are tried again and again. Moments and times are in milliseconds.
use Rattle.std.specs.Prelude.{◌≡◌, ◌≤◌, ◌<◌, ◌+◌, ◌^◌, ℕ, Bool, true, false, [], ◌∷◌}
use Rattle.radio_masters.specs.Ends.{keeps_place}
use Rattle.radio_tries.specs.declared.outcome.RelayOutcome.{RelayOutcome}
use Rattle.radio_tries.specs.declared.pause.Pause.TheVariants.{Stops, Past, Waits}
use Rattle.radio_tries.specs.Pauses.{pause_at}
use Rattle.radio_tries.specs.Pulls.{is_late}
use Rattle.radio_tries.specs.Tries.{due_after, is_not_wished, kept_after, kept_at}

-- a relay that has ended, and was wished, is tried again no sooner than five seconds later
abbrev pub RelaysRest : Type 0
RelaysRest = (outcome : RelayOutcome) → is_not_wished outcome.why ≡ false → outcome.ms < 2 ^ 63 → due_after outcome ≡ outcome.ms + 5000

-- one that was not wished may be tried at once
abbrev pub UnwishedDoNot : Type 0
UnwishedDoNot = (outcome : RelayOutcome) → is_not_wished outcome.why ≡ true → due_after outcome ≡ 0

-- a place that an end keeps is kept before the relay may be tried again, and is free from then on
abbrev pub PlacesAreKept : Type 0
PlacesAreKept = (outcome : RelayOutcome) (ms : ℕ) → keeps_place outcome.why ≡ true → ms < due_after outcome → kept_at ms (kept_after outcome []) ≡ due_after outcome ∷ []

abbrev pub PlacesAreFreed : Type 0
PlacesAreFreed = (outcome : RelayOutcome) (ms : ℕ) → due_after outcome ≤ ms → kept_at ms (kept_after outcome []) ≡ []

-- a master that has not answered is given up ten seconds after it was asked, and not before
abbrev pub MastersAreGivenUp : Type 0
MastersAreGivenUp = (began ms : ℕ) → began + 10000 ≤ ms → is_late began ms ≡ true

abbrev pub MastersHaveTime : Type 0
MastersHaveTime = (began ms : ℕ) → ms < began + 10000 → is_late began ms ≡ false

-- a thread that waits looks twice a second whether it is to stop, and does not wait beyond its moment
abbrev pub PausesAreShort : Type 0
PausesAreShort = (stopped : Bool) (ms until n : ℕ) → pause_at stopped ms until ≡ Waits n → (n ≤ 500) × (ms + n ≤ until)

-- it goes on only once its moment has come
abbrev pub PausesAreWhole : Type 0
PausesAreWhole = (stopped : Bool) (ms until : ℕ) → pause_at stopped ms until ≡ Past → until ≤ ms

-- and stops if it is to
abbrev pub ThreadsStop : Type 0
ThreadsStop = (ms until : ℕ) → pause_at true ms until ≡ Stops
