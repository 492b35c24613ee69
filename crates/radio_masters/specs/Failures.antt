-- How often the log says that a relay fails.
use Rattle.std.specs.Prelude.{◌≡◌, ◌≢◌, ◌+◌, ◌-◌, ◌^◌, ◌<◌, ◌≤◌, ℕ, Option, None, Some}
use Rattle.radio_masters.specs.declared.failing.Failing.{Failing}
use Rattle.radio_masters.specs.declared.relay_end.RelayEnd.{RelayEnd}

-- an hour, in milliseconds
abbrev pub logged_again_ms : ℕ
logged_again_ms = 3600000

-- it was logged at this moment that the relay failed
abbrev pub logged_now : RelayEnd → ℕ → Failing
logged_now why ms = record { why = why; logged_ms = ms; unlogged = 0 }

-- once more, as far as 64 bits count
abbrev pub IsOneMore : ℕ → ℕ → Type 0
IsOneMore n n' = (n + 1 < 2 ^ 64 → n' ≡ n + 1) × (n ≤ n')

-- what is known of the relay when it has failed at a moment, and how often it has if that is logged
-- rule: Failures of relays
pub record FailureIsNoted (before : Option Failing) (why : RelayEnd) (ms : ℕ) (after : Failing) (logged : Option ℕ) : Type 0 where
  -- the first failure is logged
  pub first : before ≡ None → (after ≡ logged_now why ms) × (logged ≡ Some 1)
  -- so is one for another reason
  pub another : (f : Failing) → before ≡ Some f → f.why ≢ why → (after ≡ logged_now why ms) × (logged ≡ Some 1)
  -- one for the same reason within an hour is counted, and not logged
  pub counted : (f : Failing) → before ≡ Some f → f.why ≡ why → ms - f.logged_ms < logged_again_ms
      → (logged ≡ None) × (after.why ≡ why) × (after.logged_ms ≡ f.logged_ms) × IsOneMore f.unlogged after.unlogged
  -- and after an hour logged, with the count
  pub again : (f : Failing) → before ≡ Some f → f.why ≡ why → logged_again_ms ≤ ms - f.logged_ms
      → (after ≡ logged_now why ms) × (times : ℕ) × (logged ≡ Some times) × IsOneMore f.unlogged times
