-- what a walk comes to
use Rattle.std.proofs.Common.{◌≡◌, ◌-◌, ◌<◌, ℕ, zero, suc, Bool, true, false, List, Option, Some, None, refl, arith}
use Rattle.radio_fallback.proofs.Words.{if◌then◌else◌, Credentials, Rule, Listener, Sight, found_at, stop_of, landing_at, landing_here, hands_on, next_mount, onward, walk, landing, stop_in}

stop_at : (mount : List ℕ) (stop : Option Rule) → stop_in (landing_at mount stop) ≡ stop
stop_at mount None = refl
stop_at mount (Some rule) = refl

-- a walk takes one step, and goes on from there with one mount less to look at
pub one_step : (left : ℕ) (sight : Sight) (others : List Listener) (pair : Option Credentials) (mount : List ℕ) → 0 < left
    → walk left sight others pair mount ≡ onward (walk (left - 1) sight others pair) (landing_here sight others pair mount) (next_mount sight others mount)
one_step zero sight others pair mount some = absurd (omega (arith, some))
one_step (suc left) sight others pair mount some = let less : suc left - 1 ≡ left = omega arith in rw less refl

-- ten mounts at the most
pub walks_ten : (sight : Sight) (others : List Listener) (pair : Option Credentials) (mount : List ℕ)
    → walk 10 sight others pair mount ≡ landing sight others pair mount
unfolding landing
walks_ten sight others pair mount = refl

pub landing_is : (sight : Sight) (others : List Listener) (pair : Option Credentials) (mount : List ℕ)
    → landing sight others pair mount ≡ onward (walk 9 sight others pair) (landing_here sight others pair mount) (next_mount sight others mount)
unfolding landing
landing_is sight others pair mount = refl

-- where the mount has no fallback, a walk is stopped by what it finds at the mount from which it begins
pub stopped_where_it_begins : (sight : Sight) (seats : List Listener) (mount : List ℕ) (pair : Option Credentials) → sight.fallback mount ≡ None
    → stop_in (landing sight seats pair mount) ≡ stop_of (found_at sight seats mount pair)
stopped_where_it_begins sight seats mount pair none =
    rw (landing_is sight seats pair mount, stays_here (hands_on sight seats mount)) (stop_at mount (stop_of (found_at sight seats mount pair))) where
      stays_here : (b : Bool) → (if b then sight.fallback mount else None) ≡ None
      stays_here true = none
      stays_here false = refl
