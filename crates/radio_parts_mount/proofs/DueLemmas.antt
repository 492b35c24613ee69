-- before it is due, nothing at a mount has had its time; and who is carried along, or loses its seat, is due no earlier
use Rattle.std.proofs.Common.{◌≡◌, ℕ, ◌+◌, ◌*◌, ◌<◌, ◌≤◌, ◌==◌, Bool, true, false, Option, Some, None, List, [], ◌∷◌, min, refl, arith}
use Rattle.radio_parts_mount.proofs.Words.{if◌then◌else◌, fold, option_map_or, nat_tests, Rule, Each, advanced, moved, lost_by, loses, holds_of, lies_back, has_sat_out}
use Rattle.radio_settings_values.specs.declared.settings.Settings.{Settings}
use Rattle.radio_settings_values.specs.Options.{options_for}
use Rattle.radio_seats_rows.specs.declared.seat.Seating.{Seating}
use Rattle.radio_seats_rows.specs.declared.seat.Seating.TheVariants.{Sits, Finished}
use Rattle.radio_parts_mount.specs.Due.{last_moment, due_at, listener_due, earliest}

not_back : (seconds moment ms : ℕ) (none : Bool) → (seconds == 0) ≡ none → ms < (if none then 0 else min (moment + 1000 * seconds) last_moment)
    → lies_back seconds moment ms ≡ false
not_back seconds moment ms true e before = absurd (omega (arith, before))
not_back seconds moment ms false e before = grind (arith, nat_tests, before, e)

pub not_yet : (seconds moment ms : ℕ) → ms < due_at seconds moment → lies_back seconds moment ms ≡ false
not_yet seconds moment ms before = not_back seconds moment ms (seconds == 0) refl before

sits_yet : (duration : Option ℕ) (since ms : ℕ) → ms < option_map_or (λ seconds. due_at seconds since) duration last_moment
    → option_map_or (λ seconds. lies_back seconds since ms) duration false ≡ false
sits_yet None since ms before = refl
sits_yet (Some seconds) since ms before = not_yet seconds since ms before

pub has_not_sat_out : (settings : Settings) (ms : ℕ) (seating : Seating) (id : ℕ) → ms < listener_due settings (record { id = id; seating = seating })
    → holds_of (has_sat_out settings ms) seating ≡ false
has_not_sat_out settings ms (Sits seat) id before =
    sits_yet (options_for settings seat.home).listeners.max_listener_duration seat.since ms before
has_not_sat_out settings ms (Finished rule mount) id before = refl

-- all is due at the earliest moment or later

module _ {X : Type 0} (due : X → ℕ) where
  from_fold : (moment first : ℕ) (xs : List X) → moment ≤ fold (λ least x. min least (due x)) first xs → (moment ≤ first) × Each (λ x. moment ≤ due x) xs
  from_fold moment first [] h = (h, tt)
  from_fold moment first (x ∷ xs) h =
      let later = from_fold moment (min first (due x)) xs h in
      (omega (arith, later.0), (omega (arith, later.0), later.1))

  pub from_earliest : (moment : ℕ) (xs : List X) → moment ≤ earliest due xs → Each (λ x. moment ≤ due x) xs
  from_earliest moment xs h = (from_fold moment last_moment xs h).1

-- what is due is due by the last moment

pub due_by_last : (seconds moment : ℕ) → due_at seconds moment ≤ last_moment
due_by_last seconds moment = by_test (seconds == 0) where
  by_test : (none : Bool) → (if none then 0 else min (moment + 1000 * seconds) last_moment) ≤ last_moment
  by_test true = omega arith
  by_test false = omega arith

pub duration_by_last : (duration : Option ℕ) (since : ℕ) → option_map_or (λ seconds. due_at seconds since) duration last_moment ≤ last_moment
duration_by_last None since = omega arith
duration_by_last (Some seconds) since = due_by_last seconds since

module _ (moment : ℕ) (last : moment ≤ last_moment) where
  -- who loses its seat is due no more, and anybody else as before
  pub ended_due : (settings : Settings) (rule : Rule) (id : ℕ) (seating : Seating) (ends : Bool) → moment ≤ listener_due settings (record { id = id; seating = seating })
      → moment ≤ listener_due settings (record { id = id; seating = (if ends then lost_by rule seating else seating) })
  ended_due settings rule id (Sits seat) true h = last
  ended_due settings rule id (Finished other mount) true h = last
  ended_due settings rule id seating false h = h

  pub heard_due : (settings : Settings) (place id : ℕ) (seating : Seating) → moment ≤ listener_due settings (record { id = id; seating = seating })
      → moment ≤ listener_due settings (advanced place (record { id = id; seating = seating }))
  heard_due settings place id (Sits seat) h = h
  heard_due settings place id (Finished rule mount) h = h

  -- who is carried along is due as before, since its home and the moment of its seat stay
  pub moved_due : (settings : Settings) (to : List ℕ) (session place id : ℕ) (seating : Seating)
      → moment ≤ listener_due settings (record { id = id; seating = seating })
      → moment ≤ listener_due settings (moved to session place (record { id = id; seating = seating }))
  moved_due settings to session place id (Sits seat) h = h
  moved_due settings to session place id (Finished rule mount) h = h

  pub lost_due : (settings : Settings) (rule : Rule) (id : ℕ) (seating : Seating) → moment ≤ listener_due settings (record { id = id; seating = seating })
      → moment ≤ listener_due settings (loses rule (record { id = id; seating = seating }))
  lost_due settings rule id (Sits seat) h = last
  lost_due settings rule id (Finished other mount) h = h
