-- When a clock ends nothing in mounts' parts.
use Rattle.std.proofs.Common.{◌≡◌, ℕ, ◌+◌, ◌*◌, ◌<◌, ◌≤◌, ◌==◌, ◌||◌, min, Bool, true, false, List, [], ◌∷◌, Option, None, Some, refl, ap, sym, ◌∙◌, arith}
use Rattle.radio_book.proofs.Words.{if◌then◌else◌, find, is_some, list_any, option_map_or, part_due, MountPart, MountSetting}
use Rattle.std.specs.Str.{bytes_eq}
use Rattle.radio_parts_mount.specs.Due.{last_moment, due_at, seat_due, session_due}
use Rattle.radio_parts_mount.specs.Sessions.{Session}
use Rattle.radio_seats_rows.specs.declared.seat.Seat.{Seat}
use Rattle.radio_settings_values.specs.Options.{options_for}
use Rattle.radio_settings_values.specs.declared.settings.MountOptions.{MountOptions}
use Rattle.radio_settings_values.specs.declared.settings.Settings.{Settings}
use Rattle.radio_book.specs.Clocks.{last_block_in}

-- a session is due no earlier than by an earlier block
module _ (seconds ms : ℕ) where
  by_zero : (first last : ℕ) (none : Bool) → first ≤ last → ms < (if none then 0 else min (first + 1000 * seconds) last_moment)
      → ms < (if none then 0 else min (last + 1000 * seconds) last_moment)
  by_zero first last true before h = h
  by_zero first last false before h = omega (arith, before, h)

  to_last : (first : ℕ) (none : Bool) → ms < (if none then 0 else min (first + 1000 * seconds) last_moment) → ms < last_moment
  to_last first true h = omega (arith, h)
  to_last first false h = omega (arith, h)

  by_session : (known : ℕ) (session : Option Session)
      → ms < due_at seconds (min known (option_map_or (λ (s : Session). s.last_block) session last_moment))
      → ms < option_map_or (session_due seconds) session last_moment
  by_session known None h = to_last (min known last_moment) (seconds == 0) h
  by_session known (Some session) h = by_zero (min known session.last_block) session.last_block (seconds == 0) (omega arith) h

  pub due_later : (known : ℕ) (part : MountPart) → ms < due_at seconds (min known (last_block_in part)) → ms < part_due seconds part
  due_later known part h = by_session known part.session h

-- what is found is one of all
module _ {X : Type 0} (p q : X → Bool) where
  none_at : (x : X) (xs : List X) (found : Option X) (passes has : Bool) → p x ≡ has → (if passes then Some x else find q xs) ≡ found
      → (has || list_any p xs) ≡ false → (find q xs ≡ found → list_any p xs ≡ false → option_map_or p found false ≡ false)
      → option_map_or p found false ≡ false
  none_at x xs found passes true e is none later = cc
  none_at x xs found true false e is none later = ap (λ (o : Option X). option_map_or p o false) (sym is) ∙ e
  none_at x xs found false false e is none later = later is none

  found_is_none : (xs : List X) (found : Option X) → find q xs ≡ found → list_any p xs ≡ false → option_map_or p found false ≡ false
  found_is_none [] None is none = refl
  found_is_none [] (Some x) is none = let other : None ≡ Some x = is in cc
  found_is_none (x ∷ xs) found is none = none_at x xs found (q x) (p x) refl is none (found_is_none xs found)

-- a seat is due at no moment if no mount limits how long its listeners hear
abbrev pub limits : MountOptions → Bool
limits options = is_some options.listeners.max_listener_duration

unlimited : (options : MountOptions) (since : ℕ) → limits options ≡ false
    → option_map_or (λ seconds. due_at seconds since) options.listeners.max_listener_duration last_moment ≡ last_moment
unlimited options since none = by_duration options.listeners.max_listener_duration none where
  by_duration : (duration : Option ℕ) → is_some duration ≡ false → option_map_or (λ seconds. due_at seconds since) duration last_moment ≡ last_moment
  by_duration None none = refl
  by_duration (Some seconds) none = cc

by_table : (found : Option MountSetting) (others : MountOptions) → option_map_or (λ (m : MountSetting). limits m.options) found false ≡ false
    → limits others ≡ false → limits (option_map_or (λ (m : MountSetting). m.options) found others) ≡ false
by_table None others none unlimits = unlimits
by_table (Some mount) others none unlimits = none

pub never_due : (settings : Settings) (seat : Seat) → limits settings.other_mounts ≡ false
    → list_any (λ (m : MountSetting). limits m.options) settings.mounts ≡ false → seat_due settings seat ≡ last_moment
never_due settings seat others none =
    unlimited (options_for settings seat.home) seat.since
    (by_table (find (λ (m : MountSetting). bytes_eq m.name seat.home) settings.mounts) settings.other_mounts
    (found_is_none (λ (m : MountSetting). limits m.options) (λ (m : MountSetting). bytes_eq m.name seat.home) settings.mounts _ refl none) others)
