-- the session that listeners of a mount draw: its own, or silence while it waits for one
use Rattle.std.proofs.Common.{◌≡◌, Bool, true, false, ℕ, Option, Some, None, List, refl, ap, sym, ◌∙◌}
use Rattle.radio_parts.proofs.Words.{if◌then◌else◌, option_map_or, option_or, Session, session_of, live_end, live_number, StationState, is_on_demand, silence_at, silence_of, heard_at}
use Rattle.radio_settings_values.specs.declared.settings.Settings.{Settings}
use Rattle.radio_parts_mount.specs.StatePart.{end_in}
use Rattle.radio_parts_mount.specs.Stream.{end_of}
use Rattle.radio_parts_mount.proofs.SessionLookups.{found_named}

module _ (station : StationState) (mount : List ℕ) where
  pub heard_live : (session : Session) → session_of station.live mount ≡ Some session → heard_at station mount ≡ Some session
  heard_live session live = ap (λ (found : Option Session). option_or found (silence_of station mount)) live

  silence_by : (b : Bool) (session : Session) → (if b then Some (silence_at station mount) else None) ≡ Some session → silence_at station mount ≡ session
  silence_by true session e = cc
  silence_by false session e = cc

  -- it is that of the mount's session, or there is none, and it is silence
  pub heard_cases : {A : Type 0} (session : Session) → heard_at station mount ≡ Some session → (session_of station.live mount ≡ Some session → A)
      → (session_of station.live mount ≡ None → silence_at station mount ≡ session → A) → A
  heard_cases {A} session e live silent = by_found (session_of station.live mount) refl e where
    by_found : (found : Option Session) → session_of station.live mount ≡ found → option_or found (silence_of station mount) ≡ Some session → A
    by_found None none h = silent none (silence_by (is_on_demand station.settings mount) session h)
    by_found (Some own) there h = live (there ∙ h)

  pub heard_named : (session : Session) → heard_at station mount ≡ Some session → session.mount ≡ mount
  heard_named session e =
      heard_cases session e (λ live. found_named station.live mount session live) (λ none silent. sym (ap (λ (x : Session). x.mount) silent))

  abbrev number_in : Option Session → ℕ
  number_in found = option_map_or (λ (x : Session). x.number) found 0

  pub heard_number : (session : Session) → heard_at station mount ≡ Some session → live_number station mount ≡ session.number
  heard_number session e =
      heard_cases session e (λ live. ap number_in live) (λ none silent. ap number_in none ∙ ap (λ (x : Session). x.number) silent)

  pub heard_end : (session : Session) → heard_at station mount ≡ Some session → live_end station mount ≡ end_of session.stream
  heard_end session e =
      heard_cases session e (λ live. ap end_in live) (λ none silent. ap end_in none ∙ ap (λ (x : Session). end_of x.stream) silent)

-- with the same settings and the same session, listeners of a mount draw the same
pub heard_same : (station other : StationState) (mount : List ℕ) → station.settings ≡ other.settings → session_of station.live mount ≡ session_of other.live mount
    → heard_at station mount ≡ heard_at other mount
heard_same station other mount settings live =
    ap (λ (found : Option Session). option_or found (silence_of station mount)) live
    ∙ ap (λ (set : Settings). option_or (session_of other.live mount) (silence_of (record station { settings = set }) mount)) settings
