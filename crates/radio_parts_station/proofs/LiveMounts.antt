-- what the registry notes of the live mounts says of their sessions
use Rattle.std.proofs.Common.{◌≡◌, Bool, true, false, ℕ, Option, Some, None, List, [], ◌∷◌, refl, ap, sym, ◌∙◌}
use Rattle.radio_parts_station.proofs.Words.{◌||◌, find, map, not, is_some, if◌then◌else◌, option_map, option_map_or, option_or, update_first, options_for, Sight, with_ends, ends_in, Session, by_mount, is_of, session_of}
use Rattle.radio_parts_station.proofs.Words.{with_session, without_session, LiveMount, Registry, station_state, fallback_of, live_number, sight_of, AreLive, bare_station, bare_session, is_live_mount, live_by_name}
use Rattle.radio_parts_station.proofs.Words.{live_mount, sight_in, with_live_mount, without_live, heard_at, is_on_demand, silence_at, silence_of}
use Rattle.std.proofs.Math.Path.{fun_ext}
use Rattle.radio_access.specs.Lists.{lets_in}
use Rattle.radio_seats_rows.proofs.Lists.{map_filtered, map_found, map_placed}

-- what the registry knows of a mount
module _ (registry : Registry) (mount : List ℕ) where
  bare_found : session_of (map bare_session registry.live) mount ≡ option_map bare_session (find (is_live_mount mount) registry.live)
  bare_found = map_found bare_session (is_live_mount mount) (is_of mount) (λ row. refl) registry.live

  abbrev heard_if : Option Session → Bool
  heard_if found = is_some (option_or found (silence_of (bare_station registry) mount))

  silent_if : (b : Bool) → is_some (if b then Some (silence_at (bare_station registry) mount) else None) ≡ b
  silent_if true = refl
  silent_if false = refl

  pub heard_known : (found : Option LiveMount) → find (is_live_mount mount) registry.live ≡ found
      → is_some (heard_at (bare_station registry) mount) ≡ (is_some found || is_on_demand registry.settings mount)
  heard_known found e = ap heard_if (bare_found ∙ ap (option_map bare_session) e) ∙ by_found found where
    by_found : (x : Option LiveMount) → heard_if (option_map bare_session x) ≡ (is_some x || is_on_demand registry.settings mount)
    by_found None = silent_if (is_on_demand registry.settings mount)
    by_found (Some row) = refl

  abbrev number_in : Option Session → ℕ
  number_in found = option_map_or (λ (session : Session). session.number) found 0

  pub number_known : (found : Option LiveMount) → find (is_live_mount mount) registry.live ≡ found
      → live_number (bare_station registry) mount ≡ option_map_or (λ (row : LiveMount). row.number) found 0
  number_known found e = ap number_in (bare_found ∙ ap (option_map bare_session) e) ∙ by_found found where
    by_found : (x : Option LiveMount) → number_in (option_map bare_session x) ≡ option_map_or (λ (row : LiveMount). row.number) x 0
    by_found None = refl
    by_found (Some row) = refl

-- it is what the sessions say
module _ (registry : Registry) (live : List Session) (are : AreLive registry.live live) where
  module _ (mount : List ℕ) where
    known : session_of (map bare_session registry.live) mount ≡ option_map bare_session (option_map live_mount (session_of live mount))
    known =
        bare_found registry mount
        ∙ ap (λ (rows : List LiveMount). option_map bare_session (find (is_live_mount mount) rows)) are
        ∙ ap (option_map bare_session) (map_found live_mount (is_of mount) (is_live_mount mount) (λ session. refl) live)

    pub heard_alike : is_some (heard_at (bare_station registry) mount) ≡ is_some (heard_at (station_state registry live) mount)
    heard_alike = ap (heard_if registry mount) known ∙ by_found (session_of live mount) where
      by_found : (found : Option Session) → heard_if registry mount (option_map bare_session (option_map live_mount found)) ≡ heard_if registry mount found
      by_found None = refl
      by_found (Some session) = refl

    number_alike : live_number (bare_station registry) mount ≡ live_number (station_state registry live) mount
    number_alike = ap (number_in registry mount) known ∙ by_found (session_of live mount) where
      by_found : (found : Option Session) → number_in registry mount (option_map bare_session (option_map live_mount found)) ≡ number_in registry mount found
      by_found None = refl
      by_found (Some session) = refl

  -- so a walk sees the same
  pub same_sight : with_ends (sight_in registry) (ends_in live) ≡ sight_of (station_state registry live)
  same_sight =
      ap (λ (is_live : List ℕ → Bool). sight is_live (live_number (bare_station registry))) (fun_ext heard_alike)
      ∙ ap (sight (λ mount. is_some (heard_at (station_state registry live) mount))) (fun_ext number_alike) where
        sight : (List ℕ → Bool) → (List ℕ → ℕ) → Sight
        sight is_live number = record {
          is_live = is_live;
          limit = λ mount. (options_for registry.settings mount).listeners.max_listeners;
          lets_in = lets_in registry.lists;
          allows_duplicates = λ mount. (options_for registry.settings mount).users.allow_duplicate_users;
          fallback = fallback_of (station_state registry live);
          hands_on_when_full = λ mount. (options_for registry.settings mount).listeners.fallback_when_full;
          stream_end = λ mount. record { session = number mount; place = ends_in live mount };
        }

-- after each change of the sessions
module _ (rows later : List LiveMount) (live new : List Session) (are : AreLive rows live) where
  pub one_begun : (session : Session) → later ≡ with_live_mount rows (live_mount session) → new ≡ with_session live session → AreLive later new
  one_begun session is_later is_new =
      is_later ∙ ap (λ (known : List LiveMount). with_live_mount known (live_mount session)) are
      ∙ sym (map_placed live_mount by_mount live_by_name session (λ other. refl) live) ∙ sym (ap (map live_mount) is_new)

  pub one_ended : (mount : List ℕ) → later ≡ without_live rows mount → new ≡ without_session live mount → AreLive later new
  one_ended mount is_later is_new =
      is_later ∙ ap (λ (known : List LiveMount). without_live known mount) are
      ∙ sym (map_filtered live_mount (λ session. not (is_of mount session)) (λ row. not (is_live_mount mount row)) (λ session. refl) live)
      ∙ sym (ap (map live_mount) is_new)

  pub still_live : (p : Session → Bool) (f : Session → Session) → ((session : Session) → live_mount (f session) ≡ live_mount session) → later ≡ rows
      → new ≡ update_first p f live → AreLive later new
  still_live p f same is_later is_new = is_later ∙ are ∙ sym (unchanged live) ∙ sym (ap (map live_mount) is_new) where
    at_session : (session : Session) (rest : List Session) (b : Bool) → map live_mount (update_first p f rest) ≡ map live_mount rest
        → map live_mount (if b then f session ∷ rest else session ∷ update_first p f rest) ≡ map live_mount (session ∷ rest)
    at_session session rest true later = ap (λ (row : LiveMount). row ∷ map live_mount rest) (same session)
    at_session session rest false later = ap (λ (known : List LiveMount). live_mount session ∷ known) later

    unchanged : (sessions : List Session) → map live_mount (update_first p f sessions) ≡ map live_mount sessions
    unchanged [] = refl
    unchanged (session ∷ rest) = at_session session rest (p session) (unchanged rest)
