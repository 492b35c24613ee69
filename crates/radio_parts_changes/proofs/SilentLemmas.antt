-- which sessions are silent: the first of them is live, and when it has ended the others are left
use Rattle.std.proofs.Common.{◌≡◌, Bool, ℕ, ◌<◌, Option, Some, None, List, ◌∷◌, length, ap, sym, subst, ◌∙◌, arith}
use Rattle.radio_parts_changes.proofs.Words.{find, fold, map, SourceSilent, Session, AreApart, is_silent, rising_apart, none_pass, others_left, StationState, finished_in, session_ended, session_silenced, silent_in}
use Rattle.radio_parts_changes.proofs.Words.{World}
use Rattle.std.specs.Cmp.Lexicographic.{slice_cmp}
use Rattle.std.specs.List.Sorted.{IsStrictlySortedBy}
use Rattle.std.specs.Ordering.{nat_cmp}
use Rattle.radio_tables.proofs.FindLaws.{passes_none}

module _ (w : World) (session : Session) (apart : AreApart w.station.live) where
  abbrev silent : Session → Bool
  silent = is_silent w.station.settings.limits.source_timeout w.station.time

  first_is_silent : find silent w.station.live ≡ Some session → silent_in w ≡ session ∷ silent_in (session_silenced w session)
  first_is_silent found = others_left silent w.station.live session apart found

-- the loop that ends them; the station is that of the state w
module _ (w : World) (station : StationState) (same : station ≡ w.station) where
  abbrev FoundFirst : Option Session → Type 0
  FoundFirst found = found ≡ find (is_silent station.settings.limits.source_timeout station.time) station.live

  found_in_it : (found : Option Session) → FoundFirst found → find (is_silent w.station.settings.limits.source_timeout w.station.time) w.station.live ≡ found
  found_in_it found is = sym (subst (λ (h : StationState). found ≡ find (is_silent h.settings.limits.source_timeout h.time) h.live) same is)

  -- one turn
  module _ (ended : World) (left : StationState) (session : Session) (mount : List ℕ) (number : ℕ)
      (rising : IsStrictlySortedBy (slice_cmp nat_cmp) (map (λ (x : Session). x.mount) station.live)) (first : FoundFirst (Some session))
      (its_mount : mount ≡ session.mount) (its_number : number ≡ session.number) (is_ended : ended ≡ session_ended w mount)
      (is_left : left ≡ finished_in ended.station number SourceSilent) where
    abbrev later : World
    later = record ended { station = left }

    is_silenced : later ≡ session_silenced w session
    is_silenced =
        ap (λ (h : StationState). record ended { station = h }) is_left
        ∙ ap (λ (v : World). record v { station = finished_in v.station number SourceSilent }) (is_ended ∙ ap (session_ended w) its_mount)
        ∙ ap (λ (n : ℕ). let v = session_ended w session.mount in record v { station = finished_in v.station n SourceSilent }) its_number

    first_ends : silent_in w ≡ session ∷ silent_in later
    first_ends =
        first_is_silent w session (rising_apart w.station.live (subst (λ (h : StationState). IsStrictlySortedBy (slice_cmp nat_cmp) (map (λ (x : Session). x.mount) h.live)) same rising))
        (found_in_it (Some session) first)
        ∙ ap (λ (v : World). session ∷ silent_in v) (sym is_silenced)

    pub one_fewer : length (silent_in later) < length (silent_in w)
    one_fewer = subst (λ (sessions : List Session). length (silent_in later) < length sessions) (sym first_ends) (omega arith)

    pub still_to_end : fold session_silenced later (silent_in later) ≡ fold session_silenced w (silent_in w)
    still_to_end =
        ap (λ (v : World). fold session_silenced v (silent_in later)) is_silenced
        ∙ ap (λ (sessions : List Session). fold session_silenced w sessions) (sym first_ends)

  -- no more turns
  pub all_have_ended : FoundFirst None → w ≡ fold session_silenced w (silent_in w)
  all_have_ended none =
      let silent = is_silent w.station.settings.limits.source_timeout w.station.time in
      ap (λ (sessions : List Session). fold session_silenced w sessions)
      (sym (none_pass silent w.station.live (passes_none silent w.station.live (found_in_it None none))))
