-- which sessions are silent: when the first of them has ended, the others are left
use Rattle.std.proofs.Common.{◌≡◌, Bool, List, ◌∷◌, sym, ◌∙◌}
use Rattle.radio_core.proofs.Words.{Session, AreApart, is_silent, found_first, others_left, session_silenced, silent_in, World}

module _ (w : World) (session : Session) (apart : AreApart w.station.live) where
  abbrev silent : Session → Bool
  silent = is_silent w.station.settings.limits.source_timeout w.station.time

  -- what is silent then
  pub silent_then : (sessions : List Session) → silent_in w ≡ session ∷ sessions → silent_in (session_silenced w session) ≡ sessions
  silent_then sessions are =
      let both : session ∷ silent_in (session_silenced w session) ≡ session ∷ sessions
      = sym (others_left silent w.station.live session apart (found_first silent w.station.live session sessions are)) ∙ are in
      cc
