-- what holds of each session after one has begun
use Rattle.std.proofs.Common.{◌≡◌, ℕ, ◌+◌, Some, None, List, refl, ap, sym, subst, ◌∙◌, arith}
use Rattle.radio_laws.proofs.Words.{Peer, Shown, SourceRequest, StationState, Undecided, Feeds, changed, called_home, begun, raised, raises, IsSound, begins, shown_for, World, world, standing_of, Session, session_of}
use Rattle.radio_laws.proofs.Words.{opened, with_session, station_called, begun_cases, Turns, asks, turns_feeding, turns_raised, with_session_at}

module _ (w : World) (s : IsSound w) (P : Session → Type 0)
    (old : (mount : List ℕ) (session : Session) → session_of w.station.live mount ≡ Some session → P session) where
  -- listeners that are called home change no session
  begins_so : (him : ℕ) (there : List ℕ) (shown : Shown) (station : StationState) → station.live ≡ with_session w.station.live (opened there him shown w.station.time)
      → Turns w (record w { station = station }) him (Feeds there) → session_of w.station.live there ≡ None → P (opened there him shown w.station.time)
      → (mount : List ℕ) (session : Session)
      → session_of (called_home (world station (with_session_at w.seats there him)) there).station.live mount ≡ Some session → P session
  begins_so him there shown station live t none fresh mount session e =
      begun_cases w s him there shown station live t none mount session
      (ap (λ (h : StationState). session_of h.live mount) (sym (station_called (world station (with_session_at w.seats there him)) there)) ∙ e)
      (λ same one. subst P one fresh) (λ was. old mount session was)

  -- that of a source
  pub source_begins : (asked : SourceRequest) (peer : Peer) → standing_of w asked.id ≡ Undecided peer → session_of w.station.live asked.mount ≡ None
      → P (opened asked.mount asked.id (shown_for w.station asked.mount asked.shown) w.station.time) → (mount : List ℕ) (session : Session)
      → session_of (changed w (begins w.station asked).change).station.live mount ≡ Some session → P session
  source_begins asked peer undecided none fresh =
      let shown = shown_for w.station asked.mount asked.shown in
      begins_so asked.id asked.mount shown (begun w.station asked.id asked.mount shown) refl
      (turns_feeding w asked.id asked.mount shown (asks w asked.id peer undecided)) none fresh

  -- and that of a relay
  pub relay_begins : (there : List ℕ) (shows : Shown) → session_of w.station.live there ≡ None
      → P (opened there (w.station.last_id + 1) (shown_for w.station there shows) w.station.time) → (mount : List ℕ) (session : Session)
      → session_of (changed w (raises w.station there shows).change).station.live mount ≡ Some session → P session
  relay_begins there shows none fresh =
      let him = w.station.last_id + 1 in
      let shown = shown_for w.station there shows in
      begins_so him there shown (raised w.station him there shown) refl (turns_raised w him there shown (s.numbered him (omega arith))) none fresh
