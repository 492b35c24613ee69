-- the session that a command ends
use Rattle.std.proofs.Common.{◌≡◌, ℕ, Some, List, ap, sym, ◌∙◌}
use Rattle.radio_parts_changes.proofs.Words.{SourceKilled, StationState, session_ended, session_killed, finished_in, Session, session_of, World, found_named}

-- its source has the number that it has, and its mount the name
pub killed_so : (w after : World) (mount : List ℕ) (session : Session) (number : ℕ) (station : StationState) → session_of w.station.live mount ≡ Some session
    → session.number ≡ number → after ≡ session_ended w mount → station ≡ finished_in after.station number SourceKilled
    → record { station = station; seats = after.seats } ≡ session_killed w (session_of w.station.live mount)
killed_so w after mount session number station found same ended now =
    ap (λ (h : StationState). record { station = h; seats = after.seats }) now
    ∙ ap (λ (n : ℕ). record { station = finished_in after.station n SourceKilled; seats = after.seats }) (sym same)
    ∙ ap (λ (v : World). record v { station = finished_in v.station session.number SourceKilled }) ended
    ∙ ap (λ (m : List ℕ). record (session_ended w m) { station = finished_in (session_ended w m).station session.number SourceKilled })
    (sym (found_named w.station.live mount session found))
    ∙ ap (session_killed w) (sym found)
