-- a session begins on a mount that has just been prepared
use Rattle.std.proofs.Common.{◌≡◌, Bool, true, false, ℕ, List, refl, ap, ◌∙◌}
use Rattle.radio_parts_changes.proofs.Words.{◌||◌, bytes_eq, bytes_eq-Decides, Settings, Listening, LiveMount, AreLive, live_mount, with_live_mount, one_begun, Session, with_session, begun_prepared, is_prepared}
use Rattle.radio_parts_changes.proofs.PreparedSeats.{AllPrepared, live_changed, more_is_prepared}

module _ (before prepared : Listening) (mount : List ℕ)
    (more : (other : List ℕ) → is_prepared prepared.prepared other ≡ (is_prepared before.prepared other || bytes_eq mount other)) where
  itself : (b : Bool) → (b || bytes_eq mount mount) ≡ true
  itself true = refl
  itself false = (bytes_eq-Decides mount mount).1 refl

  pub is_ready : is_prepared prepared.prepared mount ≡ true
  is_ready = more mount ∙ itself (is_prepared before.prepared mount)

-- the mounts are prepared that have to be, and the registry notes the sessions that there are
pub session_begins : (settings other : Settings) (rows noted : List LiveMount) (before prepared later : Listening) (session : Session)
    → prepared.seats ≡ before.seats → prepared.live ≡ before.live
    → ((mount : List ℕ) → is_prepared prepared.prepared mount ≡ (is_prepared before.prepared mount || bytes_eq session.mount mount))
    → other ≡ settings → noted ≡ with_live_mount rows (live_mount session) → later ≡ record prepared { live = with_session prepared.live session }
    → AllPrepared settings before → AreLive rows before.live → AllPrepared other later × AreLive noted later.live
session_begins settings other rows noted before prepared later session same_seats same_live more same is_noted is_later are live =
    let sessions = with_session prepared.live session in
    let begun = ap (λ (known : List Session). with_session known session) same_live in (
      live_changed settings other prepared later sessions same is_later
          (begun_prepared before.live sessions before.prepared prepared.prepared session begun more are.0)
          (more_is_prepared settings before prepared same_seats same_live (λ mount is. more mount ∙ rw is refl) are).1,
      one_begun rows noted before.live later.live live session is_noted (ap (λ (l : Listening). l.live) is_later ∙ begun),
    )
