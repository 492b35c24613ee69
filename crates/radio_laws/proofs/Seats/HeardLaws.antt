-- the session that listeners of a mount draw, whether the mount is live or waits, and which listeners draw it
use Rattle.std.proofs.Common.{◌≡◌, true, false, Bool, Option, Some, None, is_some, refl, List, ℕ, ap, subst, ◌∙◌}
use Rattle.radio_laws.proofs.Words.{if◌then◌else◌, option_or, StationState, heard_at, is_on_demand, silence_at, silence_of, World, same_order, Session, session_of, AreRising, end_of, Listener, AreByNumber}
use Rattle.radio_laws.proofs.Words.{with_session_at, numbers_hearing, IsSound, heard_cases}

-- its blocks start in order, and none behind the end
pub rising_heard : (w : World) → IsSound w → (mount : List ℕ) (session : Session) → heard_at w.station mount ≡ Some session
    → AreRising session.stream.starts (end_of session.stream)
rising_heard w s mount session hears =
    heard_cases w.station mount session hears (s.starts mount session)
    (λ none silent. subst (λ (x : Session). AreRising x.stream.starts (end_of x.stream)) silent tt)

-- if no relay feeds the mount on demand, its listeners draw nothing without a session
pub nothing_heard : (station : StationState) (mount : List ℕ) → is_on_demand station.settings mount ≡ false → session_of station.live mount ≡ None
    → heard_at station mount ≡ None
nothing_heard station mount never none =
    ap (λ (found : Option Session). option_or found (silence_of station mount)) none
    ∙ ap (λ (b : Bool). if b then Some (silence_at station mount) else None) never

-- if one does, they draw a session, or wait for one
pub heard_on_demand : (station : StationState) (mount : List ℕ) → is_on_demand station.settings mount ≡ true → is_some (heard_at station mount) ≡ true
heard_on_demand station mount waits = by_found (session_of station.live mount) where
  by_found : (found : Option Session) → is_some (option_or found (silence_of station mount)) ≡ true
  by_found (Some session) = refl
  by_found None = ap (λ (b : Bool). is_some (if b then Some (silence_at station mount) else None)) waits

-- listeners that get a session are in the order of their numbers still
pub order_given : (mount : List ℕ) (session : ℕ) (seats : List Listener) → AreByNumber seats → AreByNumber (with_session_at seats mount session)
order_given mount session seats order = same_order seats (with_session_at seats mount session) (numbers_hearing mount session seats) order
