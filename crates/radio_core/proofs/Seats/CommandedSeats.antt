-- whom a command finds: the session that it names, and the seat of the listener whom it finishes
use Rattle.std.proofs.Common.{◌≡◌, true, false, ℕ, Option, Some, None, is_some, List, refl}
use Rattle.radio_core.proofs.Words.{option_map_or, bytes_eq, bytes_eq-Decides, Session, Seat, seat_of, KillClient, Event, is_live, is_listener_at, World, IsCommanded}
use Rattle.radio_core.proofs.Commands.AllowedCommands.{may_kill, needs_hold}

-- what is looked up is there
pub found_there : (found : Option Session) → is_some found ≡ true → (session : Session) × (found ≡ Some session)
found_there None e = cc
found_there (Some session) e = (session, refl)

-- whom a command finishes sits at the mount
sits_by : (mount : List ℕ) (found : Option Seat) → option_map_or (λ (seat : Seat). bytes_eq seat.mount mount) found false ≡ true
    → (seat : Seat) × (found ≡ Some seat) × (seat.mount ≡ mount)
sits_by mount None e = cc
sits_by mount (Some seat) e = (seat, refl, (bytes_eq-Decides seat.mount mount).0 e)

pub killed_seat : (w : World) (event : Event) (mount : List ℕ) (listener : ℕ) → IsCommanded w event (KillClient mount listener)
    → (seat : Seat) × (seat_of w.seats listener ≡ Some seat) × (seat.mount ≡ mount)
killed_seat w event mount listener c =
    sits_by mount (seat_of w.seats listener) (may_kill (is_live w.station mount) (is_listener_at w.seats mount listener) (needs_hold w event c))
