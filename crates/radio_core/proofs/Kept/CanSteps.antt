-- the conditions of a step hold in each state that a core represents, and for each event that takes no memory
use Rattle.std.proofs.Common.{◌≡◌, ℕ, Option, Some, None, refl}
use Rattle.radio_core.proofs.Words.{Event, Arrive, Source, Push, SourceEnd, Title, Listen, Draw, Leave, RelayUp, RelayDown, Clock, World, Session, session_of, Seat, seat_of, StandsForSome}
use Rattle.radio_events.specs.declared.event.Event.TheVariants.{Command}
use Rattle.radio_parts_mount.specs.Steps.{IsKept}
use Rattle.radio_parts.specs.CanStep.{MayDraw, CanStep}
use Rattle.radio_core.proofs.Kept.StepLemmas.{place_is_kept, seat_sits}

can_draw : (w : World) → StandsForSome w → (id : ℕ) → MayDraw w id
can_draw w stands id = record {
  sits = seat_sits w stands id;
  kept = λ seat has. by_session seat has (session_of w.station.live seat.mount) refl;
} where
  by_session : (seat : Seat) → seat_of w.seats id ≡ Some seat → (found : Option Session) → session_of w.station.live seat.mount ≡ found → IsKept found seat.place
  by_session seat has None e = tt
  by_session seat has (Some session) e = place_is_kept w stands id seat session has e

pub stands_can : (w : World) → StandsForSome w → (event : Event) → CanStep w event
stands_can w stands (Arrive peer) = tt
stands_can w stands (Source asked) = tt
stands_can w stands (Push id block) = tt
stands_can w stands (SourceEnd id) = tt
stands_can w stands (Title id text) = tt
stands_can w stands (Listen asked) = tt
stands_can w stands (Draw id room) = can_draw w stands id
stands_can w stands (Command asked) = tt
stands_can w stands (Leave id) = tt
stands_can w stands (RelayUp mount shown) = tt
stands_can w stands (RelayDown id) = tt
stands_can w stands (Clock ms) = tt
