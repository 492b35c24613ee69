-- a listener that was finished gets nothing any more
use Rattle.std.proofs.Common.{◌≡◌, ◌++◌, ℕ, ◌≤◌, ◌<◌, Option, None, List, [], ◌∷◌, refl, ap, ◌∙◌, arith}
use Rattle.radio_laws.proofs.Words.{Rule, Seat, seat_of, Event, Standing, Unknown, Undecided, Feeds, Sits, Answered, Finishes, handed_at, handed, SeatStep, IsHanded, IsMoved, IsGiven, IsSound, world_after, World}
use Rattle.radio_laws.proofs.Words.{standing_of, seats_step, sound_after}
use Rattle.radio_parts_station.specs.declared.standing.Standing.TheVariants.{Finished}
use Rattle.radio_core.specs.ClientSteps.{ClientStep, Stays, Arrives, IsAnswered, IsObeyed, IsShown, BeginsToFeed, SitsDown, StopsFeeding, Leaves, IsFinished, ComesUp, GoesDown}
use Rattle.radio_core.specs.SeatSteps.{Stays as SeatStays, SitsDown as SeatsDown, Leaves as SeatLeaves, IsEnded}
use Rattle.radio_core.proofs.Clients.ClientSteps.{clients_step}
use Rattle.radio_laws.proofs.Ends.GoneLemmas.{last_rises}
use Rattle.radio_laws.proofs.Seats.LastMountLemmas.{seatless}

-- it was finished, and has perhaps left since
abbrev pub IsOver : Standing → Type 0
IsOver (Finished rule) = Unit {0}
IsOver Unknown = Unit {0}
IsOver standing = ⊥

over_then : (w : World) (C : Rule → Type 0) (event : Event) (id : ℕ) (before later : Standing) → ClientStep w C event id before later → id ≤ w.station.last_id
    → IsOver before → IsOver later
over_then w C event id before later (Stays standing) given over = over
over_then w C event id before later (Arrives peer is passing new) given over = absurd (above given new) where
  above : id ≤ w.station.last_id → w.station.last_id < id → ⊥
  above low high = omega (arith, low, high)
over_then w C event id before later (IsAnswered peer rule his told) given over = absurd over
over_then w C event id before later (IsObeyed peer command his c) given over = absurd over
over_then w C event id before later (IsShown peer text his what) given over = absurd over
over_then w C event id before later (BeginsToFeed peer asked is his allowed) given over = absurd over
over_then w C event id before later (SitsDown peer asked is his allowed) given over = absurd over
over_then w C event id before later (StopsFeeding mount is no_relay) given over = absurd over
over_then w C event id before later (Leaves standing is no_relay) given over = tt
over_then w C event id before later (GoesDown standing is relay) given over = tt
over_then w C event id before later (ComesUp mount shown is new allowed) given over = absurd (above given new) where
  above : id ≤ w.station.last_id → w.station.last_id < id → ⊥
  above low high = omega (arith, low, high)
over_then w C event id before later (IsFinished standing rule why) given over = tt

nothing_handed : (w : World) (C : Rule → Type 0) (event : Event) (id : ℕ) (before later : Option Seat) (bytes : List ℕ) → SeatStep w C event id before bytes later
    → before ≡ None → bytes ≡ []
nothing_handed w C event id before later bytes (SeatStays seat) none = refl
nothing_handed w C event id before later bytes (IsHanded seat session room is live number within) none = cc
nothing_handed w C event id before later bytes (SeatsDown asked peer session is his undecided lands live allowed) none = refl
nothing_handed w C event id before later bytes (IsMoved seat session takes sent live opens apart) none = refl
nothing_handed w C event id before later bytes (IsGiven seat session coming idle live empty waits start past) none = refl
nothing_handed w C event id before later bytes (SeatLeaves seat is) none = refl
nothing_handed w C event id before later bytes (IsEnded seat rule why) none = refl

not_sitting : (now : Standing) → now ≡ Sits → IsOver now → ⊥
not_sitting Sits e over = over
not_sitting (Finished rule) e over = cc
not_sitting Unknown e over = cc
not_sitting (Undecided peer) e over = over
not_sitting (Feeds mount) e over = over
not_sitting Answered e over = over

pub hears_no_more : (w : World) → IsSound w → (id : ℕ) → id ≤ w.station.last_id → IsOver (standing_of w id) → (events : List Event) → handed w events id ≡ []
hears_no_more w s id given over [] = refl
hears_no_more w s id given over (event ∷ events) =
    ap (λ xs. xs ++ handed (world_after w event) events id)
    (nothing_handed w (Finishes w event id) event id (seat_of w.seats id) (seat_of (world_after w event).seats id) (handed_at w event id) (seats_step w s event id)
    (seatless w s id (λ sits. not_sitting (standing_of w id) sits over)))
    ∙ hears_no_more (world_after w event) (sound_after w s event) id given_then
    (over_then w (Finishes w event id) event id (standing_of w id) (standing_of (world_after w event) id) (clients_step w s event id) given over) events where
      given_then : id ≤ (world_after w event).station.last_id
      given_then = let more = last_rises w s event in omega (arith, given, more)
