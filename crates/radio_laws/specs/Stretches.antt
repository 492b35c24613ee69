-- The stretches that make up all that a listener gets.
use Rattle.std.specs.Prelude.{◌≡◌, ◌⊎◌, ◌==◌, ℕ, ◌-◌, ◌≤◌, if◌then◌else◌, length, Option, Some, None, List, [], ◌∷◌, ◌++◌, take, drop}
use Rattle.radio_settings_values.specs.declared.settings.Settings.{Settings}
use Rattle.radio_access.specs.Lists.{Lists}
use Rattle.radio_events.specs.declared.event.Event.{Event}
use Rattle.radio_seats_rows.specs.declared.seat.Seat.{Seat}
use Rattle.radio_core.specs.Handing.{handed, handed_at, delivered}
use Rattle.radio_seats_rows.specs.Seats.{seat_of}
use Rattle.radio_parts_mount.specs.Sessions.{Session, session_of}
use Rattle.radio_parts.specs.Step.{world_after}
use Rattle.radio_core.specs.Moves.{TakesTo}
use Rattle.radio_core.specs.SeatSteps.{ComesUpOn, IsSent}
use Rattle.radio_parts_mount.specs.Stream.{end_of}
use Rattle.radio_parts_station.specs.World.{World, opening}
use Rattle.radio_parts_station.specs.Waiting.{heard_at}

-- what is between two places of some data
abbrev pub between : ℕ → ℕ → List ℕ → List ℕ
between start stop bytes = take (stop - start) (drop start bytes)

-- a listener sits down: at this mount, in the session of this source, and at this first place of its stream
pub record Sitting : Type 0 where
  pub mount : List ℕ
  pub source : ℕ
  pub start : ℕ

abbrev pub sitting_of_seat : Seat → Sitting
sitting_of_seat seat = record { mount = seat.mount; source = seat.session; start = seat.place }

-- the sitting that begins if the listener had the one seat before and has the other now: a seat in another session is a new
-- sitting
abbrev pub begun_sittings : Option Seat → Option Seat → List Sitting
begun_sittings None (Some seat) = sitting_of_seat seat ∷ []
begun_sittings (Some old) (Some seat) = (if old.session == seat.session then [] else sitting_of_seat seat ∷ [])
begun_sittings before None = []

-- the listener's sittings through the events, in their order
-- rule: Without gap or repeat
abbrev pub sittings : World → List Event → ℕ → List Sitting
sittings w [] id = []
sittings w (event ∷ events) id = begun_sittings (seat_of w.seats id) (seat_of (world_after w event).seats id) ++ sittings (world_after w event) events id

-- the bytes are one slice of the data that the source of the sitting has sent, from where the sitting began
abbrev pub IsSlice : (ℕ → List ℕ) → Sitting → List ℕ → Type 0
IsSlice sent sitting bytes = (stop : ℕ) × (sitting.start ≤ stop) × (stop ≤ length (sent sitting.source)) × (bytes ≡ between sitting.start stop (sent sitting.source))

-- one slice for each sitting, in their order
abbrev pub AreSlices : (ℕ → List ℕ) → List Sitting → List (List ℕ) → Type 0
AreSlices sent [] [] = Unit {0}
AreSlices sent (sitting ∷ others) (bytes ∷ rest) = IsSlice sent sitting bytes × AreSlices sent others rest
AreSlices sent [] (bytes ∷ rest) = ⊥
AreSlices sent (sitting ∷ others) [] = ⊥

-- what a listener gets, split when it sits down: what comes before its first sitting, and what comes in each
pub record Cut (A : Type 0) : Type 0 where
  pub before : List A
  pub each : List (List A)

-- this comes first, and the listener sits down then, if these sittings say so
abbrev pub cut_behind : {A : Type 0} → List A → List Sitting → Cut A → Cut A
cut_behind xs [] later = record { before = xs ++ later.before; each = later.each }
cut_behind xs (sitting ∷ others) later = record { before = xs; each = later.before ∷ later.each }

-- what each event brings, split when the listener sits down
abbrev pub cut_at_sittings : {A : Type 0} → (World → Event → List A) → World → List Event → ℕ → Cut A
cut_at_sittings brings w [] id = record { before = []; each = [] }
cut_at_sittings brings w (event ∷ events) id =
    cut_behind (brings w event) (begun_sittings (seat_of w.seats id) (seat_of (world_after w event).seats id))
    (cut_at_sittings brings (world_after w event) events id)

-- the bytes are stretches, joined in order: one for each sitting, contiguous in the data that its source has sent, from where the sitting began
-- rule: Without gap or repeat
abbrev pub AreStretches : (ℕ → List ℕ) → List Sitting → List ℕ → Type 0
AreStretches sent [] bytes = bytes ≡ []
AreStretches sent (sitting ∷ others) bytes = (stop : ℕ) × (rest : List ℕ) × (sitting.start ≤ stop) × (stop ≤ length (sent sitting.source))
    × (bytes ≡ between sitting.start stop (sent sitting.source) ++ rest) × AreStretches sent others rest

-- over every run, all that a listener gets is stretches, one for each of its sittings, of what the source of that sitting delivered
abbrev pub StretchesAreWhole : Settings → Lists → List Event → Type 0
StretchesAreWhole settings lists events = (id : ℕ) → AreStretches (delivered (opening settings lists) events) (sittings (opening settings lists) events id)
    (handed (opening settings lists) events id)

-- over every run, what a listener gets from one sitting to the next, or to the end, is one slice. The source of its session delivered it.
-- The slice begins where the listener sat down. Before the first sitting it gets nothing
abbrev pub StretchesAreCut : Settings → Lists → List Event → Type 0
StretchesAreCut settings lists events = (id : ℕ) → let w = opening settings lists in let cut = cut_at_sittings (λ v event. handed_at v event id) w events id in
    (cut.before ≡ []) × AreSlices (delivered w events) (sittings w events id) cut.each

-- what an event makes of a seat that a listener keeps. All of the seat stays but its place, which does not go back. Or a session begins
-- at its mount, which waited for one, and the listener draws it from its start. Or a move by the event takes the listener at its turn
-- to the end of the stream where its walk landed. All else of the seat stays then: its session is over, or it is called home.
-- A seat is in the session that its mount has, or waits for one
-- rule: Moved to the end; Session after a wait
pub record KeepsItsMount (w : World) (event : Event) (id : ℕ) (seat : Seat) : Type 0 where
  pub session : Session
  pub is_heard : heard_at (world_after w event).station seat.mount ≡ Some session
  pub in_the_session : seat.session ≡ session.number
  pub kept : (old : Seat) → seat_of w.seats id ≡ Some old → ((seat ≡ record old { place = seat.place }) × (old.place ≤ seat.place))
      ⊎ (ComesUpOn event old.mount × (session_of w.station.live old.mount ≡ None) × (session.stream.bytes ≡ [])
      × (seat ≡ record old { session = session.number; place = 0 }))
      ⊎ (TakesTo w event id seat.mount × IsSent w (world_after w event) event old seat.mount
      × (seat ≡ record old { mount = seat.mount; session = session.number; place = end_of session.stream }))

abbrev pub SeatsKeepTheirMounts : World → Event → Type 0
SeatsKeepTheirMounts w event = (id : ℕ) (seat : Seat) → seat_of (world_after w event).seats id ≡ Some seat → KeepsItsMount w event id seat
