-- a listener that keeps its seat keeps its mount
use Rattle.std.proofs.Common.{◌≡◌, ◌⊎◌, inl, inr, ℕ, ◌+◌, ◌≤◌, Option, Some, None, List, [], length, refl, ap, sym, subst, ◌∙◌, arith}
use Rattle.radio_laws.proofs.Words.{Rule, Event, Seat, World, handed_at, Finishes, IsSent, SeatStep, IsHanded, SitsDown, IsMoved, ComesUpOn, IsGiven, seat_of, IsSound, world_after, TakesTo, moved_into, Session}
use Rattle.radio_laws.proofs.Words.{session_of, data_at, end_of, SeatsKeepTheirMounts, sound_after, seats_step, heard_at, heard_live}
use Rattle.radio_core.specs.SeatSteps.{Stays, Leaves as HeLeaves, IsEnded as HeIsEnded}

-- A kept seat is the same, except for its place, which does not go back. Or a session begins for which it waited,
-- or a move takes it to the end of a stream.
abbrev Kept : World → Event → ℕ → Seat → Seat → Session → Type 0
Kept w event id old seat session = ((seat ≡ record old { place = seat.place }) × (old.place ≤ seat.place))
    ⊎ (ComesUpOn event old.mount × (session_of w.station.live old.mount ≡ None) × (session.stream.bytes ≡ [])
    × (seat ≡ record old { session = session.number; place = 0 }))
    ⊎ (TakesTo w event id seat.mount × IsSent w (world_after w event) event old seat.mount
    × (seat ≡ record old { mount = seat.mount; session = session.number; place = end_of session.stream }))

keeps : (w : World) (C : Rule → Type 0) (event : Event) (id : ℕ) (before later : Option Seat) (bytes : List ℕ) → SeatStep w C event id before bytes later
    → (old seat : Seat) (session : Session) → before ≡ Some old → later ≡ Some seat → heard_at (world_after w event).station seat.mount ≡ Some session
    → Kept w event id old seat session
keeps w C event id before later bytes (Stays same) old seat now eo es live =
    let both : Some old ≡ Some seat = sym eo ∙ es in
    let one : old ≡ seat = cc in
    inl (subst (λ (x : Seat). seat ≡ record x { place = seat.place }) (sym one) refl, subst (λ (x : Seat). old.place ≤ x.place) one (omega arith))
keeps w C event id before later bytes (IsHanded had session room asked live number within) old seat now eo es lives =
    let one : had ≡ old = cc in
    let far = had.place + length (data_at session.stream had.place room) in
    let moved : record had { place = far } ≡ seat = cc in inl (
      subst (λ (x : Seat). x ≡ record old { place = x.place }) moved (ap (λ (x : Seat). record x { place = far }) one),
      subst (λ (x : Seat). old.place ≤ x.place) moved (subst (λ (x : Seat). x.place ≤ far) one (omega arith)),
    )
keeps w C event id before later bytes (SitsDown asked peer session e his undecided lands live allowed) old seat now eo es lives = cc
keeps w C event id before later bytes (IsMoved had session takes sent live opens apart) old seat now eo es lives =
    let one : had ≡ old = cc in
    let there : moved_into session had ≡ seat = cc in
    let both : Some session ≡ Some now = sym live ∙ ap (λ (x : Seat). heard_at (world_after w event).station x.mount) there ∙ lives in
    let same : session ≡ now = cc in
    inr (inr (
      subst (λ (x : Seat). TakesTo w event id x.mount) there takes,
      subst (λ (x : Seat). IsSent w (world_after w event) event x seat.mount) one
          (subst (λ (x : Seat). IsSent w (world_after w event) event had x.mount) there sent),
      subst (λ (x : Seat). x ≡ record old { mount = x.mount; session = now.number; place = end_of now.stream }) there
          (ap (λ (x : Seat). moved_into session x) one
          ∙ ap (λ (x : Session). record old { mount = session.mount; session = x.number; place = end_of x.stream }) same),
    ))
keeps w C event id before later bytes (IsGiven had session coming none live empty waits start past) old seat now eo es lives =
    let one : had ≡ old = cc in
    let there : record had { session = session.number } ≡ seat = cc in
    let both : Some session ≡ Some now
    = sym (heard_live (world_after w event).station had.mount session live) ∙ ap (λ (x : Seat). heard_at (world_after w event).station x.mount) there ∙ lives in
    let same : session ≡ now = cc in
    inr (inl (
      subst (λ (x : Seat). ComesUpOn event x.mount) one coming,
      subst (λ (x : Seat). session_of w.station.live x.mount ≡ None) one none,
      subst (λ (x : Session). x.stream.bytes ≡ []) same empty,
      sym there ∙ ap (λ (n : ℕ). record had { session = session.number; place = n }) start
          ∙ ap (λ (x : Session). record had { session = x.number; place = 0 }) same
          ∙ ap (λ (x : Seat). record x { session = now.number; place = 0 }) one,
    ))
keeps w C event id before later bytes (HeLeaves had left) old seat now eo es lives = cc
keeps w C event id before later bytes (HeIsEnded had rule cause) old seat now eo es lives = cc

pub mounts_kept : (w : World) → IsSound w → (event : Event) → SeatsKeepTheirMounts w event
mounts_kept w s event id seat e =
    let now = (sound_after w s event).seated id seat e in
    record {
      session = now.session;
      is_heard = now.is_heard;
      in_the_session = sym now.his_session;
      kept = λ old had. keeps w (Finishes w event id) event id (seat_of w.seats id) (seat_of (world_after w event).seats id) (handed_at w event id)
          (seats_step w s event id) old seat now.session had e now.is_heard;
    }
