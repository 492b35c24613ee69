-- states before and after a part was lent agree on all mounts but its own
use Rattle.std.proofs.Common.{◌≡◌, true, ℕ, ◌==◌, Option, Some, List, [], ◌∷◌, not, Ok, refl, ap, sym, subst, ◌∙◌}
use Rattle.radio_laws.proofs.Words.{bytes_eq, eqb-true, bytes_eq-Decides, found_passes, StationState, World, AllAgree, MountPart, Session, is_of, Lagged, Listener, Seating, Finished, AreByNumber, heard_to, last_mount}
use Rattle.radio_laws.proofs.Words.{lost_by, Event, CanStep, control_after, control_reply, planned, world_after, Represents, StandsForSome, step_done, AgreeWithin, FedBeyond, LastBeyond, ListenersAgree, SameListener}
use Rattle.radio_laws.proofs.Words.{SameSession, SessionsAgree}
use Rattle.std.specs.declared.alloc.AllocError.{AllocError}
use Rattle.radio_parts_table.specs.Lent.{AsBefore, HeardTo, LaggedOut, IsSeenAfter}
use Rattle.radio_parts_changes.specs.Lent.{IsLentTo}
use Rattle.radio_parts_table.specs.Exchange.{Comes, Stays, first_true, second_true, IsInPlace}
use Rattle.radio_seats_rows.specs.declared.seat.Seating.TheVariants.{Sits}
use Rattle.radio_core.proofs.Kept.CanSteps.{stands_can}
use Rattle.radio_laws.specs.LentParts.{all_but}

module _ (mount : List ℕ) where
  session_agrees : (its : Option Session) → ((b : Session) → its ≡ Some b → bytes_eq b.mount mount ≡ true) → (a b : Session) → IsInPlace its a b
      → SessionsAgree (all_but mount) a b
  session_agrees its named a b (Stays same) = SameSession same
  session_agrees its named a b (Comes is of) =
      let same : b.mount ≡ a.mount = (bytes_eq-Decides b.mount a.mount).0 (first_true (bytes_eq b.mount a.mount) (b.number == a.number) of) in
      let here : b.mount ≡ mount = (bytes_eq-Decides b.mount mount).0 (named b is) in
      FedBeyond (sym same) (sym (eqb-true b.number a.number (second_true (bytes_eq b.mount a.mount) (b.number == a.number) of)))
      (ap not ((bytes_eq-Decides mount a.mount).1 (sym here ∙ same)))

  sessions_agree : (its : Option Session) → ((b : Session) → its ≡ Some b → bytes_eq b.mount mount ≡ true) → (before after : List Session)
      → AllAgree (IsInPlace its) before after → AllAgree (SessionsAgree (all_but mount)) before after
  sessions_agree its named [] [] all = tt
  sessions_agree its named [] (b ∷ after) all = absurd all
  sessions_agree its named (a ∷ before) [] all = absurd all
  sessions_agree its named (a ∷ before) (b ∷ after) all = (session_agrees its named a b all.0, sessions_agree its named before after all.1)

  last_heard : (place : ℕ) (seating : Seating) → last_mount (heard_to place seating) ≡ last_mount seating
  last_heard place (Sits seat) = refl
  last_heard place (Finished rule last) = refl

  last_lost : (seating : Seating) → last_mount (lost_by Lagged seating) ≡ last_mount seating
  last_lost (Sits seat) = refl
  last_lost (Finished rule last) = refl

  listener_agrees : (a b : Listener) → IsSeenAfter mount a b → ListenersAgree (all_but mount) a b
  listener_agrees a b (AsBefore same) = SameListener same
  listener_agrees a b (HeardTo place is at) =
      LastBeyond (sym (ap (λ (l : Listener). l.id) is)) (ap not at)
      (ap (λ (l : Listener). all_but mount (last_mount l.seating)) is ∙ ap (all_but mount) (last_heard place a.seating) ∙ ap not at)
  listener_agrees a b (LaggedOut is at) =
      LastBeyond (sym (ap (λ (l : Listener). l.id) is)) (ap not at)
      (ap (λ (l : Listener). all_but mount (last_mount l.seating)) is ∙ ap (all_but mount) (last_lost a.seating) ∙ ap not at)

  listeners_agree : (before after : List Listener) → AllAgree (IsSeenAfter mount) before after → AllAgree (ListenersAgree (all_but mount)) before after
  listeners_agree [] [] all = tt
  listeners_agree [] (b ∷ after) all = absurd all
  listeners_agree (a ∷ before) [] all = absurd all
  listeners_agree (a ∷ before) (b ∷ after) all = (listener_agrees a b all.0, listeners_agree before after all.1)

pub lent_agree : (part there : MountPart) (before after : World) → IsLentTo part there before after → AgreeWithin (all_but part.mount) before after
lent_agree part there before after lent = record {
  station = sym (ap (λ (h : StationState). record h { live = before.station.live }) lent.station);
  sessions = sessions_agree part.mount part.session
      (λ b is. found_passes (is_of part.mount) after.station.live b (lent.session ∙ is)) before.station.live after.station.live lent.sessions;
  listeners = listeners_agree part.mount before.seats after.seats lent.listeners;
}

-- a core represents the state after the event, once it has stepped
pub core_after : (core w : World) (event : Event) → Represents core w → Represents (control_after core event) (world_after w event)
core_after core w event stands =
    let stepped = step_done core (control_after core event) event (planned core event) refl {E = AllocError} (Ok (control_reply core event)) refl refl w stands in
    subst (Represents (control_after core event)) stepped.1.1 stepped.2

-- and it can step
pub core_can : (core w : World) (event : Event) → Represents core w → CanStep core event
unfolding StandsForSome
core_can core w event stands = stands_can core (w, stands) event

-- its listeners are in the order of their numbers
pub core_ordered : (core w : World) → Represents core w → AreByNumber core.seats
unfolding Represents
core_ordered core w stands = subst (λ (x : World). AreByNumber x.seats) (sym stands.shows) stands.sound.by_number
