-- whoever has lost its seat has left by it, or was finished
use Rattle.std.proofs.Common.{◌≡◌, inl, inr, ℕ, Some, None, ap, sym, ◌∙◌}
use Rattle.radio_core.proofs.Words.{Event, Leave, Outcome, Unknown, Sits, Rule, Seat, seat_of, changed, Finishes, StandsOn, LosesNoSeatElse, IsSound, outcome, world_after, Way, Misplaced, IsFinished, IsDenied, IsRefused}
use Rattle.radio_core.proofs.Words.{IsAdmitted, Begins, ComesUp, Receives, SetsTitle, TakesSeat, HandsOut, Ends, EndsAndLeaves, Leaves, GoesDown, Obeys, Shows, HasPassed, Ticks, client_in, World, standing_of, way_of}
use Rattle.radio_core.proofs.Clients.ClosingLemmas.{closes_his}
use Rattle.radio_core.proofs.Clients.Effects.{his_event}
use Rattle.radio_core.proofs.Clients.FinishLemmas.{others_hold}
use Rattle.radio_core.proofs.Clients.OwnLemmas.{by_own}
use Rattle.radio_core.proofs.Seats.SeatedLemmas.{seat_of_sitting}
use Rattle.radio_core.proofs.Clients.ReplyLemmas.{replies_fit}
use Rattle.radio_core.proofs.Sound.SoundSessions.{has_advanced}

module _ (w : World) (s : IsSound w) (id : ℕ) (seat : Seat) (has : seat_of w.seats id ≡ Some seat) where
  sits : standing_of w id ≡ Sits
  sits = s.sitting id seat has

  -- by its own events, it loses it by leaving alone
  own_by : (event : Event) (o : Outcome) → Way w event o → client_in event ≡ Some id → seat_of (changed w o.change).seats id ≡ None → event ≡ Leave id
  own_by event o (EndsAndLeaves _ him mount closes feeding) his none =
      let both : Some him ≡ Some id = sym (closes_his w him event closes) ∙ his in
      let same : him ≡ id = cc in
      let sat : standing_of w him ≡ Sits = ap (standing_of w) same ∙ sits in cc
  own_by event o (GoesDown him rule relay told) his none =
      let same : him ≡ id = cc in let sat : standing_of w him ≡ Sits = ap (standing_of w) same ∙ sits in cc
  own_by event o (ComesUp mount shown free allowed) his none = cc
  own_by event o (Leaves him no_relay other) his none = let same : him ≡ id = cc in ap (λ n. Leave n) same
  own_by event o (HandsOut him room old session sitting had live) his none =
      let same : him ≡ id = cc in
      let still = has_advanced w s him room old session sitting had live in
      let gone : seat_of (changed w o.change).seats him ≡ None = ap (seat_of (changed w o.change).seats) same ∙ none in
      cc
  own_by event o (Receives him mount block feeding) his none =
      let same : him ≡ id = cc in let sat : standing_of w him ≡ Sits = ap (standing_of w) same ∙ sits in cc
  own_by event o (Ends him mount feeding no_relay) his none =
      let same : him ≡ id = cc in let sat : standing_of w him ≡ Sits = ap (standing_of w) same ∙ sits in cc
  own_by event o (TakesSeat asked peer session undecided lands live allowed) his none =
      let same : asked.id ≡ id = cc in let sat : standing_of w asked.id ≡ Sits = ap (standing_of w) same ∙ sits in cc
  own_by event o (Misplaced _) his none = cc
  own_by event o (IsFinished _ him by its known) his none = cc
  own_by event o (IsDenied _ by v nobody) his none = cc
  own_by event o (IsRefused _ him by v its undecided) his none = cc
  own_by event o (IsAdmitted peer allowed) his none = cc
  own_by event o (Begins asked undecided free allowed) his none =
      let at = undecided.1 in let same : asked.id ≡ id = cc in let sat : standing_of w asked.id ≡ Sits = ap (standing_of w) same ∙ sits in cc
  own_by event o (SetsTitle him mount text feeding) his none = cc
  own_by event o (Shows _ asker peer text its undecided what) his none =
      let both : Some asker ≡ Some id = sym its ∙ his in
      let same : asker ≡ id = cc in
      let at = undecided in let sat : standing_of w asker ≡ Sits = ap (standing_of w) same ∙ sits in cc
  own_by event o (Obeys _ command c) his none =
      let both : Some c.asked.id ≡ Some id = sym (his_event w s event command c) ∙ his in
      let same : c.asked.id ≡ id = cc in
      let at = c.undecided in let sat : standing_of w c.asked.id ≡ Sits = ap (standing_of w) same ∙ sits in cc
  own_by event o (HasPassed ms e) his none = cc
  own_by event o (Ticks ms e) his none = cc

  own : (event : Event) → client_in event ≡ Some id → seat_of (world_after w event).seats id ≡ None → event ≡ Leave id
  unfolding world_after
  own event his none = own_by event (outcome w event) (way_of w event) his none

  other_by : (event : Event) → StandsOn w event id → seat_of (world_after w event).seats id ≡ None → (rule : Rule) × Finishes w event id rule
  other_by event (inl same) none =
      let one = seat_of_sitting (world_after w event) id (same ∙ sits) in
      let still : seat_of (world_after w event).seats id ≡ Some one.0 = one.1 in
      cc
  other_by event (inr (inl finished)) none = finished
  other_by event (inr (inr arrived)) none = let unknown : standing_of w id ≡ Unknown =
      ((replies_fit w s event).arrived id arrived).2 in let sat : standing_of w id ≡ Sits = sits in cc

pub loses_no_seat_else : (w : World) → IsSound w → (event : Event) → LosesNoSeatElse w event
loses_no_seat_else w s event id seat has none =
    by_own event id (λ his. inl (own w s id seat has event his none))
    (λ other apart. inr (other_by w s id seat has event (others_hold w s event id other) none))
