-- what an event does to the standings of clients
use Rattle.std.proofs.Common.{◌≡◌, true, false, ℕ, ◌+◌, ◌==◌, Some, None, List, refl, ap, sym, ◌∙◌}
use Rattle.radio_core.proofs.Words.{Peer, Rule, Event, Push, SourceEnd, Clock, by_number, Command, IsCommanded, End, EndAndLeave, Obey, Outcome, Reply, Arrived, Standing, Unknown, Undecided, Feeds, Sits, Answered}
use Rattle.radio_core.proofs.Words.{Finished, passes, World, standing_of, changed, block_received, ticked, Cause, TakesTo, first_seat, Seat, seat_of, Session, IsSound, shown_for, outcome, reply_to, world_after, Way}
use Rattle.radio_core.proofs.Words.{Misplaced, IsFinished, IsDenied, IsRefused, IsAdmitted, Begins, ComesUp, Receives, SetsTitle, TakesSeat, HandsOut, Ends, EndsAndLeaves, Leaves, GoesDown, Obeys, Shows, HasPassed}
use Rattle.radio_core.proofs.Words.{Ticks, client_in, listener_seated, way_of, may_arrive}
use Rattle.radio_core.proofs.Clients.CalledHome.{turns_up, turns_risen}
use Rattle.radio_core.proofs.Clients.Standings.{Turns, asks, turns_answered, turns_sitting, turns_forgotten, turns_admitted, stays_hearing}
use Rattle.radio_core.proofs.Clients.Fates.{IsDone, Fate, GoesOn, IsEnded, HasStopped, IsMoved, HasEnded, Nobody}
use Rattle.radio_core.proofs.Sound.SoundEnds.{ended_fates, ended_and_left_fates}
use Rattle.radio_core.proofs.Sound.SoundRuns.{grown_world, NoMove, lag_fates}
use Rattle.radio_core.proofs.Sessions.TickLemmas.{ClockCarries, ticked_fates}
use Rattle.radio_core.proofs.Clients.Obeyed.{LeavesFor, Takes, obeyed, is_answered, others_stood}

-- nobody finishes by its own event, and nobody is again yet to ask after it
abbrev pub HasActed : Standing → Type 0
HasActed (Undecided peer) = ⊥
HasActed (Finished rule) = ⊥
HasActed standing = Unit {0}

-- a client keeps its standing, or is finished, or stops feeding by its own doing
pub data IsSwept (w later : World) (event : Event) (id : ℕ) : Type 0 where
  GoesOnAs : standing_of later id ≡ standing_of w id → IsSwept w later event id
  IsOut : (rule : Rule) → Cause w later event id rule → standing_of later id ≡ Finished rule → seat_of later.seats id ≡ None → IsSwept w later event id
  HasDone : client_in event ≡ Some id → HasActed (standing_of later id) → IsSwept w later event id

has_acted : (now : Standing) → IsDone now → HasActed now
has_acted Answered done = tt
has_acted Unknown done = tt
has_acted (Undecided peer) done = done
has_acted (Feeds mount) done = tt
has_acted Sits done = tt
has_acted (Finished rule) done = done

pub swept : (w later : World) (event : Event) (M : ℕ → Session → Type 0) (S : ℕ → Type 0) (L : World → Seat → Session → Type 0) (id : ℕ)
    → (S id → client_in event ≡ Some id) → Fate (Cause w later event) M S L w later id → IsSwept w later event id
swept w later event M S L id own (GoesOn same seat feeds sits) = GoesOnAs same
swept w later event M S L id own (IsEnded rule cause active ended none over) = IsOut rule cause ended none
swept w later event M S L id own (HasStopped mount why feeding done none over) = HasDone (own why) (has_acted (standing_of later id) done)
swept w later event M S L id own (IsMoved old session carries left had has same live opens) = GoesOnAs same

pub data Effect (w later : World) (event : Event) (reply : Reply) : Type 0 where
  -- everybody keeps their standing
  Same : ((id : ℕ) → standing_of later id ≡ standing_of w id) → Effect w later event reply
  -- a client has arrived
  Joins : (peer : Peer) → passes w.station.lists peer ≡ true → reply ≡ Arrived (w.station.last_id + 1) → Turns w later (w.station.last_id + 1) (Undecided peer)
      → Effect w later event reply
  -- a relay has come up
  Rises : (mount : List ℕ) → reply ≡ Arrived (w.station.last_id + 1) → Turns w later (w.station.last_id + 1) (Feeds mount) → Effect w later event reply
  -- the event's client has another standing
  Acts : (him : ℕ) (now : Standing) → client_in event ≡ Some him → HasActed now → Turns w later him now → Effect w later event reply
  -- some are finished, at most one stops feeding, and the others keep their standing
  Sweeps : ((id : ℕ) → IsSwept w later event id) → Effect w later event reply

-- a block comes: who is too far behind is finished
module _ (w : World) (s : IsSound w) (mount block : List ℕ) (him : ℕ) (feeding : standing_of w him ≡ Feeds mount) where
  pub lag_swept : (id : ℕ) → IsSwept w (block_received w mount block) (Push him block) id
  lag_swept id = by_fate ((lag_fates w s mount block him feeding).fate id) where
    by_fate : Fate (Cause w (block_received w mount block) (Push him block)) NoMove Nobody HasEnded (grown_world w mount block) (block_received w mount block) id
        → IsSwept w (block_received w mount block) (Push him block) id
    by_fate (GoesOn same seat feeds sits) = GoesOnAs same
    by_fate (IsEnded rule cause active ended none over) = IsOut rule cause ended none
    by_fate (HasStopped other why feeds done none over) = absurd why
    by_fate (IsMoved old session carries left had has same live opens) = absurd carries

-- a command is done: the client who gave it has had its answer, and whom it names is finished, or carried along
module _ (w : World) (s : IsSound w) (event : Event) (command : Command) (c : IsCommanded w event command) where
  abbrev then_world : World
  then_world = changed w (Obey c.asked.id command)

  pub his_event : client_in event ≡ Some c.asked.id
  his_event = ap client_in c.is_event

  has_his_answer : (now : Standing) → now ≡ Answered → HasActed now
  has_his_answer Answered e = tt
  has_his_answer Unknown e = tt
  has_his_answer (Undecided peer) e = cc
  has_his_answer (Feeds mount) e = tt
  has_his_answer Sits e = tt
  has_his_answer (Finished rule) e = cc

  pub obeyed_swept : (id : ℕ) → IsSwept w (changed w (Obey c.asked.id command)) event id
  obeyed_swept id =
      by_number c.asked.id id
      (λ same. HasDone (his_event ∙ ap (λ (n : ℕ). Some n) same)
      (has_his_answer (standing_of then_world id) (ap (standing_of then_world) (sym same) ∙ is_answered w s event command c)))
      (λ apart. by_fate apart ((obeyed w s event command c).fates.fate id)) where
        by_fate : (c.asked.id == id) ≡ false
            → Fate (Cause w (changed w (Obey c.asked.id command)) event) (Takes w event) Nobody (LeavesFor w event) (obeyed w s event command c).base
            (changed w (Obey c.asked.id command)) id
            → IsSwept w (changed w (Obey c.asked.id command)) event id
        by_fate apart (GoesOn same seat feeds sits) = GoesOnAs (same ∙ others_stood w s event command c id apart)
        by_fate apart (IsEnded rule cause active ended none over) = IsOut rule cause ended none
        by_fate apart (HasStopped other why feeds done none over) = absurd why
        by_fate apart (IsMoved old session carries left had has same live opens) = GoesOnAs (same ∙ others_stood w s event command c id apart)

module _ (w : World) (s : IsSound w) where
  pub tick_swept : (ms : ℕ) (id : ℕ) → IsSwept w (ticked w ms) (Clock ms) id
  tick_swept ms id = swept w (ticked w ms) (Clock ms) (ClockCarries w s ms) Nobody HasEnded id (λ why. absurd why) ((ticked_fates w s ms).fate id)

  effect_by : (event : Event) (o : Outcome) → Way w event o → Effect w (changed w o.change) event o.reply
  effect_by event o (Misplaced _) = Same (λ id. refl)
  effect_by event o (IsFinished _ him by its known) = Same (λ id. refl)
  effect_by event o (IsDenied _ by v nobody) = Same (λ id. refl)
  effect_by event o (IsRefused _ him by v its undecided) = Acts him Answered its tt (turns_answered w him (asks w him undecided.0 undecided.1))
  effect_by event o (IsAdmitted peer allowed) = Joins peer (may_arrive w peer allowed) refl (turns_admitted w (w.station.last_id + 1) peer)
  effect_by event o (Begins asked undecided none allowed) = let at = undecided.1 in Acts asked.id (Feeds asked.mount) refl tt
      (turns_up w s asked.id asked.mount (shown_for w.station asked.mount asked.shown) undecided.0 undecided.1 none)
  effect_by event o (ComesUp mount shown none allowed) = Rises mount refl (turns_risen w s mount (shown_for w.station mount shown) none)
  effect_by event o (Receives him mount block feeding) = Sweeps (λ id. lag_swept w s mount block him feeding id)
  effect_by event o (Shows _ asker peer text its undecided what) = Acts asker Answered its tt
      (turns_answered w asker (asks w asker peer undecided))
  effect_by event o (Obeys _ command c) = Sweeps (λ id. obeyed_swept w s event command c id)
  effect_by event o (HasPassed ms e) = Same (λ id. refl)
  effect_by event o (Ticks ms e) = Sweeps (λ id. tick_swept ms id)
  effect_by event o (SetsTitle him mount text feeding) = Same (λ id. refl)
  effect_by event o (TakesSeat asked peer session undecided lands live allowed) =
      Acts asked.id Sits refl tt (turns_sitting w asked.id (first_seat w.station asked peer session) (asks w asked.id peer undecided))
  effect_by event o (HandsOut him room seat session sits has live) =
      let listener = listener_seated w.seats him seat has in
      Same (λ id. stays_hearing w him _ listener.0 listener.1 id)
  effect_by event o (Ends him mount feeding no_relay) =
      Sweeps (λ id. swept w (changed w (End him mount)) (SourceEnd him) (λ id session. TakesTo w (SourceEnd him) id session.mount)
      (λ id. client_in (SourceEnd him) ≡ Some id) HasEnded id (λ his. his) ((ended_fates w s him mount feeding no_relay).fate id))
  effect_by event o (EndsAndLeaves _ him mount closes feeding) =
      Sweeps (λ id. swept w (changed w (EndAndLeave him mount)) event (λ id session. TakesTo w event id session.mount)
      (λ id. client_in event ≡ Some id) HasEnded id (λ his. his) ((ended_and_left_fates w s him mount feeding event closes).fate id))
  effect_by event o (Leaves him no_relay other) = Acts him Unknown refl tt (turns_forgotten w him)
  effect_by event o (GoesDown him rule relay told) = Acts him Unknown refl tt (turns_forgotten w him)

  pub effect_of : (event : Event) → Effect w (world_after w event) event (reply_to w event)
  unfolding reply_to world_after
  effect_of event = effect_by event (outcome w event) (way_of w event)
