-- The course of one pull of a relay, turn after turn.
use Rattle.std.proofs.Common.{◌≡◌, ◌⊎◌, inl, inr, ℕ, Bool, true, false, List, [], ◌∷◌, ◌++◌, Option, None, Some, refl, sym, ap, subst, ◌∙◌}
use Rattle.radio_stations.proofs.Words.{append-nil, Entry, Event, RelayDown, State, Running, Shut, entry, Chain, Steps, chain_one, chain_then, AreAtMostOfTurn, AreOfTurn, IsGoingDown, PullCourse, PullSoFar, begins}
use Rattle.radio_stations.proofs.Words.{goes_down, has_turn, is_refused, number_after, HasGoneOn, IsLetDown, IsNewPull, no_turn, one_turn, RelaySetting}
use Rattle.radio_masters.specs.declared.mount_pull.PullTurn.{PullTurn}
use Rattle.radio_masters.specs.declared.mount_pull.PullTurn.TheVariants.{Running as GoesOn, Shut as IsShut, Closed, Failed, OutOfMemory}
use Rattle.radio_masters.specs.Pulls.{Comes, AppliesAll, IsPullTurn, PullOver}
use Rattle.radio_relay.specs.Course.{GoesDown}
use Rattle.radio_relay.specs.Pulling.{Pulling, is_shut, pulling_begun}
use Rattle.radio_stations.specs.Relays.{HasItsCourse, PullsMeanTheirBytes}

module _ {S : Type 0} (steps : Steps S) (mount : List ℕ) (from : S) where
  -- the course of a pull up to here, whether it is over or not
  record IsSoFar (is_over : Bool) (over : PullOver) (to : S) : Type 0 where
    pub pull : PullSoFar
    pub course : PullCourse mount pull
    pub same_given : pull.given ≡ over.given
    pub same : pull.pulling ≡ over.relay
    pub ends : pull.is_over ≡ is_over
    pub chain : Chain steps from pull.entries to

  -- the same of a pull that had its last turn
  record HasEnded (over : PullOver) (to : S) : Type 0 where
    pub pull : PullSoFar
    pub course : PullCourse mount pull
    pub same_given : pull.given ≡ over.given
    pub same_number : pull.pulling.number ≡ over.relay.number
    pub chain : Chain steps from pull.entries to

  number_of : (one other : Pulling) → one ≡ other → one.number ≡ other.number
  number_of one other same = ap (λ (pulling : Pulling). pulling.number) same

  ended_by : (is_over : Bool) (over : PullOver) (to : S) → IsSoFar is_over over to → HasEnded over to
  ended_by is_over over to p = record {
    pull = p.pull;
    course = p.course;
    same_given = p.same_given;
    same_number = number_of p.pull.pulling over.relay p.same;
    chain = p.chain;
  }

  -- a turn that brought these bytes
  turn_then : (state : State) (bytes : List ℕ) (mid over : PullOver) (between to : S) → IsSoFar false mid between
      → AppliesAll steps mid.relay bytes between over.relay state to → over.given ≡ mid.given ++ bytes → IsSoFar (is_shut state) over to
  turn_then state bytes mid over between to p applies given = record {
    pull = record { given = p.pull.given ++ bytes; entries = p.pull.entries ++ applies.entries; pulling = over.relay; is_over = is_shut state };
    course = has_turn p.pull p.course p.ends bytes applies.entries over.relay state
        (subst (λ (pulling : Pulling). AreOfTurn pulling bytes applies.entries over.relay state) (sym p.same) applies.are);
    same_given = ap (λ (xs : List ℕ). xs ++ bytes) p.same_given ∙ sym given;
    same = refl;
    ends = refl;
    chain = chain_then steps from between to p.pull.entries applies.entries p.chain applies.chain;
  }

  -- the line was over, and nothing came
  came_none : (bytes : List ℕ) (mid over : PullOver) (between to : S) → IsSoFar false mid between → bytes ≡ [] → over.relay ≡ mid.relay → to ≡ between
      → over.given ≡ mid.given ++ bytes → HasEnded over to
  came_none bytes mid over between to p none same stays given = record {
    pull = p.pull;
    course = p.course;
    same_given = p.same_given ∙ sym (given ∙ ap (λ (xs : List ℕ). mid.given ++ xs) none ∙ append-nil mid.given);
    same_number = number_of p.pull.pulling over.relay (p.same ∙ sym same);
    chain = subst (λ (s : S). Chain steps from p.pull.entries s) (sym stays) p.chain;
  }

  last_turn : (turn : PullTurn) (bytes : List ℕ) (mid over : PullOver) (between to : S) → IsSoFar false mid between
      → Comes steps mid.relay bytes between turn over.relay to → over.given ≡ mid.given ++ bytes → HasEnded over to
  last_turn GoesOn bytes mid over between to p comes given = ended_by false over to (turn_then Running bytes mid over between to p comes given)
  last_turn (IsShut ending) bytes mid over between to p comes given = ended_by true over to (turn_then (Shut ending) bytes mid over between to p comes given)
  last_turn Closed bytes mid over between to p (none, same, stays) given = came_none bytes mid over between to p none same stays given
  last_turn Failed bytes mid over between to p (none, same, stays) given = came_none bytes mid over between to p none same stays given
  last_turn OutOfMemory bytes mid over between to p comes given = record {
    pull = record {
      given = p.pull.given ++ bytes;
      entries = p.pull.entries ++ comes.entries;
      pulling = record p.pull.pulling { number = number_after p.pull.pulling.number comes.entries };
      is_over = true;
    };
    course = is_refused p.pull p.course p.ends bytes comes.entries
        (subst (λ (pulling : Pulling). AreAtMostOfTurn pulling bytes comes.entries) (sym p.same) comes.are);
    same_given = ap (λ (xs : List ℕ). xs ++ bytes) p.same_given ∙ sym given;
    same_number = ap (λ (pulling : Pulling). number_after pulling.number comes.entries) p.same ∙ sym comes.numbered;
    chain = chain_then steps from between to p.pull.entries comes.entries p.chain comes.chain;
  }

  turns_end : (mid last : PullOver) (between to : S) → IsSoFar false mid between
      → ((last ≡ mid) × (to ≡ between)) ⊎ ((turn : PullTurn) × IsPullTurn steps mid between turn last to) → HasEnded last to
  turns_end mid last between to p (inl (same, stays)) =
      subst (λ (over : PullOver). HasEnded over to) (sym same) (subst (λ (s : S). HasEnded mid s) (sym stays) (ended_by false mid between p))
  turns_end mid last between to p (inr (turn, is)) = last_turn turn is.bytes mid last between to p is.comes is.given

  -- what a relay applies as it goes down
  record WentDown (number : Option ℕ) (mid to : S) : Type 0 where
    pub entries : List Entry
    pub are : IsGoingDown number entries
    pub chain : Chain steps mid entries to

  went_down : (number : Option ℕ) (mid to : S) → GoesDown steps number mid to → WentDown number mid to
  went_down None mid to same = record { entries = []; are = refl; chain = same }
  went_down (Some id) mid to (reply, step) = record {
    entries = entry (RelayDown id) reply ∷ [];
    are = (reply, refl);
    chain = chain_one steps mid to (entry (RelayDown id) reply) step;
  }

  let_down : (refuses : S → Event → Type 0) (last : PullOver) (mid to : S) → HasEnded last mid → IsLetDown steps refuses last.relay.number mid to
      → HasItsCourse steps mount last.given from to
  let_down refuses last mid to p (inl down) =
      let went = went_down last.relay.number mid to down in
      record {
        pull = record p.pull { entries = p.pull.entries ++ went.entries; is_over = true };
        course = goes_down p.pull p.course went.entries (subst (λ (number : Option ℕ). IsGoingDown number went.entries) (sym p.same_number) went.are);
        same_given = p.same_given;
        chain = chain_then steps from mid to p.pull.entries went.entries p.chain went.chain;
      }
  let_down refuses last mid to p (inr (stays, refused)) = record {
    pull = p.pull;
    course = p.course;
    same_given = p.same_given;
    chain = subst (λ (s : S). Chain steps from p.pull.entries s) (sym stays) p.chain;
  }

module _ {S : Type 0} (steps : Steps S) (relay : RelaySetting) (from : S) where
  new_pull : (first : PullOver) → IsNewPull relay first → IsSoFar steps relay.local_mount from false first from
  new_pull first new = record {
    pull = record { given = []; entries = []; pulling = pulling_begun relay.local_mount; is_over = false };
    course = begins;
    same_given = sym new.given;
    same = sym new.is_begun;
    ends = refl;
    chain = refl;
  }

  gone_on : (first last : PullOver) (to : S) → IsNewPull relay first → HasGoneOn steps first from last to → IsSoFar steps relay.local_mount from false last to
  gone_on first last to new no_turn = new_pull first new
  gone_on first last to new (one_turn mid over between after before is) =
      turn_then steps relay.local_mount from Running is.bytes mid last between to (gone_on first mid between new before) is.comes is.given

pub pulls_mean : {S : Type 0} (steps : Steps S) (refuses : S → Event → Type 0) → PullsMeanTheirBytes steps refuses
pulls_mean steps refuses relay from to is =
    let mount = relay.local_mount in
    let on = gone_on steps relay from is.first is.turns.mid is.turns.between is.begins is.turns.goes_on in
    let ended = turns_end steps mount from is.turns.mid is.last is.turns.between is.mid on is.turns.ends in
    let_down steps mount from refuses is.last is.mid to ended is.ends
