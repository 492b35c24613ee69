-- What a relay's thread does, without what is noted of the relay and of who feeds.
use Rattle.std.proofs.Common.{◌≡◌, inl, inr, ℕ, Bool, List, [], ◌∷◌, Option, None, Some, Result, Ok, Err, OnOk, OnErr, refl, sym, ap, subst, ◌∙◌}
use Rattle.radio_events.specs.declared.entry.Entry.{Entry}
use Rattle.radio_events.specs.declared.event.Event.{Event}
use Rattle.radio_events.specs.Servers.{Chain, Steps}
use Rattle.radio_masters.specs.Askers.{AskedOf, AskedSteps}
use Rattle.radio_masters.specs.declared.mount_pull.PullTurn.{PullTurn}
use Rattle.radio_masters.specs.declared.mount_pull.PullTurn.TheVariants.{Running, Shut, Closed, Failed, OutOfMemory}
use Rattle.radio_masters.specs.declared.relay_end.RelayEnd.{RelayEnd}
use Rattle.radio_masters.specs.Pulls.{Comes, IsPullTurn, PullOver}
use Rattle.radio_relay.specs.Course.{GoesDown, RefusesDown}
use Rattle.radio_relay.specs.Pulling.{Pulling}
use Rattle.radio_pullers.proofs.Words.{Begun, HasGoneOn, HasPulled, HasHadTurns, IsLetDown, IsNewPull, IsPullOf, no_pull, no_turn, one_pull, one_turn, RelaySetting}
use Rattle.radio_pullers.specs.Turns.{MayTurn}
use Rattle.radio_serving.specs.Watching.{WatchedOf, WatchedSteps}
use Rattle.radio_tries.specs.Pulls.{EndsBy, is_late}

some_none : {end : RelayEnd} → Some end ≡ None → ⊥
some_none e = cc

module _ {S : Type 0} (steps : Steps S) where
  abbrev Asker : Type 0
  Asker = AskedOf (WatchedOf S)

  abbrev asks : Steps Asker
  asks = AskedSteps (WatchedSteps steps)

  chain_within : (from to : Asker) (entries : List Entry) → Chain asks from entries to → Chain steps from.server.server entries to.server.server
  chain_within from to [] same = ap (λ (a : Asker). a.server.server) same
  chain_within from to (e ∷ entries) (mid, step, rest) = (mid.server.server, step.0.0, chain_within mid to entries rest)

  comes_within : (relay relay' : Pulling) (bytes : List ℕ) (from to : Asker) (turn : PullTurn) → Comes asks relay bytes from turn relay' to
      → Comes steps relay bytes from.server.server turn relay' to.server.server
  comes_within relay relay' bytes from to Running comes =
      record { entries = comes.entries; chain = chain_within from to comes.entries comes.chain; are = comes.are }
  comes_within relay relay' bytes from to (Shut ending) comes =
      record { entries = comes.entries; chain = chain_within from to comes.entries comes.chain; are = comes.are }
  comes_within relay relay' bytes from to Closed (none, same, stays) = (none, same, ap (λ (a : Asker). a.server.server) stays)
  comes_within relay relay' bytes from to Failed (none, same, stays) = (none, same, ap (λ (a : Asker). a.server.server) stays)
  comes_within relay relay' bytes from to OutOfMemory comes =
      record { entries = comes.entries; chain = chain_within from to comes.entries comes.chain; are = comes.are; numbered = comes.numbered }

  turn_within : (pull pull' : PullOver) (from to : Asker) (turn : PullTurn) → IsPullTurn asks pull from turn pull' to
      → IsPullTurn steps pull from.server.server turn pull' to.server.server
  turn_within pull pull' from to turn is = record {
    bytes = is.bytes;
    written = is.written;
    given = is.given;
    comes = comes_within pull.relay pull'.relay is.bytes from to turn is.comes;
    called = is.called;
    front = is.front;
  }

  pub gone_none : (pull : PullOver) (from : S) → HasGoneOn steps pull from pull from
  gone_none pull from = no_turn

  -- a turn that does not end the pull is one by which it goes on
  goes_on_by : (turn : PullTurn) (pull' : PullOver) (late : Bool) (end : Option RelayEnd) → EndsBy turn pull' late end → end ≡ None → turn ≡ Running
  goes_on_by Running pull' late end ends none = refl
  goes_on_by (Shut ending) pull' late end (reading, is, same) none = absurd (some_none (sym same ∙ none))
  goes_on_by Closed pull' late end same none = absurd (some_none (sym same ∙ none))
  goes_on_by Failed pull' late end same none = absurd (some_none (sym same ∙ none))
  goes_on_by OutOfMemory pull' late end same none = absurd (some_none (sym same ∙ none))

  -- one turn more
  pub gone_then : (began : ℕ) (end : Option RelayEnd) (first mid last : PullOver) (from : S) (between to : Asker)
      → HasGoneOn steps first from mid between.server.server → MayTurn asks began mid between end last to → end ≡ None
      → HasGoneOn steps first from last to.server.server
  gone_then began end first mid last from between to before (inl (turn, ms, is, ends)) none =
      one_turn mid last between.server.server to.server.server before
      (subst (λ (t : PullTurn). IsPullTurn steps mid between.server.server t last to.server.server) (goes_on_by turn last (is_late began ms) end ends none)
      (turn_within mid last between to turn is))
  gone_then began end first mid last from between to before (inr (same, stays, inl left)) none = absurd (some_none (sym left ∙ none))
  gone_then began end first mid last from between to before (inr (same, stays, inr stops)) none = absurd (some_none (sym stops ∙ none))

  -- and the last one, or none
  pub turned_then : (began : ℕ) (end : Option RelayEnd) (first mid last : PullOver) (from : S) (between to : Asker)
      → HasGoneOn steps first from mid between.server.server → MayTurn asks began mid between end last to
      → HasHadTurns steps first from last to.server.server
  turned_then began end first mid last from between to before (inl (turn, ms, is, ends)) = record {
    mid = mid;
    between = between.server.server;
    goes_on = before;
    ends = inr (turn, turn_within mid last between to turn is);
  }
  turned_then began end first mid last from between to before (inr (same, stays, why)) = record {
    mid = mid;
    between = between.server.server;
    goes_on = before;
    ends = inl (same, ap (λ (a : Asker). a.server.server) stays);
  }

  down_within : (number : Option ℕ) (from to : Asker) → GoesDown asks number from to → GoesDown steps number from.server.server to.server.server
  down_within None from to same = ap (λ (a : Asker). a.server.server) same
  down_within (Some id) from to (reply, step) = (reply, step.0.0)

  module _ (refuses : S → Event → Type 0) where
    refused_within : (number : Option ℕ) (from : Asker) → RefusesDown (λ (a : Asker) event. refuses a.server.server event) number from
        → RefusesDown refuses number from.server.server
    refused_within None from refused = refused
    refused_within (Some id) from refused = refused

    -- the relay goes down, or that is refused
    pub let_down : {E : Type 0} (result : Result (Unit {0}) E) (number : Option ℕ) (first from to : Asker) → from ≡ first
        → OnOk result (GoesDown asks number from to) → OnErr result (to ≡ from)
        → OnErr result (RefusesDown (λ (a : Asker) event. refuses a.server.server event) number from)
        → IsLetDown steps refuses number first.server.server to.server.server
    let_down (Ok u) number first from to same down stays refused =
        subst (λ (a : Asker). IsLetDown steps refuses number a.server.server to.server.server) same (inl (down_within number from to down))
    let_down (Err e) number first from to same down stays refused =
        subst (λ (a : Asker). IsLetDown steps refuses number a.server.server to.server.server) same
        (inr (ap (λ (a : Asker). a.server.server) stays, refused_within number from refused))

    -- a relay is the same by now
    abbrev Pulled : Begun → S → S → Type 0
    Pulled relay from to = HasPulled steps refuses relay.setting from to

    pub pulls_none : (relay : Begun) (from : S) → Pulled relay from from
    pulls_none relay from = no_pull

    pub pulls_same : (relay : Begun) (from to : Asker) → to ≡ from → Pulled relay from.server.server to.server.server
    pulls_same relay from to same = subst (λ (a : Asker). Pulled relay from.server.server a.server.server) (sym same) no_pull

    pub pulls_one : (relay now : Begun) (first from : Asker) (to : S) → now ≡ relay → from ≡ first
        → IsPullOf steps refuses now.setting from.server.server to → Pulled relay first.server.server to
    pulls_one relay now first from to same stays is =
        subst (λ (r : Begun). Pulled r first.server.server to) same
        (subst (λ (a : Asker). Pulled now a.server.server to) stays (one_pull from.server.server to no_pull is))

    joined : (relay : RelaySetting) (first second third : S) → HasPulled steps refuses relay first second → HasPulled steps refuses relay second third
        → HasPulled steps refuses relay first third
    joined relay first second third before no_pull = before
    joined relay first second third before (one_pull from to was is) = one_pull from to (joined relay first second from before was) is

    pub pulls_then : (relay now : Begun) (first second third : S) → now ≡ relay → Pulled relay first second → Pulled now second third
        → Pulled relay first third
    pulls_then relay now first second third same before more =
        joined relay.setting first second third before (subst (λ (r : Begun). Pulled r second third) same more)

    pub pulls_rest : (relay now : Begun) (first second : S) (third last : WatchedOf S) → now ≡ relay → last ≡ third → Pulled relay first second
        → Pulled now second third.server → Pulled relay first last.server
    pulls_rest relay now first second third last same stays before more =
        subst (λ (w : WatchedOf S). Pulled relay first w.server) (sym stays) (pulls_then relay now first second third.server same before more)

-- memory was refused for its going down
pub refused_same : {A E : Type 0} (result : Result (Unit {0}) E) (e : E) (first from to : A) → result ≡ Err e → OnErr result (to ≡ from) → from ≡ first
    → to ≡ first
refused_same (Ok u) e first from to is stays same = absurd (cc)
refused_same (Err f) e first from to is stays same = stays ∙ same

-- a pull of the relay as it is by now
pub new_pull_of : (relay now : Begun) (pull : PullOver) → now ≡ relay → IsNewPull relay.setting pull → IsNewPull now.setting pull
new_pull_of relay now pull same is = subst (λ (r : Begun). IsNewPull r.setting pull) (sym same) is
