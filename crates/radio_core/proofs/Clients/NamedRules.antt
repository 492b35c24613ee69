-- why a reply names a rule
use Rattle.std.proofs.Common.{◌≡◌, ℕ, Option, Some, None, refl}
use Rattle.radio_core.proofs.Words.{Rule, verdict_in, client_in, Event, Reply, Deny, Nothing, Answer, Outcome, says, outcome, Way, Misplaced, IsFinished, IsDenied, IsRefused, IsAdmitted, Begins, ComesUp, Receives}
use Rattle.radio_core.proofs.Words.{SetsTitle, TakesSeat, HandsOut, Ends, EndsAndLeaves, Leaves, GoesDown, Obeys, Shows, HasPassed, Ticks, rows_for, IsUndecided, World, standing_of, way_of}
use Rattle.radio_policy.specs.declared.judgement.Verdict.TheVariants.{Deny as Denied}
use Rattle.radio_events.specs.declared.reply.Reply.TheVariants.{Finished}
use Rattle.radio_parts_station.specs.declared.standing.Standing.TheVariants.{Finished as HasFinished}

-- the rule that a reply names
abbrev pub rule_in : Reply → Option Rule
rule_in (Deny rule) = Some rule
rule_in (Finished rule) = Some rule
rule_in reply = None

-- why an outcome's reply names a rule, if it does: its client was finished by it, or the policy denies by it
pub data RuleNamed (w : World) (event : Event) : Outcome → Type 0 where
  TellsHisRule : (id : ℕ) (rule : Rule) → client_in event ≡ Some id → standing_of w id ≡ HasFinished rule → RuleNamed w event (says (Finished rule) Nothing)
  DeniesIt : (rule : Rule) → verdict_in (rows_for w event) ≡ Denied rule → ((id : ℕ) → client_in event ≡ Some id → IsUndecided w id → ⊥)
      → RuleNamed w event (says (Deny rule) Nothing)
  RefusesHim : (id : ℕ) (rule : Rule) → verdict_in (rows_for w event) ≡ Denied rule → client_in event ≡ Some id → IsUndecided w id
      → RuleNamed w event (says (Deny rule) (Answer id))
  NamesNoRule : (o : Outcome) → rule_in o.reply ≡ None → RuleNamed w event o

named_by : (w : World) (event : Event) (o : Outcome) → Way w event o → RuleNamed w event o
named_by w event o (IsFinished _ id rule its told) = TellsHisRule id rule its told
named_by w event o (IsDenied _ rule v nobody) = DeniesIt rule v nobody
named_by w event o (IsRefused _ id rule v its undecided) = RefusesHim id rule v its undecided
named_by w event o (Misplaced _) = NamesNoRule o refl
named_by w event o (IsAdmitted peer allowed) = NamesNoRule o refl
named_by w event o (Begins asked undecided none allowed) = NamesNoRule o refl
named_by w event o (ComesUp mount shown none allowed) = NamesNoRule o refl
named_by w event o (Receives id mount block feeding) = NamesNoRule o refl
named_by w event o (SetsTitle id mount text feeding) = NamesNoRule o refl
named_by w event o (Shows _ asker peer text its undecided what) = NamesNoRule o refl
named_by w event o (Obeys _ command c) = NamesNoRule o refl
named_by w event o (HasPassed ms e) = NamesNoRule o refl
named_by w event o (Ticks ms e) = NamesNoRule o refl
named_by w event o (TakesSeat asked peer session undecided lands live allowed) = NamesNoRule o refl
named_by w event o (HandsOut id room seat session sits has live) = NamesNoRule o refl
named_by w event o (Ends id mount feeding no_relay) = NamesNoRule o refl
named_by w event o (EndsAndLeaves _ id mount closes feeding) = NamesNoRule o refl
named_by w event o (Leaves id no_relay other) = NamesNoRule o refl
named_by w event o (GoesDown id rule relay told) = NamesNoRule o refl

pub rule_named : (w : World) (event : Event) → RuleNamed w event (outcome w event)
rule_named w event = named_by w event (outcome w event) (way_of w event)
