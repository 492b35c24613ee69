-- Each input of a pull has one result.
use Rattle.std.proofs.Common.{◌≡◌, ℕ, List, [], ◌∷◌, ◌++◌, Option, None, Some, sym, ap, subst, ◌∙◌}
use Rattle.radio_floor.proofs.Words.{Event, World, Step, PullItem, items_of, GoesOn, IsPulledAt, Pulled, Stops, State, Running, Shut, Pulling, NumberedState, state_after_reply, event_for, Asks, BringsItems, ComesOf}
use Rattle.radio_floor.proofs.Words.{Follows, GoesDownIfShut, Onwards, AskingIsOne, GoingDownIsOne, TakingIsOne}
use Rattle.radio_relay.specs.declared.pull.PullStage.{PullStage}
use Rattle.radio_relay.specs.declared.pull.PullStage.TheVariants.{Head, Behind, Over}
use Rattle.radio_relay.specs.Cuts.{PullingIsOne}
use Rattle.radio_relay.specs.Pulled.{PullProgress as AnswerStanding}

pub going_down_is_one : GoingDownIsOne
going_down_is_one None w a b g h = g ∙ sym h
going_down_is_one (Some id) w a b g h = g.1.1 ∙ sym h.1.1

down_if_once : (state : State) (number : Option ℕ) (w a b : World) → GoesDownIfShut Step state number w a → GoesDownIfShut Step state number w b → a ≡ b
down_if_once Running number w a b g h = g ∙ sym h
down_if_once (Shut ending) number w a b g h = going_down_is_one number w a b g h

-- the two courses have the same end
abbrev Alike : NumberedState → World → NumberedState → World → Type 0
Alike one a other b = (one ≡ other) × (a ≡ b)

asking_once : (number : Option ℕ) (event : Event) (one other : NumberedState) (w a b : World) → Asks Step number event w one a → Asks Step number event w other b
    → Alike one a other b
asking_once number event one other w a b g h =
    let same_reply : g.reply ≡ h.reply = g.step.0 ∙ sym h.step.0 in
    let same_mid : g.mid ≡ h.mid = g.step.1 ∙ sym h.step.1 in
    let same : one ≡ other = g.is_answered ∙ ap (state_after_reply number) same_reply ∙ sym h.is_answered in
    let here = subst (λ (x : NumberedState). GoesDownIfShut Step x.state x.number g.mid a) same g.goes in
    let there = subst (λ (x : World). GoesDownIfShut Step other.state other.number x a) same_mid here in
    (same, down_if_once other.state other.number h.mid a b there h.goes)

pub asking_is_one : AskingIsOne
asking_is_one number None one other w a b g h = (g.0 ∙ sym h.0, g.1 ∙ sym h.1)
asking_is_one number (Some event) one other w a b g h = asking_once number event one other w a b g h

module _ (Rest : NumberedState → World → NumberedState → World → Type 0)
    (once : (now : NumberedState) (w : World) (one other : NumberedState) (a b : World) → Rest now w one a → Rest now w other b → Alike one a other b) where
  follows_once : (state : State) (now : NumberedState) (w : World) (one other : NumberedState) (a b : World)
      → Follows state (Rest now w one a) ((one ≡ now) × (a ≡ w)) → Follows state (Rest now w other b) ((other ≡ now) × (b ≡ w)) → Alike one a other b
  follows_once Running now w one other a b g h = once now w one other a b g h
  follows_once (Shut ending) now w one other a b g h = (g.0 ∙ sym h.0, g.1 ∙ sym h.1)

  onwards_once : (number : Option ℕ) (event : Option Event) (w : World) (one other : NumberedState) (a b : World)
      → Onwards Step number event w (λ now mid. Rest now mid one a) one a
      → Onwards Step number event w (λ now mid. Rest now mid other b) other b → Alike one a other b
  onwards_once number None w one other a b g h = (g.0 ∙ sym h.0, g.1 ∙ sym h.1)
  onwards_once number (Some event) w one other a b g h =
      let same = asking_once number event g.0 h.0 w g.1 h.1 g.2 h.2 in
      let now = subst (λ (x : NumberedState). Follows x.state (Rest x g.1 one a) ((one ≡ x) × (a ≡ g.1))) same.0 g.3 in
      let here = subst (λ (x : World). Follows h.0.state (Rest h.0 x one a) ((one ≡ h.0) × (a ≡ x))) same.1 now in
      follows_once h.0.state h.0 h.1 one other a b here h.3

brings_once : (mount : List ℕ) (items : List PullItem) (number : Option ℕ) (w : World) (one other : NumberedState) (a b : World)
    → BringsItems Step mount number items w one a → BringsItems Step mount number items w other b → Alike one a other b
brings_once mount [] number w one other a b g h = (g.0 ∙ sym h.0, g.1 ∙ sym h.1)
brings_once mount (item ∷ items) number w one other a b g h =
    onwards_once (λ now mid final to. BringsItems Step mount now.number items mid final to)
    (λ now mid final last x y p q. brings_once mount items now.number mid final last x y p q) number (event_for mount number item) w one other a b g h

-- bytes have one result at each stage of a pull
pulled_once : PullingIsOne → (stage : PullStage) (bytes : List ℕ) (one other : Pulled) → IsPulledAt stage bytes one
    → IsPulledAt stage bytes other → one ≡ other
pulled_once law (Head held) bytes one other g h = law (held ++ bytes) one other g h
pulled_once law (Behind stream) bytes one other g h = g ∙ sym h
pulled_once law Over bytes one other g h = g ∙ sym h

comes_once : (pulling one other : Pulling) (items : List PullItem) (standing : AnswerStanding) (ends stops : State) (w a b : World)
    → ComesOf Step pulling items standing w one ends a → ComesOf Step pulling items standing w other stops b → (one ≡ other) × (ends ≡ stops) × (a ≡ b)
comes_once pulling one other items (GoesOn stage) ends stops w a b g h =
    let same = brings_once pulling.mount items pulling.number w g.0 h.0 a b g.1 h.1 in
    let after = λ (x : NumberedState). let p : Pulling = record { mount = pulling.mount; number = x.number; stage = stage } in p in (
      g.3 ∙ ap after same.0 ∙ sym h.3,
      g.2 ∙ ap (λ (x : NumberedState). x.state) same.0 ∙ sym h.2,
      same.1,
    )
comes_once pulling one other items (Stops fault) ends stops w a b g h =
    (g.2 ∙ sym h.2, g.1 ∙ sym h.1, going_down_is_one pulling.number w a b g.0 h.0)

pub taking_is_one : PullingIsOne → TakingIsOne
taking_is_one law pulling one other bytes ends stops w a b g h =
    let same = pulled_once law pulling.stage bytes g.0 h.0 g.1 h.1 in
    let here = subst (λ (x : Pulled). ComesOf Step pulling (items_of x.parts) x.standing w one ends a) same g.2 in
    comes_once pulling one other (items_of h.0.parts) h.0.standing ends stops w a b here h.2
