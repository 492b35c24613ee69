-- An input on a relay's connection yields events.
use Rattle.std.proofs.Common.{◌≡◌, ℕ, zero, List, [], ◌∷◌, Option, None, Some, inl, inr, refl, sym, ap, subst, ◌∙◌}
use Rattle.radio_floor.proofs.Words.{map, option_map, Event, RelayDown, Reply, world_after_all, Step, world_after, World, PullItem, GoesOn, Stops, State, Running, Shut, Pulling, NumberedState, state_after_reply}
use Rattle.radio_floor.proofs.Words.{event_of, Asks, AsksIf, BringsItems, ComesOf, Follows, GoesDown, GoesDownIfShut, Onwards, ComeAbout, MayHave}
use Rattle.radio_events.specs.declared.reply.Reply.TheVariants.{Arrived, Feeding, Seated, Drawn, Noted, Text, Deny, Finished, Stray}
use Rattle.radio_relay.specs.declared.items.PullItem.TheVariants.{Up, Sound, Title as Named}
use Rattle.radio_relay.specs.Pulled.{PullProgress as AnswerStanding}

-- of what is asked these events happen, and they lead from the one state to the other
abbrev pub LeadBy : World → Event → List Event → World → Type 0
LeadBy w last asked later = (events : List Event) × ComeAbout last asked events × (later ≡ world_after_all w events)

-- one event more in front
pub one_more : (last event : Event) (asked events : List Event) → ComeAbout last asked events → ComeAbout last (event ∷ asked) (event ∷ events)
one_more last event asked events c = record {
  front = event ∷ c.front;
  rest = c.rest;
  in_order = ap (λ (xs : List Event). event ∷ xs) c.in_order;
  come = elim c.come [
    | inl e ↦ inl (ap (λ (xs : List Event). event ∷ xs) e)
    | inr e ↦ inr (ap (λ (xs : List Event). event ∷ xs) e)
  ];
}

-- so it is with the events that a relay asks for, with the number that it has, or is given
pub record PullLeads (w : World) (number : Option ℕ) (asked : ℕ → List Event) (later : World) : Type 0 where
  pub id : ℕ
  pub may : MayHave number id
  pub events : List Event
  pub come : ComeAbout (RelayDown id) (asked id) events
  pub leads : later ≡ world_after_all w events

-- none of what is asked happens
none_come : (last : Event) (asked : List Event) → ComeAbout last asked []
none_come last asked = record { front = []; rest = asked; in_order = refl; come = inl refl }

-- none but the last
last_comes : (last : Event) (asked : List Event) → ComeAbout last asked (last ∷ [])
last_comes last asked = record { front = []; rest = asked; in_order = refl; come = inr refl }

nothing_leads : (w later : World) (number : Option ℕ) (asked : ℕ → List Event) → later ≡ w → PullLeads w number asked later
nothing_leads w later None asked e = record { id = zero; may = tt; events = []; come = none_come (RelayDown zero) (asked zero); leads = e }
nothing_leads w later (Some id) asked e = record { id = id; may = refl; events = []; come = none_come (RelayDown id) (asked id); leads = e }

pub goes_lead : (w later : World) (number : Option ℕ) (asked : ℕ → List Event) → GoesDown Step number w later → PullLeads w number asked later
goes_lead w later None asked e = nothing_leads w later None asked e
goes_lead w later (Some id) asked g =
    record { id = id; may = refl; events = RelayDown id ∷ []; come = last_comes (RelayDown id) (asked id); leads = g.1.1 }

-- a number stays
number_stays : (number : ℕ) (reply : Reply) → (state_after_reply (Some number) reply).number ≡ Some number
number_stays number (Arrived id) = refl
number_stays number Feeding = refl
number_stays number (Seated interval shown) = refl
number_stays number (Drawn bytes title) = refl
number_stays number Noted = refl
number_stays number (Text text) = refl
number_stays number (Deny rule) = refl
number_stays number (Finished rule) = refl
number_stays number Stray = refl

may_before : (number : Option ℕ) (reply : Reply) (id : ℕ) → MayHave (state_after_reply number reply).number id → MayHave number id
may_before None reply id may = tt
may_before (Some number) reply id may = subst (λ (n : Option ℕ). MayHave n id) (number_stays number reply) may

-- An event is applied, and what follows leads on.
module _ (number now : Option ℕ) (event : Event) (w mid0 mid later : World) (asked whole : ℕ → List Event)
    (before : (id : ℕ) → MayHave now id → MayHave number id) (applied : mid0 ≡ world_after w event)
    (fits : (id : ℕ) → MayHave number id → whole id ≡ event ∷ asked id) where
  event_in_front : PullLeads mid0 now asked later → PullLeads w number whole later
  event_in_front lead =
      let may = before lead.id lead.may in record {
        id = lead.id;
        may = may;
        events = event ∷ lead.events;
        come =
            subst (λ (xs : List Event). ComeAbout (RelayDown lead.id) xs (event ∷ lead.events)) (sym (fits lead.id may))
            (one_more (RelayDown lead.id) event (asked lead.id) lead.events lead.come);
        leads = lead.leads ∙ ap (λ (x : World). world_after_all x lead.events) applied;
      }

  pub then_leads : (state : State) → GoesDownIfShut Step state now mid0 mid → Follows state (PullLeads mid now asked later) (later ≡ mid)
      → PullLeads w number whole later
  then_leads Running same rest = event_in_front (subst (λ (x : World). PullLeads x now asked later) same rest)
  then_leads (Shut ending) goes ends = event_in_front (goes_lead mid0 later now asked (subst (λ (x : World). GoesDown Step now mid0 x) (sym ends) goes))

-- what follows, by what it leads to
follows_as : (state : State) {A B C D : Type 0} → (A → C) → (B → D) → Follows state A B → Follows state C D
follows_as Running f g x = f x
follows_as (Shut ending) f g x = g x

module _ (number : Option ℕ) (event : Event) (w later : World) (after : NumberedState) (asked whole : ℕ → List Event)
    (fits : (id : ℕ) → MayHave number id → whole id ≡ event ∷ asked id) where
  asked_leads : (now : NumberedState) (mid : World) → Asks Step number event w now mid
      → Follows now.state (PullLeads mid now.number asked later) (later ≡ mid) → PullLeads w number whole later
  asked_leads now mid a f =
      then_leads number now.number event w a.mid mid later asked whole
      (λ id may. may_before number a.reply id (subst (λ (x : NumberedState). MayHave x.number id) a.is_answered may))
      a.step.1 fits now.state a.goes f

  onwards_lead : (Rest : NumberedState → World → NumberedState → World → Type 0)
      → ((now : NumberedState) (mid : World) → Rest now mid after later → PullLeads mid now.number asked later)
      → Onwards Step number (Some event) w (λ now mid. Rest now mid after later) after later → PullLeads w number whole later
  onwards_lead Rest rest o = asked_leads o.0 o.1 o.2 (follows_as o.0.state (rest o.0 o.1) (λ e. e.1) o.3)

-- the events of the items
brings_lead : (mount : List ℕ) (items : List PullItem) (number : Option ℕ) (w later : World) (after : NumberedState) → BringsItems Step mount number items w after later
    → PullLeads w number (λ id. map (event_of mount id) items) later
brings_lead mount [] number w later after b = nothing_leads w later number (λ id. []) b.1
brings_lead mount (Up shown ∷ items) None w later after b =
    onwards_lead None (event_of mount zero (Up shown)) w later after (λ id. map (event_of mount id) items) (λ id. map (event_of mount id) (Up shown ∷ items))
    (λ id may. refl) (λ now mid. BringsItems Step mount now.number items mid) (λ now mid rest. brings_lead mount items now.number mid later after rest) b
brings_lead mount (Sound block ∷ items) None w later after b = nothing_leads w later None (λ id. map (event_of mount id) (Sound block ∷ items)) b.1
brings_lead mount (Named text ∷ items) None w later after b = nothing_leads w later None (λ id. map (event_of mount id) (Named text ∷ items)) b.1
brings_lead mount (item ∷ items) (Some number) w later after b =
    onwards_lead (Some number) (event_of mount number item) w later after (λ id. map (event_of mount id) items) (λ id. map (event_of mount id) (item ∷ items))
    (λ id may. ap (λ (n : ℕ). event_of mount n item ∷ map (event_of mount id) items) (sym may)) (λ now mid. BringsItems Step mount now.number items mid)
    (λ now mid rest. brings_lead mount items now.number mid later after rest) b

-- a single event
ends_alone : (state : State) (mid : World) (now : Option ℕ) → Follows state (PullLeads mid now (λ id. []) mid) (mid ≡ mid)
ends_alone Running mid now = nothing_leads mid mid now (λ id. []) refl
ends_alone (Shut ending) mid now = refl

pub asks_lead : (number : Option ℕ) (event : ℕ → Event) (w later : World) (after : NumberedState) → AsksIf Step number (option_map event number) w after later
    → PullLeads w number (λ id. event id ∷ []) later
asks_lead None event w later after a = nothing_leads w later None (λ id. event id ∷ []) a.1
asks_lead (Some number) event w later after a =
    asked_leads (Some number) (event number) w later after (λ id. []) (λ id. event id ∷ []) (λ id may. ap (λ (n : ℕ). event n ∷ []) (sym may)) after later a
    (ends_alone after.state later after.number)

-- the bytes of an answer
pub takes_lead : (pulling pulling' : Pulling) (items : List PullItem) (standing : AnswerStanding) (state : State) (w later : World)
    → ComesOf Step pulling items standing w pulling' state later → PullLeads w pulling.number (λ id. map (event_of pulling.mount id) items) later
takes_lead pulling pulling' items (GoesOn stage) state w later c = brings_lead pulling.mount items pulling.number w later c.0 c.1
takes_lead pulling pulling' items (Stops fault) state w later c = goes_lead w later pulling.number (λ id. map (event_of pulling.mount id) items) c.0
