-- Two servers that represent the same state have the same results of a pull.
use Rattle.std.proofs.Common.{◌≡◌, ℕ, List, [], ◌∷◌, Option, None, Some, refl, sym, subst}
use Rattle.radio_floor.proofs.Words.{Event, RelayDown, Reply, World, Represents, core_steps, Step, PullItem, items_of, GoesOn, Stops, State, Running, Shut, Pulling, NumberedState, event_for, Asks, AsksIf, BringsItems}
use Rattle.radio_floor.proofs.Words.{ComesOf, Follows, GoesDown, GoesDownIfShut, Onwards, Takes, CoresAskAsTheirStates, CoresGoDownAsTheirStates, CoresTakeAsTheirStates}
use Rattle.radio_relay.specs.Pulled.{PullProgress as AnswerStanding}
use Rattle.radio_events.specs.Servers.{Steps}

module _ {S T : Type 0} (steps : Steps S) (others : Steps T) (Same : S → T → Type 0)
    (does : (s s' : S) (t : T) (event : Event) (reply : Reply) → Same s t → steps s event reply s' → (t' : T) × Same s' t' × others t event reply t') where
  stays : (s s' : S) (t : T) → Same s t → s' ≡ s → Same s' t
  stays s s' t same e = subst (λ (x : S). Same x t) (sym e) same

  goes_down : (number : Option ℕ) (s s' : S) (t : T) → Same s t → GoesDown steps number s s' → (t' : T) × Same s' t' × GoesDown others number t t'
  goes_down None s s' t same e = (t, stays s s' t same e, refl)
  goes_down (Some id) s s' t same g = let d = does s s' t (RelayDown id) g.0 same g.1 in (d.0, d.1, (g.0, d.2))

  goes_down_if : (state : State) (number : Option ℕ) (s s' : S) (t : T) → Same s t → GoesDownIfShut steps state number s s'
      → (t' : T) × Same s' t' × GoesDownIfShut others state number t t'
  goes_down_if Running number s s' t same e = (t, stays s s' t same e, refl)
  goes_down_if (Shut ending) number s s' t same g = goes_down number s s' t same g

  asks : (number : Option ℕ) (event : Event) (after : NumberedState) (s s' : S) (t : T) → Same s t → Asks steps number event s after s'
      → (t' : T) × Same s' t' × Asks others number event t after t'
  asks number event after s s' t same a =
      let d = does s a.mid t event a.reply same a.step in
      let g = goes_down_if after.state after.number a.mid s' d.0 d.1 a.goes in
      (g.0, g.1, record { reply = a.reply; mid = d.0; step = d.2; is_answered = a.is_answered; goes = g.2 })

  asks_if : (number : Option ℕ) (event : Option Event) (after : NumberedState) (s s' : S) (t : T) → Same s t → AsksIf steps number event s after s'
      → (t' : T) × Same s' t' × AsksIf others number event t after t'
  asks_if number None after s s' t same e = (t, stays s s' t same e.1, (e.0, refl))
  asks_if number (Some event) after s s' t same a = asks number event after s s' t same a

  -- so does the rest, if it does
  abbrev RestFollows : (NumberedState → S → NumberedState → S → Type 0) → (NumberedState → T → NumberedState → T → Type 0) → Type 0
  RestFollows Rest Other = (now after : NumberedState) (s s' : S) (t : T) → Same s t → Rest now s after s' → (t' : T) × Same s' t' × Other now t after t'

  follows : (Rest : NumberedState → S → NumberedState → S → Type 0) (Other : NumberedState → T → NumberedState → T → Type 0) → RestFollows Rest Other → (state : State)
      → (now after : NumberedState) (s s' : S) (t : T) → Same s t → Follows state (Rest now s after s') ((after ≡ now) × (s' ≡ s))
      → (t' : T) × Same s' t' × Follows state (Other now t after t') ((after ≡ now) × (t' ≡ t))
  follows Rest Other rest Running now after s s' t same f = rest now after s s' t same f
  follows Rest Other rest (Shut ending) now after s s' t same f = (t, stays s s' t same f.1, (f.0, refl))

  onwards : (Rest : NumberedState → S → NumberedState → S → Type 0) (Other : NumberedState → T → NumberedState → T → Type 0) → RestFollows Rest Other → (number : Option ℕ)
      → (event : Option Event) (after : NumberedState) (s s' : S) (t : T) → Same s t
      → Onwards steps number event s (λ now mid. Rest now mid after s') after s'
      → (t' : T) × Same s' t' × Onwards others number event t (λ now mid. Other now mid after t') after t'
  onwards Rest Other rest number None after s s' t same e = (t, stays s s' t same e.1, (e.0, refl))
  onwards Rest Other rest number (Some event) after s s' t same o =
      let a = asks number event o.0 s o.1 t same o.2 in
      let f = follows Rest Other rest o.0.state o.0 after o.1 s' a.0 a.1 o.3 in
      (f.0, f.1, (o.0, a.0, a.2, f.2))

  brings : (mount : List ℕ) (items : List PullItem) (number : Option ℕ) (after : NumberedState) (s s' : S) (t : T) → Same s t
      → BringsItems steps mount number items s after s' → (t' : T) × Same s' t' × BringsItems others mount number items t after t'
  brings mount [] number after s s' t same e = (t, stays s s' t same e.1, (e.0, refl))
  brings mount (item ∷ items) number after s s' t same b =
      onwards (λ now mid final to. BringsItems steps mount now.number items mid final to) (λ now mid final to. BringsItems others mount now.number items mid final to)
      (λ now final u u' v same_now rest. brings mount items now.number final u u' v same_now rest) number (event_for mount number item) after s s' t same b

  comes_of : (pulling pulling' : Pulling) (items : List PullItem) (standing : AnswerStanding) (state : State) (s s' : S) (t : T) → Same s t
      → ComesOf steps pulling items standing s pulling' state s' → (t' : T) × Same s' t' × ComesOf others pulling items standing t pulling' state t'
  comes_of pulling pulling' items (GoesOn stage) state s s' t same c =
      let b = brings pulling.mount items pulling.number c.0 s s' t same c.1 in
      (b.0, b.1, (c.0, b.2, c.2, c.3))
  comes_of pulling pulling' items (Stops fault) state s s' t same c =
      let g = goes_down pulling.number s s' t same c.0 in
      (g.0, g.1, (g.2, c.1, c.2))

  takes : (pulling pulling' : Pulling) (bytes : List ℕ) (state : State) (s s' : S) (t : T) → Same s t → Takes steps pulling bytes s pulling' state s'
      → (t' : T) × Same s' t' × Takes others pulling bytes t pulling' state t'
  takes pulling pulling' bytes state s s' t same k =
      let c = comes_of pulling pulling' (items_of k.0.parts) k.0.standing state s s' t same k.2 in
      (c.0, c.1, (k.0, k.1, c.2))

-- a core does what the states that it represents do
core_does : (core core' w : World) (event : Event) (reply : Reply) → Represents core w → core_steps core event reply core'
    → (w' : World) × Represents core' w' × Step w event reply w'
core_does core core' w event reply stands c = let s = c.1 w stands in (s.0, s.2, s.1)

pub cores_take : CoresTakeAsTheirStates
cores_take pulling pulling' bytes state core core' h w stands =
    takes core_steps Step Represents core_does pulling pulling' bytes state core core' w stands h

pub cores_ask : CoresAskAsTheirStates
cores_ask number event after core core' h w stands = asks_if core_steps Step Represents core_does number event after core core' w stands h

pub cores_go_down : CoresGoDownAsTheirStates
cores_go_down number core core' h w stands = goes_down core_steps Step Represents core_does number core core' w stands h
