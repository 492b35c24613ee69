-- Each delivery has one result.
use Rattle.std.proofs.Common.{◌≡◌, ℕ, Option, None, Some, ap, sym, ◌∙◌}
use Rattle.radio_floor.proofs.Words.{Delivery, Open, Pull, To, Clock, Input, Data, Room, Title, End, WebAnswers, Conversation, EventReading, State, Shut, Done, World, Event, Pulling, NumberedState, AskingIsOne}
use Rattle.radio_floor.proofs.Words.{GoingDownIsOne, TakingIsOne, Connection, Client, Relay, ScriptState, Performed, AsksOn, ComesTo, ComesToClient, ComesToRelay, IsPerformed, on_connection, connection_of, exchanges}
use Rattle.radio_floor.proofs.Words.{pulled_on, conduct}
use Rattle.radio_session.specs.Laws.{HearingIsOne}
use Rattle.radio_script.specs.Laws.{IsDetermined}

-- if a connection has one result, so has its label
one_on_connection : (state : ScriptState) (On : Connection → Performed → Type 0)
    → ((connection : Connection) (p q : Performed) → On connection p → On connection q → p ≡ q) → (o : Option (Option Connection)) (p q : Performed)
    → on_connection state On p o → on_connection state On q o → p ≡ q
one_on_connection state On one None p q h k = h ∙ sym k
one_on_connection state On one (Some None) p q h k = h ∙ sym k
one_on_connection state On one (Some (Some connection)) p q h k = one connection p q h k

-- equal pulls over equal servers
same_pull : (state : ScriptState) (label : ℕ) (one other : Pulling) (ends stops : State) (a b : World) → one ≡ other → ends ≡ stops → a ≡ b
    → pulled_on state label one ends a ≡ pulled_on state label other stops b
same_pull state label one other ends stops a b e f g =
    ap (λ (x : Pulling). pulled_on state label x ends a) e ∙ ap (λ (x : State). pulled_on state label other x a) f
    ∙ ap (λ (x : World). pulled_on state label other stops x) g

module _ (heard_as_one : HearingIsOne) (take_as_one : TakingIsOne) (ask_as_one : AskingIsOne) (go_as_one : GoingDownIsOne) where
  -- an input on a client's connection has one result
  client_once : (state : ScriptState) (label : ℕ) (conversation : Conversation) (input : Input) (p q : Performed)
      → ComesToClient state label conversation input p → ComesToClient state label conversation input q → p ≡ q
  client_once state label conversation (Data bytes) p q h k =
      sym h.2 ∙ ap (λ (heard : EventReading). exchanges state label heard.conversation heard.events) (heard_as_one conversation bytes h.0 k.0 h.1 k.1) ∙ k.2
  client_once state label conversation (Room room) p q h k = sym h ∙ k
  client_once state label conversation (Title text) p q h k = sym h ∙ k
  client_once state label conversation End p q h k = sym h ∙ k

  -- so has an event that a relay asks for
  asks_once : (state : ScriptState) (label : ℕ) (pulling : Pulling) (event : Option Event) (p q : Performed) → AsksOn state label pulling event p
      → AsksOn state label pulling event q → p ≡ q
  asks_once state label pulling event p q h k =
      let same = ask_as_one pulling.number event h.0 k.0 state.world h.1 k.1 h.2 k.2 in
      sym h.3
      ∙ same_pull state label (record pulling { number = h.0.number }) (record pulling { number = k.0.number }) h.0.state k.0.state h.1 k.1
      (ap (λ (x : NumberedState). record pulling { number = x.number }) same.0) (ap (λ (x : NumberedState). x.state) same.0) same.1
      ∙ k.3

  -- so has an input on its connection
  relay_once : (state : ScriptState) (label : ℕ) (pulling : Pulling) (input : Input) (p q : Performed)
      → ComesToRelay state label pulling input p → ComesToRelay state label pulling input q → p ≡ q
  relay_once state label pulling (Data bytes) p q h k =
      let same = take_as_one pulling h.0 k.0 bytes h.1 k.1 state.world h.2 k.2 h.3 k.3 in
      sym h.4 ∙ same_pull state label h.0 k.0 h.1 k.1 h.2 k.2 same.0 same.1 same.2 ∙ k.4
  relay_once state label pulling (Room room) p q h k = asks_once state label pulling _ p q h k
  relay_once state label pulling (Title text) p q h k = asks_once state label pulling _ p q h k
  relay_once state label pulling End p q h k =
      sym h.2 ∙ ap (λ (x : World). pulled_on state label pulling (Shut Done) x) (go_as_one pulling.number state.world h.0 k.0 h.1 k.1) ∙ k.2

  comes_to_once : (state : ScriptState) (label : ℕ) (connection : Connection) (input : Input) (p q : Performed)
      → ComesTo state label connection input p → ComesTo state label connection input q → p ≡ q
  comes_to_once state label (Client conversation) input p q h k = client_once state label conversation input p q h k
  comes_to_once state label (Relay pulling) input p q h k = relay_once state label pulling input p q h k

  -- a delivery has one result
  performed_once : (web : WebAnswers) (state : ScriptState) (delivery : Delivery) (p q : Performed) → IsPerformed web state delivery p → IsPerformed web state delivery q → p ≡ q
  performed_once web state (Open label peer) p q h k = h ∙ sym k
  performed_once web state (Pull label mount) p q h k = h ∙ sym k
  performed_once web state (To label input) p q h k =
      one_on_connection state (λ connection done. ComesTo state label connection input done) (λ connection. comes_to_once state label connection input)
      (connection_of state.connections label) p q h k
  performed_once web state (Clock ms) p q h k = h ∙ sym k

  pub is_determined : (web : WebAnswers) → IsDetermined (conduct web)
  is_determined web old delivery lines others new next h k =
      let same = performed_once web old delivery (record { lines = lines; state = new }) (record { lines = others; state = next }) h k in
      (ap (λ (p : Performed). p.lines) same, ap (λ (p : Performed). p.state) same)
