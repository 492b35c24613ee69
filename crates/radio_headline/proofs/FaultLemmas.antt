-- A delivery whose label is at fault.
use Rattle.std.proofs.Common.{◌≡◌, ℕ, List, [], Option, None, Some, refl, sym, ap, subst, ◌∙◌}
use Rattle.radio_headline.proofs.Words.{Peer, RelaySetting, WebAnswers, Conversation, Pulling, Delivery, Open, Pull, To, Input, Data, Room, End, Connection, Client, Relay, ScriptState, Performed, ComesTo, ComesToClient}
use Rattle.radio_headline.proofs.Words.{ComesToRelay, IsPerformed, connection_of, connects, for_new_label, on_connection, opens_connection, relay_named, Happens, HappensThere, arrival_at_label}
use Rattle.radio_script.specs.declared.delivery.Delivery.TheVariants.{Clock as ClockIs}
use Rattle.radio_script.specs.declared.delivery.Input.TheVariants.{Title as Named}

-- a delivery is at fault: nothing happens
module _ (web : WebAnswers) (state : ScriptState) where
  abbrev FaultOf : Delivery → ScriptState → Type 0
  FaultOf delivery later = Happens state delivery [] × (later ≡ state)

  never_at_fault : {A : Type 0} (p : Performed) (text : List ℕ) → p.lines ≡ Some text → p.lines ≡ None → A
  never_at_fault p text e f = let both : Some text ≡ None = sym e ∙ f in cc

  opens_at_fault : (label : ℕ) (peer : Peer) (found : Option (Option Connection)) → connection_of state.connections label ≡ found → (p : Performed)
      → p ≡ for_new_label state (opens_connection web state label peer) found → p.lines ≡ None → FaultOf (Open label peer) p.state
  opens_at_fault label peer None known p e none =
      never_at_fault p _ (ap (λ (x : Performed). x.lines) e) none
  opens_at_fault label peer (Some connection) known p e none = (ap (arrival_at_label label peer) (sym known), ap (λ (x : Performed). x.state) e)

  connects_at_fault : (label : ℕ) (mount : List ℕ) (wanted : Option RelaySetting) (found : Option (Option Connection)) → (p : Performed)
      → p ≡ for_new_label state (connects state label wanted) found → p.lines ≡ None → FaultOf (Pull label mount) p.state
  connects_at_fault label mount wanted (Some connection) p e none = (refl, ap (λ (x : Performed). x.state) e)
  connects_at_fault label mount None None p e none = (refl, ap (λ (x : Performed). x.state) e)
  connects_at_fault label mount (Some setting) None p e none = never_at_fault p _ (ap (λ (x : Performed). x.lines) e) none

  client_at_fault : {A : Type 0} (label : ℕ) (conversation : Conversation) (input : Input) (p : Performed) → ComesToClient state label conversation input p
      → p.lines ≡ None → A
  client_at_fault label conversation (Data bytes) p h none = never_at_fault p _ (ap (λ (x : Performed). x.lines) (sym h.2)) none
  client_at_fault label conversation (Room room) p h none = never_at_fault p _ (ap (λ (x : Performed). x.lines) (sym h)) none
  client_at_fault label conversation (Named text) p h none = never_at_fault p _ (ap (λ (x : Performed). x.lines) (sym h)) none
  client_at_fault label conversation End p h none = never_at_fault p _ (ap (λ (x : Performed). x.lines) (sym h)) none

  relay_at_fault : {A : Type 0} (label : ℕ) (pulling : Pulling) (input : Input) (p : Performed) → ComesToRelay state label pulling input p → p.lines ≡ None → A
  relay_at_fault label pulling (Data bytes) p h none = never_at_fault p _ (ap (λ (x : Performed). x.lines) (sym h.4)) none
  relay_at_fault label pulling (Room room) p h none = never_at_fault p _ (ap (λ (x : Performed). x.lines) (sym h.3)) none
  relay_at_fault label pulling (Named text) p h none = never_at_fault p _ (ap (λ (x : Performed). x.lines) (sym h.3)) none
  relay_at_fault label pulling End p h none = never_at_fault p _ (ap (λ (x : Performed). x.lines) (sym h.2)) none

  there_at_fault : (label : ℕ) (input : Input) (found : Option (Option Connection)) → connection_of state.connections label ≡ found → (p : Performed)
      → on_connection state (λ connection done. ComesTo state label connection input done) p found → p.lines ≡ None → FaultOf (To label input) p.state
  there_at_fault label input None known p h none =
      (subst (λ (o : Option (Option Connection)). HappensThere state label input [] o) (sym known) refl, ap (λ (x : Performed). x.state) h)
  there_at_fault label input (Some None) known p h none = never_at_fault p _ (ap (λ (x : Performed). x.lines) h) none
  there_at_fault label input (Some (Some (Client conversation))) known p h none = client_at_fault label conversation input p h none
  there_at_fault label input (Some (Some (Relay pulling))) known p h none = relay_at_fault label pulling input p h none

  pub at_fault_so : (delivery : Delivery) (p : Performed) → IsPerformed web state delivery p → p.lines ≡ None → FaultOf delivery p.state
  at_fault_so (Open label peer) p h none = opens_at_fault label peer (connection_of state.connections label) refl p h none
  at_fault_so (Pull label mount) p h none =
      connects_at_fault label mount (relay_named state.world mount) (connection_of state.connections label) p h none
  at_fault_so (To label input) p h none = there_at_fault label input (connection_of state.connections label) refl p h none
  at_fault_so (ClockIs ms) p h none = never_at_fault p _ (ap (λ (x : Performed). x.lines) h) none
