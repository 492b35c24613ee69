-- what is found among clients, relays and fallbacks after each change
use Rattle.std.proofs.Common.{◌≡◌, true, false, ℕ, ◌==◌, Option, Bool, Some, None, List, [], ◌∷◌, refl, ap, sym, ◌∙◌}
use Rattle.radio_parts_station.proofs.Words.{if◌then◌else◌, nat_cmp, bytes_eq, find_here, find_later, find_same, find_apart, find_removed, find_others, chosen, passed, ClientState, Relay, is_relay, relay_of, with_relay}
use Rattle.radio_parts_station.proofs.Words.{relay_ended, with_relay_ended, without_relay}
use Rattle.std.specs.Cmp.Lexicographic.{slice_cmp}
use Rattle.std.proofs.lemmas.Bool.{eqb-true}
use Rattle.std.proofs.lemmas.Cmp.{nat_cmp_total, nat_list_cmp_total}
use Rattle.radio_tables.proofs.KeyLaws.{number_is, name_is, find_placed}
use Rattle.radio_parts_station.specs.Clients.{Client, is_client, client_of, with_client, with_client_state, in_state, without_client}
use Rattle.radio_policy.specs.declared.rule.Rule.{Rule}
use Rattle.radio_parts_station.specs.Fallbacks.{Fallback, is_set_for, set_for, with_fallback}

-- clients

module _ (clients : List Client) (him id : ℕ) (other : (him == id) ≡ false) where
  not_his : (x : Client) → is_client him x ≡ true → is_client id x ≡ false
  not_his x e = ap (λ n. n == id) (eqb-true x.id him e) ∙ other

  pub beside_state : (state : ClientState) → client_of (in_state clients him state) id ≡ client_of clients id
  beside_state state = find_apart (is_client id) (is_client him) (with_client_state state) (λ x e. (not_his x e, not_his x e)) clients

  pub beside_forgotten : client_of (without_client clients him) id ≡ client_of clients id
  beside_forgotten = find_others (is_client id) (is_client him) not_his clients

pub does : (clients : List Client) (id : ℕ) (state : ClientState) (client : Client) → client_of clients id ≡ Some client
    → client_of (in_state clients id state) id ≡ Some (with_client_state state client)
does clients id state client e = find_same (is_client id) (with_client_state state) (λ x. refl) clients client e

-- where nobody is found, nobody is changed
pub still_none : (him : ℕ) (state : ClientState) (xs : List Client) → client_of xs him ≡ None → client_of (in_state xs him state) him ≡ None
still_none him state [] e = refl
still_none him state (x ∷ xs) e = by_test (λ h. still_none him state xs h) (is_client him x) refl where
  by_test : (client_of xs him ≡ None → client_of (in_state xs him state) him ≡ None) → (b : Bool) → is_client him x ≡ b
      → client_of (in_state (x ∷ xs) him state) him ≡ None
  by_test rest true t = let here : client_of (x ∷ xs) him ≡ Some x = find_here (is_client him) x xs t in cc
  by_test rest false t =
      let later : client_of xs him ≡ None = sym (find_later (is_client him) x xs t) ∙ e in
      let past : in_state (x ∷ xs) him state ≡ x ∷ in_state xs him state = rw t refl in
      ap (λ (ys : List Client). client_of ys him) past ∙ find_later (is_client him) x (in_state xs him state) t ∙ rest later

pub is_no_client : (clients : List Client) (id : ℕ) → client_of (without_client clients id) id ≡ None
is_no_client clients id = find_removed (is_client id) (is_client id) clients

module _ (clients : List Client) (new : Client) (id : ℕ) where
  looked_up : client_of (with_client clients new) id ≡ (if new.id == id then Some new else client_of clients id)
  looked_up = find_placed nat_cmp nat_cmp_total (λ (client : Client). client.id) is_client (λ k client. number_is k client.id) id new clients

  pub is_new_client : (new.id == id) ≡ true → client_of (with_client clients new) id ≡ Some new
  is_new_client e = looked_up ∙ chosen (Some new) (client_of clients id) e

  pub beside_new : (new.id == id) ≡ false → client_of (with_client clients new) id ≡ client_of clients id
  beside_new e = looked_up ∙ passed (Some new) (client_of clients id) e

-- relays

module _ (relays : List Relay) (him id : ℕ) (other : (him == id) ≡ false) where
  not_its : (x : Relay) → is_relay him x ≡ true → is_relay id x ≡ false
  not_its x e = ap (λ n. n == id) (eqb-true x.id him e) ∙ other

  pub relay_beside_ended : (rule : Rule) → relay_of (with_relay_ended relays him rule) id ≡ relay_of relays id
  relay_beside_ended rule = find_apart (is_relay id) (is_relay him) (relay_ended rule) (λ x e. (not_its x e, not_its x e)) relays

  pub relay_beside_gone : relay_of (without_relay relays him) id ≡ relay_of relays id
  relay_beside_gone = find_others (is_relay id) (is_relay him) not_its relays

pub is_ended_relay : (relays : List Relay) (id : ℕ) (rule : Rule) (relay : Relay) → relay_of relays id ≡ Some relay
    → relay_of (with_relay_ended relays id rule) id ≡ Some (relay_ended rule relay)
is_ended_relay relays id rule relay e = find_same (is_relay id) (relay_ended rule) (λ x. refl) relays relay e

pub is_no_relay : (relays : List Relay) (id : ℕ) → relay_of (without_relay relays id) id ≡ None
is_no_relay relays id = find_removed (is_relay id) (is_relay id) relays

module _ (relays : List Relay) (new : Relay) (id : ℕ) where
  looked_up_relay : relay_of (with_relay relays new) id ≡ (if new.id == id then Some new else relay_of relays id)
  looked_up_relay = find_placed nat_cmp nat_cmp_total (λ (relay : Relay). relay.id) is_relay (λ k relay. number_is k relay.id) id new relays

  pub is_new_relay : (new.id == id) ≡ true → relay_of (with_relay relays new) id ≡ Some new
  is_new_relay e = looked_up_relay ∙ chosen (Some new) (relay_of relays id) e

  pub beside_new_relay : (new.id == id) ≡ false → relay_of (with_relay relays new) id ≡ relay_of relays id
  beside_new_relay e = looked_up_relay ∙ passed (Some new) (relay_of relays id) e

-- fallbacks

module _ (fallbacks : List Fallback) (mount other : List ℕ) (fallback : Option (List ℕ)) where
  looked_up_fallback : set_for (with_fallback fallbacks mount fallback) other
      ≡ (if bytes_eq mount other then Some (record { mount = mount; fallback = fallback }) else set_for fallbacks other)
  looked_up_fallback =
      find_placed (slice_cmp nat_cmp) nat_list_cmp_total (λ (set : Fallback). set.mount) is_set_for (λ k set. name_is k set.mount) other
      (record { mount = mount; fallback = fallback }) fallbacks

  pub is_set : bytes_eq mount other ≡ true → set_for (with_fallback fallbacks mount fallback) other ≡ Some (record { mount = mount; fallback = fallback })
  is_set e = looked_up_fallback ∙ chosen (Some (record { mount = mount; fallback = fallback })) (set_for fallbacks other) e

  pub beside_set : bytes_eq mount other ≡ false → set_for (with_fallback fallbacks mount fallback) other ≡ set_for fallbacks other
  beside_set e = looked_up_fallback ∙ passed (Some (record { mount = mount; fallback = fallback })) (set_for fallbacks other) e
