-- the law of denials
use Rattle.std.proofs.Common.{◌≡◌, ◌↔◌, ◌⊎◌, inl, inr, Bool, true, false, ℕ, not, ◌&&◌, ◌||◌, Option, Some, None, is_some, List, [], ◌∷◌}
use Rattle.std.proofs.Common.{refl, ap, sym, subst, ◌∙◌}
use Rattle.radio_laws.proofs.Words.{find, if◌then◌else◌, bytes_eq, bytes_eq-Decides, Rule, AddressDenied, AddressNotAllowed, NoMount, Verdict, Allow, Row, arrive_rows, verdict_in, Denies, Peer, Credentials, Login}
use Rattle.radio_laws.proofs.Words.{options_for, is_login, is_source_pair, Has, by_number, Listener, listener_of, Event, Arrive, Source, Listen, SourceRequest, ListenRequest, Feeding, Deny, client_in, Nothing, Answer}
use Rattle.radio_laws.proofs.Words.{Outcome, Undecided, changed, Client, client_of, in_state, Relay, relay_of, IsOnlyAnswered, DenialsAreThePolicys, AddressesAreDenied, FeedsAsItsSource, OnlySourcesFeed}
use Rattle.radio_laws.proofs.Words.{KnownMountsAreKnown, is_known, arrive_facts, rows_to_arrive, admits_client, on_verdict, session_of, outcome, reply_to, world_after, rows_for, IsUndecided, World, standing_of}
use Rattle.radio_laws.proofs.Words.{standing_of_found, does, beside_state, may_feed, RuleNamed, DeniesIt, RefusesHim, TellsHisRule, NamesNoRule, rule_in, rule_named}
use Rattle.radio_policy.specs.declared.judgement.Verdict.TheVariants.{Deny as Denied}
use Rattle.radio_parts_station.specs.declared.clients.ClientState.TheVariants.{Undecided as IsNew, Answered as HasHisAnswer}
use Rattle.radio_laws.proofs.Denials.LimitDenials.{denied_by}
use Rattle.radio_laws.proofs.Denials.ListenerDenials.{why_denied, unknown_where}
use Rattle.radio_laws.proofs.Denials.GrantedLemmas.{Granted, AdmitsClient, AdmitsSource, AdmitsRelay, AdmitsListener, HandsData, TellsText, GrantsNothing, grants, granted}

module _ (denies : (rows : List Row) (rule : Rule) → (verdict_in rows ≡ Denied rule) ↔ Denies rows rule) (w : World) where
  abbrev Denial : Event → Outcome → Type 0
  Denial event o = (rule : Rule) → o.reply ≡ Deny rule → Denies (rows_for w event) rule × IsOnlyAnswered w (changed w o.change) (client_in event)

  -- a client that is there and has asked for nothing is undecided
  is_undecided : (relay : Option Relay) (listener : Option Listener) (client : Option Client) (him : Client) → client ≡ Some him → him.state ≡ IsNew
      → standing_of_found relay listener client ≡ Undecided him.peer
  is_undecided relay listener client him there new = ap (standing_of_found relay listener) there ∙ by_state him new where
    by_state : (x : Client) → x.state ≡ IsNew → standing_of_found relay listener (Some x) ≡ Undecided x.peer
    by_state x e = rw e refl

  -- the list of clients alone is another
  among_clients : (client : Option ℕ) (clients : List Client)
      → ((id : ℕ) (him : Client) → client ≡ Some id → client_of w.station.clients id ≡ Some him → him.state ≡ IsNew
      → client_of clients id ≡ Some (record him { state = HasHisAnswer }))
      → ((id : ℕ) → (client ≡ Some id → IsUndecided w id → ⊥) → client_of clients id ≡ client_of w.station.clients id)
      → IsOnlyAnswered w (record w { station = record w.station { clients = clients } }) client
  among_clients client clients answered others = record {
    time = refl;
    settings = refl;
    lists = refl;
    live = refl;
    fallbacks = refl;
    relays = refl;
    last = refl;
    seats = refl;
    answered = answered;
    others = others;
  }

  nobody_answered : (client : Option ℕ) → ((id : ℕ) → client ≡ Some id → IsUndecided w id → ⊥) → IsOnlyAnswered w w client
  nobody_answered client not =
      among_clients client w.station.clients
      (λ id him his there new. absurd (not id his (him.peer, is_undecided (relay_of w.station.relays id) (listener_of w.seats id) (client_of w.station.clients id) him there new)))
      (λ id other. refl)

  named : (event : Event) (by rule : Rule) → verdict_in (rows_for w event) ≡ Denied by → Deny by ≡ Deny rule → Denies (rows_for w event) rule
  named event by rule v d = let same : by ≡ rule = cc in (denies (rows_for w event) rule).0 (v ∙ ap (λ (r : Rule). Denied r) same)

  is_answered : (id : ℕ) (client : Option ℕ) → client ≡ Some id → IsUndecided w id → IsOnlyAnswered w (changed w (Answer id)) client
  is_answered id client e undecided =
      among_clients client (in_state w.station.clients id HasHisAnswer)
      (λ other him his there new.
      let both : Some id ≡ Some other = sym e ∙ his in
      let same : id ≡ other = cc in
      ap (client_of (in_state w.station.clients id HasHisAnswer)) (sym same)
      ∙ does w.station.clients id HasHisAnswer him (ap (client_of w.station.clients) same ∙ there))
      (λ other not.
      by_number id other
      (λ same. absurd (not (e ∙ ap (λ (n : ℕ). Some n) same) (undecided.0, ap (standing_of w) (sym same) ∙ undecided.1)))
      (λ apart. beside_state w.station.clients id other apart HasHisAnswer))

  denial_by : (event : Event) (o : Outcome) → RuleNamed w event o → Denial event o
  denial_by event o (DeniesIt by v not) = λ rule d. (named event by rule v d, nobody_answered (client_in event) not)
  denial_by event o (RefusesHim id by v his undecided) = λ rule d. (named event by rule v d, is_answered id (client_in event) his undecided)
  denial_by event o (TellsHisRule id by his told) = λ rule d. cc
  denial_by event o (NamesNoRule _ none) = λ rule d. let names : rule_in o.reply ≡ Some rule = ap rule_in d in cc

  pub denials_hold : (event : Event) → DenialsAreThePolicys w event
  unfolding reply_to world_after
  denials_hold event = denial_by event (outcome w event) (rule_named w event)

-- addresses are asked first
address_denied : (denied allowed full spent : Bool) → denied ≡ true
    → verdict_in (arrive_rows (record { address_is_denied = denied; address_is_allowed = allowed; clients_are_full = full; number_is_spent = spent }))
    ≡ Denied AddressDenied
address_denied denied allowed full spent e = rw e refl

address_not_allowed : (denied allowed full spent : Bool) → denied ≡ false → allowed ≡ false
    → verdict_in (arrive_rows (record { address_is_denied = denied; address_is_allowed = allowed; clients_are_full = full; number_is_spent = spent }))
    ≡ Denied AddressNotAllowed
address_not_allowed denied allowed full spent e f = rw (e, f) refl

module _ (w : World) (peer : Peer) where
  denied_at_once : (rule : Rule) → verdict_in (rows_to_arrive w.station peer) ≡ Denied rule → reply_to w (Arrive peer) ≡ Deny rule
  unfolding reply_to outcome
  denied_at_once rule v = ap (λ (x : Verdict). (on_verdict x Nothing (admits_client w peer)).reply) v

pub addresses_hold : (w : World) → AddressesAreDenied w
addresses_hold w = record {
  denied = λ peer e.
      let facts = arrive_facts w.station peer in
      denied_at_once w peer AddressDenied
      (address_denied facts.address_is_denied facts.address_is_allowed facts.clients_are_full facts.number_is_spent e);
  not_allowed = λ peer e f.
      let facts = arrive_facts w.station peer in
      denied_at_once w peer AddressNotAllowed
      (address_not_allowed facts.address_is_denied facts.address_is_allowed facts.clients_are_full facts.number_is_spent e f);
}

-- a client that feeds a mount has sent the login of the source
is_his_login : (login : Login) (pair : Credentials) → is_login login pair ≡ true → (pair.user ≡ login.username) × (pair.password ≡ login.password)
is_his_login login pair e = by_parts (bytes_eq login.username pair.user) (bytes_eq login.password pair.password) refl refl e where
  by_parts : (a b : Bool) → bytes_eq login.username pair.user ≡ a → bytes_eq login.password pair.password ≡ b → (a && b) ≡ true
      → (pair.user ≡ login.username) × (pair.password ≡ login.password)
  by_parts true true u p h =
      (sym ((bytes_eq-Decides login.username pair.user).0 u), sym ((bytes_eq-Decides login.password pair.password).0 p))
  by_parts true false u p h = cc
  by_parts false b u p h = cc

module _ (w : World) where
  feeds_by : (asked : SourceRequest) (sent : Option Credentials) → asked.pair ≡ sent → verdict_in (rows_for w (Source asked)) ≡ Allow → FeedsAsItsSource w (Source asked)
  feeds_by asked None e v = let none = (may_feed w.station asked v).sent in absurd (no_pair e none) where
    no_pair : asked.pair ≡ None → is_source_pair w.station.settings asked.mount asked.pair ≡ true → ⊥
    no_pair none its = let not : is_source_pair w.station.settings asked.mount asked.pair ≡ false = ap (is_source_pair w.station.settings asked.mount) none in cc
  feeds_by asked (Some pair) e v =
      let may = may_feed w.station asked v in
      let its : is_source_pair w.station.settings asked.mount (Some pair) ≡ true = ap (is_source_pair w.station.settings asked.mount) (sym e) ∙ may.sent in
      let login = is_his_login (options_for w.station.settings asked.mount).source pair its in
      record { asked = asked; wants = refl; pair = pair; sent = e; user = login.0; password = login.1; is_carried = may.is_carried }

  source_by : (event : Event) (o : Outcome) → Granted w event o → o.reply ≡ Feeding → FeedsAsItsSource w event
  source_by event o (AdmitsSource asked change is allowed) d =
      subst (λ (e : Event). FeedsAsItsSource w e) (sym is) (feeds_by asked asked.pair refl allowed)
  source_by event o (AdmitsClient peer change is allowed) d = cc
  source_by event o (AdmitsRelay mount shown change is allowed) d = cc
  source_by event o (AdmitsListener asked peer session is undecided lands live) d = cc
  source_by event o (HandsData id room seat session change is sits has live) d = cc
  source_by event o (TellsText text change why) d = cc
  source_by event o (GrantsNothing _ none idle) d = let some : grants o.reply ≡ true = ap grants d in cc

  pub only_sources_feed : (event : Event) → OnlySourcesFeed w event
  unfolding reply_to
  only_sources_feed event d = source_by event (outcome w event) (granted w event) d

-- a mount that is known is not denied as unknown
found_one : {X : Type 0} (p : X → Bool) (x : X) (xs : List X) → Has x xs → p x ≡ true → is_some (find p xs) ≡ true
found_one p x [] has e = absurd has
found_one p x (y ∷ ys) has e = by_test (λ later. found_one p x ys later e) (p y) refl has where
  by_test : (Has x ys → is_some (find p ys) ≡ true) → (b : Bool) → p y ≡ b → (x ≡ y) ⊎ Has x ys → is_some (if p y then Some y else find p ys) ≡ true
  by_test rest true t h = rw t refl
  by_test rest false t (inl same) = let is : p y ≡ true = ap p (sym same) ∙ e in cc
  by_test rest false t (inr later) = rw t (rest later)

module _ (w : World) (asked : ListenRequest) where
  is_unknown : reply_to w (Listen asked) ≡ Deny NoMount → is_known w.station asked.mount ≡ false
  unfolding reply_to
  is_unknown d =
      denied_by w NoMount (Listen asked) (outcome w (Listen asked)) (rule_named w (Listen asked)) d
      (λ v. unknown_where w asked (why_denied w asked NoMount v))

  -- each of three reasons for which it is known
  known_by : (set relayed live : Bool) → ((set || relayed) || live) ≡ false → (set ≡ false) × (relayed ≡ false) × (live ≡ false)
  known_by false false false e = (refl, refl, refl)
  known_by false false true e = cc
  known_by false true live e = cc
  known_by true relayed live e = cc

  pub known_mounts : KnownMountsAreKnown w asked
  known_mounts = record {
    in_settings = λ mount has name d.
        let not = (none d).0 in
        let is = found_one (λ set. bytes_eq set.name asked.mount) mount w.station.settings.mounts has ((bytes_eq-Decides mount.name asked.mount).1 name) in
        cc;
    relayed = λ relay has name d.
        let not = (none d).1 in
        let is = found_one (λ relay. bytes_eq relay.local_mount asked.mount) relay w.station.settings.relays has
        ((bytes_eq-Decides relay.local_mount asked.mount).1 name) in
        cc;
    live = λ session here d.
        let not = (none d).2 in
        let is : is_some (session_of w.station.live asked.mount) ≡ true = ap is_some here in
        cc;
  } where
    none : reply_to w (Listen asked) ≡ Deny NoMount → (is_some (find (λ set. bytes_eq set.name asked.mount) w.station.settings.mounts) ≡ false)
        × (is_some (find (λ relay. bytes_eq relay.local_mount asked.mount) w.station.settings.relays) ≡ false)
        × (is_some (session_of w.station.live asked.mount) ≡ false)
    none d = known_by _ _ _ (is_unknown d)
