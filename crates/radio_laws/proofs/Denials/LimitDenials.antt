-- a listener, a client or a source is denied by a limit only if the limit is reached
use Rattle.std.proofs.Common.{Option, ◌≡◌, Bool, true, false, ℕ, ◌<◌, ◌≤◌, not, Some, None, List, [], ◌∷◌, length, refl, ap, sym, ◌∙◌, arith}
use Rattle.radio_laws.proofs.Words.{if◌then◌else◌, nat_tests, Rule, TooManyClients, TooManySources, MountFull, UserTwice, NumbersSpent, FallbackDepth, BadMount, MountInUse, ContentType, Row, arrive_rows, source_rows}
use Rattle.radio_laws.proofs.Words.{relay_rows, command_rows, verdict_in, Each, Event, Arrive, Source, Push, SourceEnd, Title, Listen, Draw, Command, Leave, RelayUp, RelayDown, Clock, Peer, Shown, Reply, SourceRequest}
use Rattle.radio_laws.proofs.Words.{ListenRequest, Outcome, Arrived, Feeding, Deny, Standing, Unknown, Undecided, Feeds, Sits, Answered, facts_asked, rows_to_command, CommandFacts, arrive_facts, source_facts_at}
use Rattle.radio_laws.proofs.Words.{relay_facts_at, rows_to_raise, names_mount, IsFullAt, AdmitsByLimits, HasUserAt, ByAMount, DeniesByLimits, ComesBy, outcome, reply_to, rows_for, rows_from, World, standing_of}
use Rattle.radio_laws.proofs.Words.{may_feed, may_come_up, has_room_left, RuleNamed, DeniesIt, RefusesHim, TellsHisRule, NamesNoRule, rule_in, rule_named}
use Rattle.radio_policy.specs.declared.judgement.Verdict.TheVariants.{Deny as Denied}
use Rattle.radio_parts_station.specs.declared.standing.Standing.TheVariants.{Finished}
use Rattle.radio_parts_station.specs.Facts.{is_limit_reached as is_too_many}
use Rattle.radio_laws.proofs.Denials.GrantedLemmas.{Granted, AdmitsClient, AdmitsSource, AdmitsRelay, AdmitsListener, HandsData, TellsText, GrantsNothing, grants, granted}
use Rattle.radio_laws.proofs.Commands.CommandRows.{of_no_command}
use Rattle.radio_laws.proofs.Denials.ListenerDenials.{why_denied, denies_none, full_where, twice_where, deep_where}

-- the rules of the limits of mounts, that of clients and that of sources
abbrev is_limit : Rule → Bool
is_limit MountFull = true
is_limit UserTwice = true
is_limit FallbackDepth = true
is_limit rule = false

abbrev is_of_clients : Rule → Bool
is_of_clients TooManyClients = true
is_of_clients rule = false

abbrev is_of_sources : Rule → Bool
is_of_sources TooManySources = true
is_of_sources rule = false

-- rows that name no such rule
module _ (meant : Rule → Bool) where
  no_limit_at : (x : Row) (xs : List Row) (rule : Rule) (b : Bool) → x.holds ≡ b → meant x.rule ≡ false
      → (verdict_in xs ≡ Denied rule → meant rule ≡ true → ⊥) → verdict_in (x ∷ xs) ≡ Denied rule → meant rule ≡ true → ⊥
  no_limit_at x xs rule true e not later v limit =
      let here : verdict_in (x ∷ xs) ≡ Denied x.rule = rw e refl in
      let same : x.rule ≡ rule = cc in
      let also : meant rule ≡ false = ap meant (sym same) ∙ not in
      cc
  no_limit_at x xs rule false e not later v limit = let past : verdict_in (x ∷ xs) ≡ verdict_in xs = rw e refl in later (sym past ∙ v) limit

  no_limit : (rows : List Row) → Each (λ row. meant row.rule ≡ false) rows → (rule : Rule) → verdict_in rows ≡ Denied rule → meant rule ≡ true → ⊥
  no_limit [] all rule v limit = cc
  no_limit (x ∷ xs) all rule v limit = no_limit_at x xs rule x.holds refl all.0 (no_limit xs all.1 rule) v limit

-- as many are there as may be
reached : (count limit : ℕ) → is_too_many count limit ≡ true → limit ≤ count
reached count limit full = grind (arith, nat_tests)

below : (count limit : ℕ) → is_too_many count limit ≡ false → count < limit
below count limit room = grind (arith, nat_tests)

-- clients are too many, and sources are, only by their own rows
clients_by : (denied allowed full spent : Bool)
    → verdict_in (arrive_rows (record { address_is_denied = denied; address_is_allowed = allowed; clients_are_full = full; number_is_spent = spent }))
    ≡ Denied TooManyClients → full ≡ true
clients_by denied allowed true spent v = refl
clients_by true allowed false spent v = cc
clients_by false false false spent v = cc
clients_by false true false true v = cc
clients_by false true false false v = cc

sources_by : (named its full live refused : Bool)
    → verdict_in (source_rows (if named then Some (record { is_source_pair = its; sources_are_full = full; mount_is_live = live; type_is_refused = refused })
    else None)) ≡ Denied TooManySources → full ≡ true
sources_by named its true live refused v = refl
sources_by false its false live refused v = cc
sources_by true false false live refused v = cc
sources_by true true false true refused v = cc
sources_by true true false false true v = cc
sources_by true true false false false v = cc

-- what is admitted finds room
record Admits (w : World) (event : Event) (reply : Reply) : Type 0 where
  clients : (peer : Peer) (id : ℕ) → event ≡ Arrive peer → reply ≡ Arrived id → length w.station.clients < w.station.settings.limits.clients
  sources : reply ≡ Feeding → length w.station.live < w.station.settings.limits.sources
  relays : (mount : List ℕ) (shown : Shown) (id : ℕ) → event ≡ RelayUp mount shown → reply ≡ Arrived id
      → length w.station.live < w.station.settings.limits.sources

relays_by : (named full live refused spent : Bool)
    → verdict_in (relay_rows (if named then Some (record { sources_are_full = full; mount_is_live = live; type_is_refused = refused; number_is_spent = spent })
    else None)) ≡ Denied TooManySources → full ≡ true
relays_by named true live refused spent v = refl
relays_by false false live refused spent v = cc
relays_by true false true refused spent v = cc
relays_by true false false true spent v = cc
relays_by true false false false true v = cc
relays_by true false false false false v = cc

module _ (w : World) where
  -- a source is denied its blocks by the rule of numbers alone
  only_numbers : (meant : Rule → Bool) → meant NumbersSpent ≡ false → (block : List ℕ) (s : Standing)
      → Each (λ row. meant row.rule ≡ false) (rows_from w.station block s)
  only_numbers meant not block (Feeds mount) = (not, tt)
  only_numbers meant not block Unknown = tt
  only_numbers meant not block (Undecided peer) = tt
  only_numbers meant not block Sits = tt
  only_numbers meant not block Answered = tt
  only_numbers meant not block (Finished by) = tt

  -- nor what it asks for
  no_limit_to_feed : (asked : SourceRequest) (named : Bool)
      → Each (λ row. is_limit row.rule ≡ false) (source_rows (if named then Some (source_facts_at w.station asked.mount asked) else None))
  no_limit_to_feed asked true = (refl, (refl, (refl, (refl, tt))))
  no_limit_to_feed asked false = (refl, tt)

  -- nor a relay
  no_limit_to_raise : (meant : Rule → Bool) → meant BadMount ≡ false → meant TooManySources ≡ false → meant MountInUse ≡ false → meant ContentType ≡ false
      → meant NumbersSpent ≡ false → (mount : List ℕ) (shown : Shown) (named : Bool)
      → Each (λ row. meant row.rule ≡ false) (relay_rows (if named then Some (relay_facts_at w.station mount shown) else None))
  no_limit_to_raise meant bad many used type spent mount shown true = (many, (used, (type, (spent, tt))))
  no_limit_to_raise meant bad many used type spent mount shown false = (bad, tt)

  -- such a rule denies a client that asks for something, if it is no command's rule and not the rule of spent numbers
  by_asking : {A : Type 0} (meant : Rule → Bool) (rule : Rule) → meant rule ≡ true → meant NumbersSpent ≡ false
      → ((facts : Option CommandFacts) → Each (λ row. meant row.rule ≡ false) (command_rows facts)) → (event : Event) → verdict_in (rows_for w event) ≡ Denied rule
      → ((peer : Peer) → verdict_in (rows_for w (Arrive peer)) ≡ Denied rule → A) → ((asked : SourceRequest) → verdict_in (rows_for w (Source asked)) ≡ Denied rule → A)
      → ((asked : ListenRequest) → event ≡ Listen asked → verdict_in (rows_for w (Listen asked)) ≡ Denied rule → A)
      → ((mount : List ℕ) (shown : Shown) → verdict_in (rows_for w (RelayUp mount shown)) ≡ Denied rule → A) → A
  by_asking meant rule is no_number no_command (Arrive peer) v arrives feeds hears rises = arrives peer v
  by_asking meant rule is no_number no_command (Source asked) v arrives feeds hears rises = feeds asked v
  by_asking meant rule is no_number no_command (Listen asked) v arrives feeds hears rises = hears asked refl v
  by_asking meant rule is no_number no_command (RelayUp mount shown) v arrives feeds hears rises = rises mount shown v
  by_asking meant rule is no_number no_command (Push id block) v arrives feeds hears rises =
      absurd (no_limit meant (rows_from w.station block (standing_of w id)) (only_numbers meant no_number block (standing_of w id)) rule v is)
  by_asking meant rule is no_number no_command (Command asked) v arrives feeds hears rises =
      absurd (no_limit meant (rows_to_command w asked) (no_command (facts_asked w asked.asked asked.pair)) rule v is)
  by_asking meant rule is no_number no_command (SourceEnd id) v arrives feeds hears rises = cc
  by_asking meant rule is no_number no_command (Title id text) v arrives feeds hears rises = cc
  by_asking meant rule is no_number no_command (Draw id room) v arrives feeds hears rises = cc
  by_asking meant rule is no_number no_command (Leave id) v arrives feeds hears rises = cc
  by_asking meant rule is no_number no_command (RelayDown id) v arrives feeds hears rises = cc
  by_asking meant rule is no_number no_command (Clock ms) v arrives feeds hears rises = cc

  -- the limits deny only a client that asks to listen to a mount
  only_listeners : {A : Type 0} (rule : Rule) → is_limit rule ≡ true → (event : Event) → verdict_in (rows_for w event) ≡ Denied rule
      → ((asked : ListenRequest) → event ≡ Listen asked → verdict_in (rows_for w (Listen asked)) ≡ Denied rule → A) → A
  only_listeners rule limit event v goes =
      by_asking is_limit rule limit refl (of_no_command is_limit refl refl refl refl refl refl refl refl refl refl refl) event v
      (λ peer denied. absurd (no_limit is_limit (rows_for w (Arrive peer)) (refl, (refl, (refl, (refl, tt)))) rule denied limit))
      (λ asked denied.
      absurd (no_limit is_limit (rows_for w (Source asked)) (no_limit_to_feed asked (names_mount w.station.settings asked.mount)) rule denied limit))
      goes
      (λ mount shown denied. absurd (no_limit is_limit (rows_to_raise w.station mount shown)
      (no_limit_to_raise is_limit refl refl refl refl refl mount shown (names_mount w.station.settings mount)) rule denied limit))

  full_there : (event : Event) → verdict_in (rows_for w event) ≡ Denied MountFull → ByAMount w event (λ asked mount. IsFullAt w mount)
  full_there event v =
      only_listeners MountFull refl event v (λ asked same denied. let at = full_where w asked (why_denied w asked MountFull denied) in
      (asked, same, at.0, at.1, at.2, at.3, at.4))

  twice_there : (event : Event) → verdict_in (rows_for w event) ≡ Denied UserTwice → ByAMount w event (λ asked mount. HasUserAt w mount asked.pair)
  twice_there event v =
      only_listeners UserTwice refl event v (λ asked same denied. let at = twice_where w asked (why_denied w asked UserTwice denied) in
      (asked, same, at.0, at.1, at.2, at.3, at.4))

  deep_there : (event : Event) → verdict_in (rows_for w event) ≡ Denied FallbackDepth
      → (asked : ListenRequest) × (event ≡ Listen asked) × (mount : List ℕ) × ComesBy w asked.mount 10 mount
  deep_there event v =
      only_listeners FallbackDepth refl event v (λ asked same denied. let at = deep_where w asked (why_denied w asked FallbackDepth denied) in
      (asked, same, at.0, at.1))

  -- a client is denied its arrival since as many are there as allowed, and a source its mount since there are as many sources
  many_clients : (event : Event) → verdict_in (rows_for w event) ≡ Denied TooManyClients → w.station.settings.limits.clients ≤ length w.station.clients
  many_clients event v =
      by_asking is_of_clients TooManyClients refl refl (of_no_command is_of_clients refl refl refl refl refl refl refl refl refl refl refl) event v
      (λ peer denied. let facts = arrive_facts w.station peer in
      reached (length w.station.clients) w.station.settings.limits.clients
      (clients_by facts.address_is_denied facts.address_is_allowed facts.clients_are_full facts.number_is_spent denied))
      (λ asked denied.
      absurd (no_limit is_of_clients (rows_for w (Source asked)) (to_feed asked (names_mount w.station.settings asked.mount)) TooManyClients denied refl))
      (λ asked same denied.
      absurd (denies_none w asked TooManyClients (why_denied w asked TooManyClients denied) is_of_clients refl refl refl refl refl refl refl refl))
      (λ mount shown denied. absurd (no_limit is_of_clients (rows_to_raise w.station mount shown)
      (no_limit_to_raise is_of_clients refl refl refl refl refl mount shown (names_mount w.station.settings mount)) TooManyClients denied refl)) where
        to_feed : (asked : SourceRequest) (named : Bool)
            → Each (λ row. is_of_clients row.rule ≡ false) (source_rows (if named then Some (source_facts_at w.station asked.mount asked) else None))
        to_feed asked true = (refl, (refl, (refl, (refl, tt))))
        to_feed asked false = (refl, tt)

  many_sources : (event : Event) → verdict_in (rows_for w event) ≡ Denied TooManySources → w.station.settings.limits.sources ≤ length w.station.live
  many_sources event v =
      by_asking is_of_sources TooManySources refl refl (of_no_command is_of_sources refl refl refl refl refl refl refl refl refl refl refl) event v
      (λ peer denied. absurd (no_limit is_of_sources (rows_for w (Arrive peer)) (refl, (refl, (refl, (refl, tt)))) TooManySources denied refl))
      (λ asked denied. let facts = source_facts_at w.station asked.mount asked in
      reached (length w.station.live) w.station.settings.limits.sources
      (sources_by (names_mount w.station.settings asked.mount) facts.is_source_pair facts.sources_are_full facts.mount_is_live facts.type_is_refused denied))
      (λ asked same denied.
      absurd (denies_none w asked TooManySources (why_denied w asked TooManySources denied) is_of_sources refl refl refl refl refl refl refl refl))
      (λ mount shown denied. let facts = relay_facts_at w.station mount shown in
      reached (length w.station.live) w.station.settings.limits.sources
      (relays_by (names_mount w.station.settings mount) facts.sources_are_full facts.mount_is_live facts.type_is_refused facts.number_is_spent denied))

  -- only a verdict of the policy denies
  pub denied_by : {A : Type 0} (rule : Rule) (event : Event) (o : Outcome) → RuleNamed w event o → o.reply ≡ Deny rule
      → (verdict_in (rows_for w event) ≡ Denied rule → A) → A
  denied_by rule event o (DeniesIt by v nobody) d goes = let same : by ≡ rule = cc in goes (v ∙ ap (λ (r : Rule). Denied r) same)
  denied_by rule event o (RefusesHim him by v his undecided) d goes = let same : by ≡ rule = cc in goes (v ∙ ap (λ (r : Rule). Denied r) same)
  denied_by rule event o (TellsHisRule him by his told) d goes = cc
  denied_by rule event o (NamesNoRule _ none) d goes = let named : rule_in o.reply ≡ Some rule = ap rule_in d in cc

  pub limits_deny : (event : Event) → DeniesByLimits w event
  unfolding reply_to
  limits_deny event = record {
    clients = λ d. denied_by TooManyClients event (outcome w event) (rule_named w event) d (many_clients event);
    sources = λ d. denied_by TooManySources event (outcome w event) (rule_named w event) d (many_sources event);
    full = λ d. denied_by MountFull event (outcome w event) (rule_named w event) d (full_there event);
    twice = λ d. denied_by UserTwice event (outcome w event) (rule_named w event) d (twice_there event);
    depth = λ d. denied_by FallbackDepth event (outcome w event) (rule_named w event) d (deep_there event);
  }

  -- an admitted client, and an admitted source, finds room
  admits_by : (event : Event) (o : Outcome) → Granted w event o → Admits w event o.reply
  admits_by event o (AdmitsClient peer change is allowed) =
      record {
        clients = λ him id is d. below (length w.station.clients) w.station.settings.limits.clients (has_room_left w.station peer allowed);
        sources = λ d. cc;
        relays = λ mount shown id other d. let both : Arrive peer ≡ RelayUp mount shown = sym is ∙ other in cc;
      }
  admits_by event o (AdmitsSource asked change is allowed) =
      record {
        clients = λ him id is d. cc;
        sources = λ d. below (length w.station.live) w.station.settings.limits.sources (may_feed w.station asked allowed).has_room;
        relays = λ mount shown id is d. cc;
      }
  admits_by event o (AdmitsRelay mount shown change is allowed) =
      record {
        clients = λ him id other d. let both : RelayUp mount shown ≡ Arrive him = sym is ∙ other in cc;
        sources = λ d. cc;
        relays = λ at sees id other d. below (length w.station.live) w.station.settings.limits.sources (may_come_up w.station mount shown allowed).has_room;
      }
  admits_by event o (AdmitsListener asked peer session is undecided lands live) = record { clients = λ him id is d. cc; sources = λ d. cc; relays = λ mount shown id is d. cc }
  admits_by event o (HandsData him room seat session change is sits has live) = record { clients = λ him id is d. cc; sources = λ d. cc; relays = λ mount shown id is d. cc }
  admits_by event o (TellsText text change why) = record { clients = λ him id is d. cc; sources = λ d. cc; relays = λ mount shown id is d. cc }
  admits_by event o (GrantsNothing _ none idle) = record {
    clients = λ him id is d. let some : grants o.reply ≡ true = ap grants d in cc;
    sources = λ d. let some : grants o.reply ≡ true = ap grants d in cc;
    relays = λ mount shown id is d. let some : grants o.reply ≡ true = ap grants d in cc;
  }

  pub limits_admit : (event : Event) → AdmitsByLimits w event
  unfolding reply_to
  limits_admit event = let room = admits_by event (outcome w event) (granted w event) in record { clients = room.clients; sources = room.sources; relays = room.relays }
