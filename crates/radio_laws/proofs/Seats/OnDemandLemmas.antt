-- which mounts wait for a session, and which are wanted
use Rattle.std.proofs.Common.{◌≡◌, ◌⊎◌, inl, inr, Bool, true, false, ℕ, suc, Some, None, List, [], ◌∷◌, refl, ap, sym, subst, ◌∙◌, arith}
use Rattle.radio_laws.proofs.Words.{find, fold, length, nat_lt, if◌then◌else◌, option_map_or, bytes_eq, slice_cmp, Ordering, Less, Equal, Greater, is_eq, nat_cmp, match_ordering, and_parts, nat_tests, bytes_eq-Decides}
use Rattle.radio_laws.proofs.Words.{Has, Settings, Session, session_of, Listener, Seating, Finished, is_seat_at, seats_at, count_at, StationState, feeds_on_demand, is_on_demand, heard_at, World}
use Rattle.std.specs.BTreeSet.{insert_key}
use Rattle.std.proofs.lemmas.Map.Text.{is_eq-slice_cmp}
use Rattle.radio_settings_values.specs.declared.settings.RelaySetting.{RelaySetting}
use Rattle.radio_seats_rows.specs.declared.seat.Seating.TheVariants.{Sits}
use Rattle.radio_parts_facts.specs.Wanted.{is_wanted, with_wanted, wanted}
use Rattle.radio_parts_station.proofs.WaitingLemmas.{first_or_other}
use Rattle.radio_laws.specs.OnDemand.{IsFedOnDemand, WaitsOnDemand, IsSatAt, WantedAreSatAt}
use Rattle.radio_laws.proofs.Seats.HeardLaws.{nothing_heard}

-- a mount that waits is fed by one of the relays, on demand
abbrev pub FedBy : List RelaySetting → List ℕ → Type 0
FedBy relays mount = (relay : RelaySetting) × Has relay relays × (relay.local_mount ≡ mount) × (relay.on_demand ≡ true)

fed_by : (relays : List RelaySetting) (mount : List ℕ) → feeds_on_demand relays mount ≡ true → FedBy relays mount
fed_by [] mount e = cc
fed_by (relay ∷ relays) mount e = by_first (fed_by relays mount) (first_or_other relay relays mount e) where
  by_first : (feeds_on_demand relays mount ≡ true → FedBy relays mount)
      → ((relay.on_demand ≡ true) × (relay.local_mount ≡ mount)) ⊎ (feeds_on_demand relays mount ≡ true) → FedBy (relay ∷ relays) mount
  by_first rest (inl his) = (relay, inl refl, his.1, his.0)
  by_first rest (inr later) = let other = rest later in (other.0, inr other.1, other.2, other.3)

-- and if all relays that feed it do so on demand, the first one does
feeds : (relays : List RelaySetting) (mount : List ℕ) (relay : RelaySetting) → Has relay relays → relay.local_mount ≡ mount
    → ((other : RelaySetting) → Has other relays → other.local_mount ≡ mount → other.on_demand ≡ true) → feeds_on_demand relays mount ≡ true
feeds [] mount relay has name all = absurd has
feeds (first ∷ relays) mount relay has name all =
    by_test (λ later. feeds relays mount relay later name (λ other there. all other (inr there))) (bytes_eq first.local_mount mount) refl has where
      by_test : (Has relay relays → feeds_on_demand relays mount ≡ true) → (b : Bool) → bytes_eq first.local_mount mount ≡ b
          → (relay ≡ first) ⊎ Has relay relays
          → option_map_or (λ (r : RelaySetting). r.on_demand)
          (if bytes_eq first.local_mount mount then Some first else find (λ (r : RelaySetting). bytes_eq r.local_mount mount) relays) false ≡ true
      by_test rest true e h = rw e (all first (inl refl) ((bytes_eq-Decides first.local_mount mount).0 e))
      by_test rest false e (inl same) =
          let is = (bytes_eq-Decides first.local_mount mount).1 (ap (λ (r : RelaySetting). r.local_mount) (sym same) ∙ name) in cc
      by_test rest false e (inr later) = rw e (rest later)

pub waits_on_demand : (settings : Settings) (mount : List ℕ) → WaitsOnDemand settings mount
waits_on_demand settings mount = record {
  only = λ waits.
      let by = fed_by settings.relays mount waits in record { relay = by.0; is_one = by.1; its_mount = by.2; on_demand = by.3 };
  each = λ fed all. feeds settings.relays mount fed.relay fed.is_one fed.its_mount all;
}

-- a mount without a session has listeners only because a relay feeds it on demand
pub awaited_there : (station : StationState) (mount : List ℕ) (session : Session) → heard_at station mount ≡ Some session → session_of station.live mount ≡ None
    → IsFedOnDemand station.settings mount
awaited_there station mount session hears none = by_test (is_on_demand station.settings mount) refl where
  by_test : (b : Bool) → is_on_demand station.settings mount ≡ b → IsFedOnDemand station.settings mount
  by_test true waits = (waits_on_demand station.settings mount).only waits
  by_test false never = let nothing = nothing_heard station mount never none in cc

-- a name that is put among others is one of them then, and all others were
has_inserted : (names : List (List ℕ)) (name : List ℕ) → Has name (insert_key (slice_cmp nat_cmp) names name)
has_inserted [] name = inl refl
has_inserted (first ∷ names) name = by_order (has_inserted names name) (slice_cmp nat_cmp name first) refl where
  by_order : Has name (insert_key (slice_cmp nat_cmp) names name) → (o : Ordering) → slice_cmp nat_cmp name first ≡ o
      → Has name (match_ordering o (name ∷ first ∷ names) (first ∷ names) (first ∷ insert_key (slice_cmp nat_cmp) names name))
  by_order rest Less e = inl refl
  by_order rest Equal e = inl ((bytes_eq-Decides name first).0 (sym (is_eq-slice_cmp name first) ∙ ap is_eq e))
  by_order rest Greater e = inr rest

has_still : (names : List (List ℕ)) (name other : List ℕ) → Has other names → Has other (insert_key (slice_cmp nat_cmp) names name)
has_still [] name other has = absurd has
has_still (first ∷ names) name other has = by_order (has_still names name other) (slice_cmp nat_cmp name first) has where
  by_order : (Has other names → Has other (insert_key (slice_cmp nat_cmp) names name)) → (o : Ordering) → (other ≡ first) ⊎ Has other names
      → Has other (match_ordering o (name ∷ first ∷ names) (first ∷ names) (first ∷ insert_key (slice_cmp nat_cmp) names name))
  by_order rest Less h = inr h
  by_order rest Equal h = h
  by_order rest Greater (inl same) = inl same
  by_order rest Greater (inr later) = inr (rest later)

had_or_is : (names : List (List ℕ)) (name other : List ℕ) → Has other (insert_key (slice_cmp nat_cmp) names name) → Has other names ⊎ (name ≡ other)
had_or_is [] name other (inl same) = inr (sym same)
had_or_is [] name other (inr none) = absurd none
had_or_is (first ∷ names) name other has = by_order (had_or_is names name other) (slice_cmp nat_cmp name first) has where
  later : Has other names ⊎ (name ≡ other) → Has other (first ∷ names) ⊎ (name ≡ other)
  later (inl had) = inl (inr had)
  later (inr is) = inr is

  by_order : (Has other (insert_key (slice_cmp nat_cmp) names name) → Has other names ⊎ (name ≡ other)) → (o : Ordering)
      → Has other (match_ordering o (name ∷ first ∷ names) (first ∷ names) (first ∷ insert_key (slice_cmp nat_cmp) names name))
      → Has other (first ∷ names) ⊎ (name ≡ other)
  by_order rest Less (inl same) = inr (sym same)
  by_order rest Less (inr had) = inl had
  by_order rest Equal had = inl had
  by_order rest Greater (inl same) = inl (inl same)
  by_order rest Greater (inr had) = later (rest had)

-- if at least one listener is counted at a mount, one sits there
sat_at : (seats : List Listener) (mount : List ℕ) → nat_lt 0 (count_at seats mount) ≡ true → IsSatAt seats mount
sat_at [] mount e = cc
sat_at (listener ∷ seats) mount e = by_seating (sat_at seats mount) listener.seating refl e where
  later : IsSatAt seats mount → IsSatAt (listener ∷ seats) mount
  later sat = record { listener = sat.listener; is_one = inr sat.is_one; seat = sat.seat; sits = sat.sits; at_the_mount = sat.at_the_mount }

  by_seating : (nat_lt 0 (count_at seats mount) ≡ true → IsSatAt seats mount) → (seating : Seating) → listener.seating ≡ seating
      → nat_lt 0 (length (if is_seat_at mount seating then listener ∷ seats_at seats mount else seats_at seats mount)) ≡ true
      → IsSatAt (listener ∷ seats) mount
  by_seating rest (Finished rule last) is h = later (rest h)
  by_seating rest (Sits seat) is h = by_test (bytes_eq seat.mount mount) refl h where
    by_test : (b : Bool) → bytes_eq seat.mount mount ≡ b
        → nat_lt 0 (length (if b then listener ∷ seats_at seats mount else seats_at seats mount)) ≡ true → IsSatAt (listener ∷ seats) mount
    by_test true there some = record {
      listener = listener;
      is_one = inl refl;
      seat = seat;
      sits = is;
      at_the_mount = (bytes_eq-Decides seat.mount mount).0 there;
    }
    by_test false away some = later (rest some)

some : (n : ℕ) → nat_lt 0 (suc n) ≡ true
some n = grind (arith, nat_tests)

counts : (seats : List Listener) (mount : List ℕ) → IsSatAt seats mount → nat_lt 0 (count_at seats mount) ≡ true
counts [] mount sat = absurd sat.is_one
counts (listener ∷ seats) mount sat = by_test (counts seats mount) (is_seat_at mount listener.seating) refl sat.is_one where
  here : sat.listener ≡ listener → is_seat_at mount listener.seating ≡ true
  here same =
      ap (λ (l : Listener). is_seat_at mount l.seating) (sym same) ∙ ap (is_seat_at mount) sat.sits ∙ (bytes_eq-Decides sat.seat.mount mount).1 sat.at_the_mount

  by_test : (IsSatAt seats mount → nat_lt 0 (count_at seats mount) ≡ true) → (b : Bool) → is_seat_at mount listener.seating ≡ b
      → (sat.listener ≡ listener) ⊎ Has sat.listener seats
      → nat_lt 0 (length (if b then listener ∷ seats_at seats mount else seats_at seats mount)) ≡ true
  by_test rest true is has = some (length (seats_at seats mount))
  by_test rest false not (inl same) = let is = here same in cc
  by_test rest false not (inr later) =
      rest (record { listener = sat.listener; is_one = later; seat = sat.seat; sits = sat.sits; at_the_mount = sat.at_the_mount })

-- the names after a relay was looked at are those before, and that of its mount, if it is wanted
module _ (seats : List Listener) where
  abbrev pub WantedBy : List RelaySetting → List ℕ → Type 0
  WantedBy relays mount = (relay : RelaySetting) × Has relay relays × (relay.local_mount ≡ mount) × (is_wanted seats relay ≡ true)

  named_by : (relay : RelaySetting) (names : List (List ℕ)) (mount : List ℕ) (b : Bool) → is_wanted seats relay ≡ b
      → Has mount (if b then insert_key (slice_cmp nat_cmp) names relay.local_mount else names)
      → Has mount names ⊎ ((relay.local_mount ≡ mount) × (is_wanted seats relay ≡ true))
  named_by relay names mount false e has = inl has
  named_by relay names mount true e has = by_name (had_or_is names relay.local_mount mount has) where
    by_name : Has mount names ⊎ (relay.local_mount ≡ mount) → Has mount names ⊎ ((relay.local_mount ≡ mount) × (is_wanted seats relay ≡ true))
    by_name (inl had) = inl had
    by_name (inr is) = inr (is, e)

  wanted_by : (relays : List RelaySetting) (names : List (List ℕ)) (mount : List ℕ) → Has mount (fold (with_wanted seats) names relays)
      → Has mount names ⊎ WantedBy relays mount
  wanted_by [] names mount has = inl has
  wanted_by (relay ∷ relays) names mount has = by_rest (wanted_by relays (with_wanted seats names relay) mount has) where
    by_first : Has mount names ⊎ ((relay.local_mount ≡ mount) × (is_wanted seats relay ≡ true)) → Has mount names ⊎ WantedBy (relay ∷ relays) mount
    by_first (inl had) = inl had
    by_first (inr his) = inr (relay, inl refl, his.0, his.1)

    by_rest : Has mount (with_wanted seats names relay) ⊎ WantedBy relays mount → Has mount names ⊎ WantedBy (relay ∷ relays) mount
    by_rest (inl had) = by_first (named_by relay names mount (is_wanted seats relay) refl had)
    by_rest (inr other) = inr (other.0, inr other.1, other.2, other.3)

  kept_by : (relay : RelaySetting) (names : List (List ℕ)) (mount : List ℕ) (b : Bool) → Has mount names
      → Has mount (if b then insert_key (slice_cmp nat_cmp) names relay.local_mount else names)
  kept_by relay names mount true has = has_still names relay.local_mount mount has
  kept_by relay names mount false has = has

  kept : (relays : List RelaySetting) (names : List (List ℕ)) (mount : List ℕ) → Has mount names → Has mount (fold (with_wanted seats) names relays)
  kept [] names mount has = has
  kept (relay ∷ relays) names mount has =
      kept relays (with_wanted seats names relay) mount (kept_by relay names mount (is_wanted seats relay) has)

  put_by : (relay : RelaySetting) (names : List (List ℕ)) (b : Bool) → b ≡ true
      → Has relay.local_mount (if b then insert_key (slice_cmp nat_cmp) names relay.local_mount else names)
  put_by relay names true e = has_inserted names relay.local_mount
  put_by relay names false e = cc

  is_named : (relays : List RelaySetting) (names : List (List ℕ)) (relay : RelaySetting) → Has relay relays → is_wanted seats relay ≡ true
      → Has relay.local_mount (fold (with_wanted seats) names relays)
  is_named [] names relay has is = absurd has
  is_named (first ∷ relays) names relay has is = by_place (is_named relays (with_wanted seats names first) relay) has where
    by_place : (Has relay relays → is_wanted seats relay ≡ true → Has relay.local_mount (fold (with_wanted seats) (with_wanted seats names first) relays))
        → (relay ≡ first) ⊎ Has relay relays → Has relay.local_mount (fold (with_wanted seats) (with_wanted seats names first) relays)
    by_place rest (inr later) = rest later is
    by_place rest (inl same) =
        let his : is_wanted seats first ≡ true = ap (is_wanted seats) (sym same) ∙ is in
        kept relays (with_wanted seats names first) relay.local_mount
        (subst (λ (r : RelaySetting). Has r.local_mount (with_wanted seats names first)) (sym same) (put_by first names (is_wanted seats first) his))

pub wanted_are_sat_at : (w : World) → WantedAreSatAt w
wanted_are_sat_at w = record {
  only = λ mount has. by_relay mount (wanted_by w.seats w.station.settings.relays [] mount has);
  each = λ mount fed sat.
      let at : count_at w.seats fed.relay.local_mount ≡ count_at w.seats mount = ap (count_at w.seats) fed.its_mount in
      let sits : nat_lt 0 (count_at w.seats fed.relay.local_mount) ≡ true = ap (nat_lt 0) at ∙ counts w.seats mount sat in
      subst (λ (name : List ℕ). Has name (wanted w)) fed.its_mount
      (is_named w.seats w.station.settings.relays [] fed.relay fed.is_one (rw (fed.on_demand, sits) refl));
} where
  by_relay : (mount : List ℕ) → ⊥ ⊎ WantedBy w.seats w.station.settings.relays mount → IsFedOnDemand w.station.settings mount × IsSatAt w.seats mount
  by_relay mount (inl none) = absurd none
  by_relay mount (inr by) =
      let both = and_parts by.0.on_demand (nat_lt 0 (count_at w.seats by.0.local_mount)) by.3 in (
        record { relay = by.0; is_one = by.1; its_mount = by.2; on_demand = both.0 },
        sat_at w.seats mount (ap (λ (name : List ℕ). nat_lt 0 (count_at w.seats name)) (sym by.2) ∙ both.1),
      )
