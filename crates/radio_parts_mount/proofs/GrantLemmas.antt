-- grants stand in a list that replays
use Rattle.std.proofs.Common.{◌≡◌, ◌<◌, ◌+◌, ◌==◌, suc, zero, Bool, true, false, ℕ, Option, Some, None, List, [], ◌∷◌, ◌++◌, refl, ap, sym, subst, ◌∙◌, arith}
use Rattle.radio_parts_mount.proofs.Words.{nat_tests, find, not, if◌then◌else◌, slice_get, option_map, Rule, MountItem, Attach, Detach, Own, Titled, Grant, ByList, nothing, played, grant_of, granted, is_of_client}
use Rattle.radio_parts_mount.proofs.Words.{without_grant, May, Replays}
use Rattle.radio_events.specs.declared.entry.Entry.{Entry}
use Rattle.radio_events.specs.Events.{client_in}
use Rattle.radio_parts_mount.specs.declared.item.Attaching.{Attaching}
use Rattle.radio_parts_mount.specs.Grants.{HasGrant}

-- the grant of one client, once another client's grant is gone, or one has come
module _ (id : ℕ) where
  found_behind_at : (new grant : Grant) (grants : List Grant) (b : Bool) → is_of_client id grant ≡ b → grant_of (grants ++ new ∷ []) id ≡ grant_of grants id
      → option_map (λ (x : Grant). x.place) (if b then Some grant else find (is_of_client id) (grants ++ new ∷ []))
      ≡ option_map (λ (x : Grant). x.place) (if b then Some grant else find (is_of_client id) grants)
  found_behind_at new grant grants true e later = refl
  found_behind_at new grant grants false e later = later

  found_behind : (new : Grant) (grants : List Grant) → is_of_client id new ≡ false → grant_of (grants ++ new ∷ []) id ≡ grant_of grants id
  found_behind new [] other = rw other refl
  found_behind new (grant ∷ grants) other = found_behind_at new grant grants (is_of_client id grant) refl (found_behind new grants other)

  found_new_at : (new grant : Grant) (grants : List Grant) (b : Bool) → (grant_of grants id ≡ None → grant_of (grants ++ new ∷ []) id ≡ Some new.place)
      → option_map (λ (x : Grant). x.place) (if b then Some grant else find (is_of_client id) grants) ≡ None
      → option_map (λ (x : Grant). x.place) (if b then Some grant else find (is_of_client id) (grants ++ new ∷ [])) ≡ Some new.place
  found_new_at new grant grants true later none = cc
  found_new_at new grant grants false later none = later none

  found_new : (new : Grant) (grants : List Grant) → is_of_client id new ≡ true → grant_of grants id ≡ None → grant_of (grants ++ new ∷ []) id ≡ Some new.place
  found_new new [] its none = rw its refl
  found_new new (grant ∷ grants) its none = found_new_at new grant grants (is_of_client id grant) (found_new new grants its) none

  gone_so : (grant : Grant) (grants : List Grant) (b : Bool) → is_of_client id grant ≡ b → grant_of (without_grant id grants) id ≡ None
      → grant_of (if not b then grant ∷ without_grant id grants else without_grant id grants) id ≡ None
  gone_so grant grants true e later = later
  gone_so grant grants false e later = rw e later

  gone : (grants : List Grant) → grant_of (without_grant id grants) id ≡ None
  gone [] = refl
  gone (grant ∷ grants) = gone_so grant grants (is_of_client id grant) refl (gone grants)

same_by_test : (a b : ℕ) → (a == b) ≡ true → a ≡ b
same_by_test a b e = grind (arith, nat_tests, e)

-- another client's grant stays
module _ (id other : ℕ) (apart : (other == id) ≡ false) where
  kept_so : (grant : Grant) (grants : List Grant) (b c : Bool) → is_of_client other grant ≡ b → is_of_client id grant ≡ c
      → grant_of (without_grant other grants) id ≡ grant_of grants id
      → grant_of (if not b then grant ∷ without_grant other grants else without_grant other grants) id
      ≡ option_map (λ (x : Grant). x.place) (if c then Some grant else find (is_of_client id) grants)
  kept_so grant grants true true e e' later =
      let same : other ≡ id = sym (same_by_test grant.id other e) ∙ same_by_test grant.id id e' in
      let wrong : true ≡ false = sym (grind (arith, nat_tests, same)) ∙ apart in cc
  kept_so grant grants true false e e' later = later
  kept_so grant grants false true e e' later = rw e' refl
  kept_so grant grants false false e e' later = rw e' later

  kept : (grants : List Grant) → grant_of (without_grant other grants) id ≡ grant_of grants id
  kept [] = refl
  kept (grant ∷ grants) = kept_so grant grants (is_of_client other grant) (is_of_client id grant) refl refl (kept grants)

module _ (queue : ℕ) (mount : List ℕ) (whole : List MountItem) where
  -- who has a grant has it since its Attach
  abbrev Stand : ByList → ℕ → Type 0
  Stand s n = (id place : ℕ) → grant_of s.grants id ≡ Some place → HasGrant whole n place id

  abbrev no_end : MountItem → ℕ → Type 0
  no_end item id = (other : ℕ) (rule : Option Rule) → item ≡ Detach id other rule → ⊥

  lasts_on : (item : MountItem) (n place id : ℕ) → slice_get whole n ≡ Some item → no_end item id → HasGrant whole n place id → HasGrant whole (n + 1) place id
  lasts_on item n place id at none has = record {
    place = has.place;
    attached = has.attached;
    earlier = omega (arith, has.earlier);
    is = has.is;
    begins = has.begins;
    lasts = λ k other rule later before ends. by_place k other rule later ends (k == n) refl before;
  } where
    by_place : (k other : ℕ) (rule : Option Rule) → has.place < k → slice_get whole k ≡ Some (Detach id other rule) → (b : Bool) → (k == n) ≡ b → k < n + 1 → ⊥
    by_place k other rule later ends true e before =
        let same : Some item ≡ Some (Detach id other rule) = sym at ∙ ap (slice_get whole) (sym (same_by_test k n e)) ∙ ends in
        none other rule cc
    by_place k other rule later ends false e before = has.lasts k other rule later (grind (arith, nat_tests, e, before)) ends

  attached_on : (s : ByList) (n id : ℕ) (attached : Attaching) → slice_get whole n ≡ Some (Attach id attached) → grant_of s.grants id ≡ None → s.count ≡ n → Stand s n
      → (one place : ℕ) (b : Bool) → (id == one) ≡ b → grant_of (s.grants ++ granted id (s.count + 1) ∷ []) one ≡ Some place → HasGrant whole (n + 1) place one
  attached_on s n id attached at none count stand one place true e found =
      let same : id ≡ one = same_by_test id one e in
      let now : Some (s.count + 1) ≡ Some place =
      sym (found_new one (granted id (s.count + 1)) s.grants e (ap (grant_of s.grants) (sym same) ∙ none)) ∙ found in
      let is : s.count + 1 ≡ place = cc in record {
        place = n;
        attached = attached;
        earlier = omega arith;
        is = omega (arith, is, count);
        begins = at ∙ ap (λ x. Some (Attach x attached)) same;
        lasts = λ k other rule later before ends. omega (arith, later, before);
      }
  attached_on s n id attached at none count stand one place false e found =
      lasts_on (Attach id attached) n place one at (λ other rule wrong. cc) (stand one place (sym (found_behind one (granted id (s.count + 1)) s.grants e) ∙ found))

  detached_on : (s : ByList) (n id grant : ℕ) (rule : Option Rule) → slice_get whole n ≡ Some (Detach id grant rule) → Stand s n
      → (one place : ℕ) (b : Bool) → (id == one) ≡ b → grant_of (without_grant id s.grants) one ≡ Some place → HasGrant whole (n + 1) place one
  detached_on s n id grant rule at stand one place true e found =
      let same : id ≡ one = same_by_test id one e in
      let wrong : None ≡ Some place = sym (gone one s.grants) ∙ ap (λ x. grant_of (without_grant x s.grants) one) (sym same) ∙ found in cc
  detached_on s n id grant rule at stand one place false e found =
      lasts_on (Detach id grant rule) n place one at (λ other rule' is. apart (cc)) (stand one place (sym (kept one id e s.grants) ∙ found)) where
        apart : id ≡ one → ⊥
        apart same = let wrong : true ≡ false = sym (grind (arith, nat_tests, same)) ∙ e in cc

  goes_on : (s : ByList) (n : ℕ) (item : MountItem) → slice_get whole n ≡ Some item → May mount s item → s.count ≡ n → Stand s n → Stand (played queue mount s item) (n + 1)
  goes_on s n (Attach id attached) at may count stand one place found = attached_on s n id attached at may count stand one place (id == one) refl found
  goes_on s n (Detach id grant rule) at may count stand one place found = detached_on s n id grant rule at stand one place (id == one) refl found
  goes_on s n (Own grant moment entry) at may count stand one place found =
      lasts_on (Own grant moment entry) n place one at (λ other rule wrong. cc) (stand one place found)
  goes_on s n (Titled title) at may count stand one place found = lasts_on (Titled title) n place one at (λ other rule wrong. cc) (stand one place found)

  counts_on : (s : ByList) (item : MountItem) → (played queue mount s item).count ≡ s.count + 1
  counts_on s (Attach id attached) = refl
  counts_on s (Detach id grant rule) = refl
  counts_on s (Own grant moment entry) = refl
  counts_on s (Titled title) = refl

  abbrev At : ℕ → List MountItem → Type 0
  At n items = (k : ℕ) → slice_get whole (k + n) ≡ slice_get items k

  from_zero : (n : ℕ) → n ≡ 0 + n
  from_zero n = omega arith

  shifted : (k n : ℕ) → k + (n + 1) ≡ suc k + n
  shifted k n = omega arith

  stands : (items : List MountItem) (s : ByList) (n : ℕ) → At n items → Replays queue mount s items → s.count ≡ n → Stand s n
      → (j grant moment : ℕ) (entry : Entry) → slice_get items j ≡ Some (Own grant moment entry)
      → (id : ℕ) × (client_in entry.event ≡ Some id) × HasGrant whole (j + n) grant id
  stands [] s n at replays count stand j grant moment entry own = cc
  stands (item ∷ items) s n at replays count stand zero grant moment entry own =
      let is : item ≡ Own grant moment entry = cc in
      let may = subst (May mount s) is replays.0 in
      let client = may.0 in
      (client.0, client.1, subst (λ x. HasGrant whole x grant client.0) (from_zero n) (stand client.0 grant client.2))
  stands (item ∷ items) s n at replays count stand (suc j) grant moment entry own =
      let later = stands items (played queue mount s item) (n + 1)
      (λ k. ap (slice_get whole) (shifted k n) ∙ at (suc k)) replays.1 (counts_on s item ∙ ap (λ x. x + 1) count)
      (goes_on s n item (ap (slice_get whole) (from_zero n) ∙ at 0) replays.0 count stand) j grant moment entry own in
      (later.0, later.1, subst (λ x. HasGrant whole x grant later.0) (shifted j n) later.2)

  pub own_after_attach : Replays queue mount nothing whole → (i grant moment : ℕ) (entry : Entry) → slice_get whole i ≡ Some (Own grant moment entry)
      → (id : ℕ) × (client_in entry.event ≡ Some id) × HasGrant whole i grant id
  own_after_attach replays i grant moment entry own =
      let all = stands whole nothing 0 (λ k. ap (slice_get whole) (from_none k)) replays refl (λ id place none. cc) i grant moment entry own in
      (all.0, all.1, subst (λ x. HasGrant whole x grant all.0) (from_none i) all.2) where
        from_none : (k : ℕ) → k + 0 ≡ k
        from_none k = omega arith
