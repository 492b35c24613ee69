-- whom a mount lets in, where a user of a mount was set, or taken away
use Rattle.std.proofs.Common.{◌≡◌, Bool, true, false, cond, ℕ, Option, Some, None, List, [], ◌∷◌, is_some, refl, ap, sym, ◌∙◌}
use Rattle.std.specs.Prelude.{find, if◌then◌else◌}
use Rattle.std.specs.FinMap as map
use Rattle.std.specs.FinMap.{get-insert, get-remove}
use Rattle.std.specs.Option.{option_map, option_map_or}
use Rattle.std.specs.Ordering.{nat_cmp, is_eq}
use Rattle.std.specs.Cmp.Lexicographic.{slice_cmp}
use Rattle.std.specs.Str.{bytes_eq}
use Rattle.std.proofs.lemmas.Cmp.{nat_list_cmp_total}
use Rattle.std.proofs.lemmas.Map.Text.{is_eq-slice_cmp}
use Rattle.std.proofs.lemmas.Slice.Eq.{bytes_eq-Decides}
use Rattle.md5.specs.Md5.{md5}
use Rattle.radio_creds.specs.Credentials.{Credentials}
use Rattle.radio_creds.specs.UserList.{UserList, with_user, without_user}
use Rattle.radio_tables.specs.Lists.{update_first}
use Rattle.radio_tables.proofs.FindLaws.{find_here, find_later, find_apart}
use Rattle.radio_access.specs.declared.lists.MountUsers.{MountUsers}
use Rattle.radio_access.specs.Lists.{Lists, is_users_of_mount, users_at, has_users, is_digest_of, accepts, lets_in}

-- the users of one mount have changed
module _ (lists : Lists) (mount : List ℕ) (change : UserList → UserList) where
  abbrev pub with_change : MountUsers → MountUsers
  with_change listed = record listed { users = change listed.users }

  abbrev pub with_changed : Lists
  with_changed = record lists { users = update_first (is_users_of_mount mount) with_change lists.users }

  -- those of another are as they were
  pub beside_it : (other : List ℕ) → bytes_eq mount other ≡ false → users_at with_changed other ≡ users_at lists other
  beside_it other apart = find_apart (is_users_of_mount other) (is_users_of_mount mount) with_change (λ x e. (not_its x e, not_its x e)) lists.users where
    not_its : (listed : MountUsers) → is_users_of_mount mount listed ≡ true → is_users_of_mount other listed ≡ false
    not_its listed e = ap (λ (m : List ℕ). bytes_eq m other) ((bytes_eq-Decides listed.mount mount).0 e) ∙ apart

  there_at : (listed : MountUsers) (all : List MountUsers) (b : Bool) → is_users_of_mount mount listed ≡ b
      → find (is_users_of_mount mount) (update_first (is_users_of_mount mount) with_change all) ≡ option_map with_change (find (is_users_of_mount mount) all)
      → find (is_users_of_mount mount) (if b then with_change listed ∷ all else listed ∷ update_first (is_users_of_mount mount) with_change all)
      ≡ option_map with_change (find (is_users_of_mount mount) (listed ∷ all))
  there_at listed all true e later = find_here (is_users_of_mount mount) (with_change listed) all e ∙ ap (option_map with_change) (sym (find_here (is_users_of_mount mount) listed all e))
  there_at listed all false e later =
      find_later (is_users_of_mount mount) listed (update_first (is_users_of_mount mount) with_change all) e ∙ later
      ∙ ap (option_map with_change) (sym (find_later (is_users_of_mount mount) listed all e))

  there_among : (all : List MountUsers) → find (is_users_of_mount mount) (update_first (is_users_of_mount mount) with_change all) ≡ option_map with_change (find (is_users_of_mount mount) all)
  there_among [] = refl
  there_among (listed ∷ all) = there_at listed all (is_users_of_mount mount listed) refl (there_among all)

  pub there : users_at with_changed mount ≡ option_map with_change (users_at lists mount)
  there = there_among lists.users

  -- so whom another lets in is let in there as before
  pub let_in_beside : (other : List ℕ) (pair : Option Credentials) → bytes_eq mount other ≡ false → lets_in with_changed other pair ≡ lets_in lists other pair
  let_in_beside other pair apart = ap (λ (listed : Option MountUsers). option_map_or (λ l. accepts l.users pair) listed true) (beside_it other apart)

  -- and so is here who sends what the change leaves as it is
  let_in_by : (pair : Option Credentials) → ((users : UserList) → accepts (change users) pair ≡ accepts users pair) → (listed : Option MountUsers)
      → option_map_or (λ (l : MountUsers). accepts l.users pair) (option_map with_change listed) true ≡ option_map_or (λ (l : MountUsers). accepts l.users pair) listed true
  let_in_by pair same None = refl
  let_in_by pair same (Some listed) = same listed.users

  pub let_in_still : (pair : Option Credentials) → ((users : UserList) → accepts (change users) pair ≡ accepts users pair)
      → lets_in with_changed mount pair ≡ lets_in lists mount pair
  let_in_still pair same =
      ap (λ (listed : Option MountUsers). option_map_or (λ l. accepts l.users pair) listed true) there ∙ let_in_by pair same (users_at lists mount)

  -- where the mount has users, these let in whom the change lets in
  let_in_now : (pair : Option Credentials) (b : Bool) → ((users : UserList) → accepts (change users) pair ≡ b) → (listed : Option MountUsers)
      → is_some listed ≡ true → option_map_or (λ (l : MountUsers). accepts l.users pair) (option_map with_change listed) true ≡ b
  let_in_now pair b now None has = cc
  let_in_now pair b now (Some listed) has = now listed.users

  pub let_in_then : has_users lists mount ≡ true → (pair : Option Credentials) (b : Bool) → ((users : UserList) → accepts (change users) pair ≡ b)
      → lets_in with_changed mount pair ≡ b
  let_in_then has pair b now =
      ap (λ (listed : Option MountUsers). option_map_or (λ l. accepts l.users pair) listed true) there
      ∙ let_in_now pair b now (users_at lists mount) has

-- what is found of one user
found_by : (pair : Credentials) (name : List ℕ) (b : Bool) → bytes_eq pair.user name ≡ b → is_eq (slice_cmp nat_cmp pair.user name) ≡ b
found_by pair name b e = is_eq-slice_cmp pair.user name ∙ e

module _ (users : UserList) (name password : List ℕ) (pair : Credentials) where
  -- its own password is the one that was set
  pub accepted_set : bytes_eq pair.user name ≡ true → accepts (with_user users name password) (Some pair) ≡ bytes_eq (md5 password) (md5 pair.password)
  accepted_set e =
      ap (is_digest_of pair.password) (get-insert nat_list_cmp_total users name (md5 password) pair.user
      ∙ ap (λ (b : Bool). cond b (Some (md5 password)) (map.get users pair.user)) (found_by pair name true e))

  -- all others' are as they were
  pub accepted_beside : bytes_eq pair.user name ≡ false → accepts (with_user users name password) (Some pair) ≡ accepts users (Some pair)
  accepted_beside e =
      ap (is_digest_of pair.password) (get-insert nat_list_cmp_total users name (md5 password) pair.user
      ∙ ap (λ (b : Bool). cond b (Some (md5 password)) (map.get users pair.user)) (found_by pair name false e))

  -- who was taken away is not accepted
  pub refused_gone : bytes_eq pair.user name ≡ true → accepts (without_user users name) (Some pair) ≡ false
  refused_gone e =
      ap (is_digest_of pair.password) (get-remove nat_list_cmp_total users name pair.user
      ∙ ap (λ (b : Bool). cond b None (map.get users pair.user)) (found_by pair name true e))

  pub accepted_without : bytes_eq pair.user name ≡ false → accepts (without_user users name) (Some pair) ≡ accepts users (Some pair)
  accepted_without e =
      ap (is_digest_of pair.password) (get-remove nat_list_cmp_total users name pair.user
      ∙ ap (λ (b : Bool). cond b None (map.get users pair.user)) (found_by pair name false e))
