-- What the laws rest on.
use Rattle.std.proofs.Common.{◌≡◌, ℕ, Bool, true, false, cond, List, [], ◌∷◌, Option, None, Some, Ok, Err, refl, ap, sym, subst, ◌∙◌}
use Rattle.std.specs.List.{find}
use Rattle.std.specs.Option.{option_map, option_and_then, ok_or}
use Rattle.std.specs.Prelude.{All, map, codes, if◌then◌else◌}
use Rattle.std.specs.Str.{bytes_eq}
use Rattle.std.specs.Str.Lossy.{utf8_lossy}
use Rattle.std.proofs.lemmas.Slice.Eq.{bytes_eq-Decides}
use Rattle.form_urlencoded.specs.Form.{decode, extend_pairs, raw_pairs}
use Rattle.form_urlencoded.proofs.FormLemmas.{round_trip}
use Rattle.radio_admin.specs.declared.command.Command.{Command}
use Rattle.radio_admin.specs.declared.command.Command.TheVariants as asks
use Rattle.radio_admin.specs.declared.kind.CommandKind.{CommandKind}
use Rattle.radio_admin.specs.declared.kind.CommandKind.TheVariants as kind
use Rattle.radio_admin.specs.declared.fault.AdminFault.TheVariants.{NoCommand, MissingArgument}
use Rattle.radio_admin.specs.Kinds.{command_path, kinds, kind_of}
use Rattle.radio_admin.specs.Arguments.{both, argument, is_argument_named, text_of, mount_in, number_argument, fallback_in, title_in, user_argument}
use Rattle.radio_admin.specs.Commands.{add_user, users_command, command_of, command_at, command_in, kind_in}
use Rattle.radio_admin.specs.Laws.{AreBytes, AsksFor, LacksAnArgument, NamesNoCommand, first_value}

found_at : {X : Type 0} (p : X → Bool) (x y : X) (rest : Option X) (b : Bool) → p x ≡ b → (rest ≡ Some y → p y ≡ true) → cond b (Some x) rest ≡ Some y → p y ≡ true
found_at p x y rest true here later e = let same : x ≡ y = cc in ap p (sym same) ∙ here
found_at p x y rest false here later e = later e

-- what is found passes the test
found_passes : {X : Type 0} (p : X → Bool) (xs : List X) (y : X) → find p xs ≡ Some y → p y ≡ true
found_passes p [] y e = absurd (cc)
found_passes p (x ∷ xs) y e = found_at p x y (find p xs) (p x) refl (found_passes p xs y) e

pub path_of_kind : (path : List ℕ) (k : CommandKind) → kind_of path ≡ Some k → path ≡ command_path k
unfolding kind_of
path_of_kind path k e = (bytes_eq-Decides path (command_path k)).0 (found_passes (λ k'. bytes_eq path (command_path k')) kinds k e)

kind_at : (k : CommandKind) → kind_of (command_path k) ≡ Some k
unfolding kind_of
kind_at kind.Status = refl
kind_at kind.Stats = refl
kind_at kind.ListMounts = refl
kind_at kind.ListClients = refl
kind_at kind.MoveClients = refl
kind_at kind.KillClient = refl
kind_at kind.KillSource = refl
kind_at kind.Metadata = refl
kind_at kind.Fallbacks = refl
kind_at kind.StreamList = refl
kind_at kind.Users = refl

pub kind_of_path : (path : List ℕ) (k : CommandKind) → path ≡ command_path k → kind_of path ≡ Some k
kind_of_path path k e = ap kind_of e ∙ kind_at k

-- what an argument makes, and what two make, is some value of the function
map_makes : {A C : Type 0} (P : C → Type 0) (f : A → C) → ((a : A) → P (f a)) → (o : Option A) (c : C) → option_map f o ≡ Some c → P c
map_makes P f h (Some a) c e = let same : f a ≡ c = cc in subst P same (h a)
map_makes P f h None c e = absurd (cc)

both_makes : {A B C : Type 0} (P : C → Type 0) (f : A → B → C) → ((a : A) (b : B) → P (f a b)) → (o : Option A) (p : Option B) (c : C) → both f o p ≡ Some c → P c
both_makes P f h (Some a) (Some b) c e = let same : f a b ≡ c = cc in subst P same (h a b)
both_makes P f h (Some a) None c e = absurd (cc)
both_makes P f h None p c e = absurd (cc)

-- a command on users is of their kind
add_made : (mount user password : Option (List ℕ)) (command : Command) → add_user mount user password ≡ Some command → kind_in command ≡ kind.Users
add_made (Some m) (Some u) (Some p) command e = let same : asks.AddUser (record { mount = m; user = u; password = p }) ≡ command = cc in ap kind_in (sym same)
add_made (Some m) (Some u) None command e = absurd (cc)
add_made (Some m) None password command e = absurd (cc)
add_made None user password command e = absurd (cc)

users_made : (mount : Option (List ℕ)) (query : List ℕ) (command : Command) (add delete : Bool)
    → (if add then add_user mount (user_argument query) (argument (codes "password") query)
    else if delete then both (λ m user. asks.DeleteUser (record { mount = m; user = user })) mount (user_argument query) else None) ≡ Some command
    → kind_in command ≡ kind.Users
users_made mount query command true delete e = add_made mount (user_argument query) (argument (codes "password") query) command e
users_made mount query command false true e = both_makes (λ (c : Command). kind_in c ≡ kind.Users) _ (λ m u. refl) mount (user_argument query) command e
users_made mount query command false false e = absurd (cc)

action_made : (mount : Option (List ℕ)) (query : List ℕ) (command : Command) (action : Option (List ℕ))
    → option_and_then (λ a. users_command a mount query) action ≡ Some command → kind_in command ≡ kind.Users
action_made mount query command (Some action) e = users_made mount query command (bytes_eq action (codes "add")) (bytes_eq action (codes "delete")) e
action_made mount query command None e = absurd (cc)

-- a command is of the kind that made it
kind_made : (k : CommandKind) (mount : Option (List ℕ)) (query : List ℕ) (command : Command) → command_of k mount query ≡ Some command → kind_in command ≡ k
kind_made kind.Status mount query command e = let same : asks.Status ≡ command = cc in ap kind_in (sym same)
kind_made kind.Stats mount query command e = let same : asks.Stats ≡ command = cc in ap kind_in (sym same)
kind_made kind.ListMounts mount query command e = let same : asks.ListMounts ≡ command = cc in ap kind_in (sym same)
kind_made kind.ListClients mount query command e = map_makes (λ (c : Command). kind_in c ≡ kind.ListClients) (λ m. asks.ListClients m) (λ m. refl) mount command e
kind_made kind.MoveClients mount query command e = both_makes (λ (c : Command). kind_in c ≡ kind.MoveClients) _ (λ m d. refl) mount (mount_in (codes "destination") query) command e
kind_made kind.KillClient mount query command e = both_makes (λ (c : Command). kind_in c ≡ kind.KillClient) _ (λ m d. refl) mount (number_argument (codes "id") query) command e
kind_made kind.KillSource mount query command e = map_makes (λ (c : Command). kind_in c ≡ kind.KillSource) (λ m. asks.KillSource m) (λ m. refl) mount command e
kind_made kind.Metadata mount query command e = both_makes (λ (c : Command). kind_in c ≡ kind.Metadata) _ (λ m d. refl) mount (title_in query) command e
kind_made kind.Fallbacks mount query command e = both_makes (λ (c : Command). kind_in c ≡ kind.Fallbacks) _ (λ m d. refl) mount (fallback_in (codes "fallback") query) command e
kind_made kind.StreamList mount query command e = let same : asks.StreamList ≡ command = cc in ap kind_in (sym same)
kind_made kind.Users mount query command e = action_made mount query command (argument (codes "action") query) e

ok_from : {A F : Type 0} (o : Option A) (fault : F) (x : A) → ok_or o fault ≡ Ok x → o ≡ Some x
ok_from (Some y) fault x e = cc
ok_from None fault x e = absurd (cc)

err_from : {A F : Type 0} (o : Option A) (fault other : F) → ok_or o fault ≡ Err other → (o ≡ None) × (fault ≡ other)
err_from (Some y) fault other e = absurd (cc)
err_from None fault other e = (refl, cc)

abbrev mount_of : List ℕ → Option (List ℕ)
mount_of query = mount_in (codes "mount") query

asked_at : (path query : List ℕ) (o : Option CommandKind) → kind_of path ≡ o → (command : Command)
    → command_at o (mount_of query) query ≡ Ok command → AsksFor path query (kind_in command) command
asked_at path query None e command h = absurd (cc)
asked_at path query (Some k) e command h =
    let found : command_of k (mount_of query) query ≡ Some command = ok_from (command_of k (mount_of query) query) (MissingArgument k (mount_of query)) command h in
    let same : kind_in command ≡ k = kind_made k (mount_of query) query command found in
    subst (λ (k' : CommandKind). AsksFor path query k' command) (sym same) (record { path_is = path_of_kind path k e; arguments = found })

pub asked : (path query : List ℕ) (command : Command) → command_in path query ≡ Ok command → AsksFor path query (kind_in command) command
unfolding command_in
asked path query command h = asked_at path query (kind_of path) refl command h

pub answered : (path query : List ℕ) (k : CommandKind) (command : Command) → AsksFor path query k command → command_in path query ≡ Ok command
unfolding command_in
answered path query k command h =
    ap (λ o. command_at o (mount_of query) query) (kind_of_path path k h.path_is)
    ∙ ap (λ o. ok_or o (MissingArgument k (mount_of query))) h.arguments

no_kind_at : (path query : List ℕ) (o : Option CommandKind) → kind_of path ≡ o → command_at o (mount_of query) query ≡ Err NoCommand → NamesNoCommand path
no_kind_at path query None e h = λ k same. let found : kind_of path ≡ Some k = kind_of_path path k same in cc
no_kind_at path query (Some k) e h =
    let other = err_from (command_of k (mount_of query) query) (MissingArgument k (mount_of query)) NoCommand h in
    let same : MissingArgument k (mount_of query) ≡ NoCommand = other.1 in absurd (cc)

pub no_kind : (path query : List ℕ) → command_in path query ≡ Err NoCommand → NamesNoCommand path
unfolding command_in
no_kind path query h = no_kind_at path query (kind_of path) refl h

none_at : (path query : List ℕ) (o : Option CommandKind) → kind_of path ≡ o → NamesNoCommand path → command_at o (mount_of query) query ≡ Err NoCommand
none_at path query None e h = refl
none_at path query (Some k) e h = absurd (h k (path_of_kind path k e))

pub no_command : (path query : List ℕ) → NamesNoCommand path → command_in path query ≡ Err NoCommand
unfolding command_in
no_command path query h = none_at path query (kind_of path) refl h

lacking_at : (path query : List ℕ) (o : Option CommandKind) → kind_of path ≡ o → (k : CommandKind) (mount : Option (List ℕ))
    → command_at o (mount_of query) query ≡ Err (MissingArgument k mount) → LacksAnArgument path query k mount
lacking_at path query None e k mount h = absurd (cc)
lacking_at path query (Some found) e k mount h =
    let lost = err_from (command_of found (mount_of query) query) (MissingArgument found (mount_of query)) (MissingArgument k mount) h in
    let none : command_of found (mount_of query) query ≡ None = lost.0 in
    let both_same : MissingArgument found (mount_of query) ≡ MissingArgument k mount = lost.1 in
    let kind_same : found ≡ k = cc in
    let mount_same : mount_of query ≡ mount = cc in
    record {
      path_is = path_of_kind path found e ∙ ap command_path kind_same;
      mount_is = sym mount_same;
      arguments = ap (λ m. command_of k m query) (sym mount_same) ∙ ap (λ k'. command_of k' (mount_of query) query) (sym kind_same) ∙ none;
    }

pub lacking : (path query : List ℕ) (k : CommandKind) (mount : Option (List ℕ)) → command_in path query ≡ Err (MissingArgument k mount) → LacksAnArgument path query k mount
unfolding command_in
lacking path query k mount h = lacking_at path query (kind_of path) refl k mount h

pub missing : (path query : List ℕ) (k : CommandKind) (mount : Option (List ℕ)) → LacksAnArgument path query k mount → command_in path query ≡ Err (MissingArgument k mount)
unfolding command_in
missing path query k mount h =
    ap (λ o. command_at o (mount_of query) query) (kind_of_path path k h.path_is)
    ∙ ap (λ m. command_at (Some k) m query) (sym h.mount_is)
    ∙ ap (λ o. ok_or o (MissingArgument k mount)) h.arguments

-- the first of a name among pairs that are decoded later is that among the decoded ones
decoded_at : (name : List ℕ) (pair : List ℕ × List ℕ) (b : Bool) (rest : Option (List ℕ × List ℕ)) (decoded : Option (List ℕ × List ℕ))
    → option_map (λ p. text_of p.1) rest ≡ option_map (λ p. utf8_lossy p.1) decoded
    → option_map (λ p. text_of p.1) (cond b (Some pair) rest)
    ≡ option_map (λ p. utf8_lossy p.1) (cond b (Some (decode pair.0, decode pair.1)) decoded)
unfolding text_of
decoded_at name pair true rest decoded e = refl
decoded_at name pair false rest decoded e = e

abbrev decoded_pairs : List (List ℕ × List ℕ) → List (List ℕ × List ℕ)
decoded_pairs pairs = map (λ (n, v). (decode n, decode v)) pairs

found_decoded : (name : List ℕ) (pairs : List (List ℕ × List ℕ))
    → option_map (λ pair. text_of pair.1) (find (is_argument_named name) pairs) ≡ first_value name (decoded_pairs pairs)
unfolding text_of
found_decoded name [] = refl
found_decoded name (pair ∷ pairs) =
    decoded_at name pair (is_argument_named name pair) (find (is_argument_named name) pairs) (find (λ p. bytes_eq (utf8_lossy p.0) name) (decoded_pairs pairs))
    (found_decoded name pairs)

pub first_written : (pairs : List (List ℕ × List ℕ)) (name : List ℕ) → All AreBytes pairs → argument name (extend_pairs [] pairs) ≡ first_value name pairs
unfolding argument
first_written pairs name small = found_decoded name (raw_pairs (extend_pairs [] pairs)) ∙ ap (first_value name) (round_trip pairs small)
