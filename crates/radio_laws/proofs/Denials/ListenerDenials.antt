-- why a listener is denied what it asks for, and at which mount of its walk
use Rattle.std.proofs.Common.{◌≡◌, inl, inr, Bool, true, false, ℕ, ◌<◌, ◌||◌, ◌&&◌, not, Option, Some, None, List, [], ◌∷◌, refl, ap, sym, subst, ◌∙◌, arith}
use Rattle.radio_laws.proofs.Words.{if◌then◌else◌, list_any, bytes_eq, bytes_eq-Decides, Credentials, Rule, BadMount, NoMount, NotLive, ListenerPassword, MountFull, UserTwice, FallbackDepth, listen_rows, verdict_in, Has}
use Rattle.radio_laws.proofs.Words.{Listener, WalkFinding, Seat, Seating, has_user, is_user_at, Landing, found_at, stop_of, stop_in, sits_already, ListenRequest, is_known, names_mount, rows_to_listen, sight_of, walks_to}
use Rattle.radio_laws.proofs.Words.{walk_stops, IsFullAt, SentUser, most_at, allows_duplicates_at, HasUserAt, ComesBy, AtFirst, World, found_by}
use Rattle.radio_policy.specs.declared.judgement.Verdict.TheVariants.{Deny as Denied}
use Rattle.radio_seats_rows.specs.declared.seat.Seating.TheVariants.{Sits as HasSeat, Finished as HasLostIt}
use Rattle.radio_laws.proofs.Seats.WalkLemmas.{full_at, both, WalkEnds, LandsThere, StopsThere, GoesTooFar, walk_ends}

-- the rule of names that are not known
abbrev is_of_names : Rule → Bool
is_of_names NoMount = true
is_of_names rule = false

-- why a listener is denied: by the path or name, by the mount that it asked for, or by the mount that stops its walk
pub data IsDeniedBy (known accepted twice : Bool) (stop : Option Rule) : Rule → Type 0 where
  ByPath : IsDeniedBy known accepted twice stop BadMount
  ByName : known ≡ false → IsDeniedBy known accepted twice stop NoMount
  ByPair : accepted ≡ false → IsDeniedBy known accepted twice stop ListenerPassword
  ByUser : twice ≡ true → IsDeniedBy known accepted twice stop UserTwice
  ByWalk : (rule : Rule) → stop ≡ Some rule → IsDeniedBy known accepted twice stop rule

as_rule : (known accepted twice : Bool) (stop : Option Rule) (a b : Rule) → a ≡ b → IsDeniedBy known accepted twice stop a
    → IsDeniedBy known accepted twice stop b
as_rule known accepted twice stop a b same by = subst (λ (r : Rule). IsDeniedBy known accepted twice stop r) same by

pub denied_listener : (named known accepted twice : Bool) (stop : Option Rule) (rule : Rule)
    → verdict_in (listen_rows (if named then Some (record { mount_is_known = known; users_accept = accepted; user_is_twice = twice; walk_stops = stop })
    else None)) ≡ Denied rule → IsDeniedBy known accepted twice stop rule
denied_listener false known accepted twice stop rule v = let same : BadMount ≡ rule = cc in as_rule known accepted twice stop BadMount rule same ByPath
denied_listener true false accepted twice stop rule v = let same : NoMount ≡ rule = cc in as_rule false accepted twice stop NoMount rule same (ByName refl)
denied_listener true true false twice stop rule v =
    let same : ListenerPassword ≡ rule = cc in as_rule true false twice stop ListenerPassword rule same (ByPair refl)
denied_listener true true true true stop rule v = let same : UserTwice ≡ rule = cc in as_rule true true true stop UserTwice rule same (ByUser refl)
denied_listener true true true false None rule v = cc
denied_listener true true true false (Some by) rule v =
    let same : by ≡ rule = cc in as_rule true true false (Some by) by rule same (ByWalk by refl)

-- what stops a walk at a mount: it is not live, or full, or does not let it in, or another has its user
pub data StopsBy (found : WalkFinding) : Rule → Type 0 where
  IsIdle : found.is_live ≡ false → StopsBy found NotLive
  IsFilled : found.is_full ≡ true → StopsBy found MountFull
  IsClosed : found.users_accept ≡ false → StopsBy found ListenerPassword
  IsTaken : found.user_is_twice ≡ true → StopsBy found UserTwice

stops_at : (found : WalkFinding) (a b : Rule) → a ≡ b → StopsBy found a → StopsBy found b
stops_at found a b same by = subst (λ (r : Rule). StopsBy found r) same by

stops_by : (found : WalkFinding) (live full accepted twice : Bool) → found.is_live ≡ live → found.is_full ≡ full → found.users_accept ≡ accepted
    → found.user_is_twice ≡ twice → (rule : Rule)
    → stop_of (record { is_live = live; is_full = full; users_accept = accepted; user_is_twice = twice }) ≡ Some rule → StopsBy found rule
stops_by found false full accepted twice l f a t rule e = let same : NotLive ≡ rule = cc in stops_at found NotLive rule same (IsIdle l)
stops_by found true true accepted twice l f a t rule e = let same : MountFull ≡ rule = cc in stops_at found MountFull rule same (IsFilled f)
stops_by found true false false twice l f a t rule e =
    let same : ListenerPassword ≡ rule = cc in stops_at found ListenerPassword rule same (IsClosed a)
stops_by found true false true true l f a t rule e = let same : UserTwice ≡ rule = cc in stops_at found UserTwice rule same (IsTaken t)
stops_by found true false true false l f a t rule e = cc

pub why_it_stops : (found : WalkFinding) (rule : Rule) → stop_of found ≡ Some rule → StopsBy found rule
why_it_stops found rule e = stops_by found found.is_live found.is_full found.users_accept found.user_is_twice refl refl refl refl rule e

-- no such rule stops a walk
not_a_stop : (found : WalkFinding) (rule : Rule) → StopsBy found rule → (meant : Rule → Bool) → meant NotLive ≡ false → meant MountFull ≡ false
    → meant ListenerPassword ≡ false → meant UserTwice ≡ false → meant rule ≡ true → ⊥
not_a_stop found rule (IsIdle e) meant a b c d is = cc
not_a_stop found rule (IsFilled e) meant a b c d is = cc
not_a_stop found rule (IsClosed e) meant a b c d is = cc
not_a_stop found rule (IsTaken e) meant a b c d is = cc

-- somebody sits there who sent the user
any_at : {X : Type 0} (p : X → Bool) (x : X) (xs : List X) (b : Bool) → p x ≡ b → (b || list_any p xs) ≡ true
    → (list_any p xs ≡ true → (y : X) × Has y xs × (p y ≡ true)) → (y : X) × Has y (x ∷ xs) × (p y ≡ true)
any_at p x xs true e some later = (x, inl refl, e)
any_at p x xs false e some later = let found = later some in (found.0, inr found.1, found.2)

pub some_one : {X : Type 0} (p : X → Bool) (xs : List X) → list_any p xs ≡ true → (y : X) × Has y xs × (p y ≡ true)
some_one p [] some = cc
some_one p (x ∷ xs) some = any_at p x xs (p x) refl some (some_one p xs)

sent_by : (user : List ℕ) (pair : Option Credentials) → has_user user pair ≡ true → SentUser user pair
sent_by user None e = cc
sent_by user (Some sent) e = (sent, refl, (bytes_eq-Decides sent.user user).0 e)

pub seat_there : (mount user : List ℕ) (seating : Seating) → is_user_at mount user seating ≡ true
    → (seat : Seat) × (seating ≡ HasSeat seat) × (seat.mount ≡ mount) × SentUser user seat.pair
seat_there mount user (HasSeat seat) e =
    let is = both (bytes_eq seat.mount mount) (has_user user seat.pair) e in
    (seat, refl, (bytes_eq-Decides seat.mount mount).0 is.0, sent_by user seat.pair is.1)
seat_there mount user (HasLostIt rule last) e = cc

pub there_already : (w : World) (mount : List ℕ) (pair : Option Credentials) (allows : Bool) → allows_duplicates_at w mount ≡ allows
    → (not allows && sits_already w.seats mount pair) ≡ true → HasUserAt w mount pair
there_already w mount pair true once is = cc
there_already w mount None false once is = cc
there_already w mount (Some sent) false once is =
    let found = some_one (λ (x : Listener). is_user_at mount sent.user x.seating) w.seats is in
    let there = seat_there mount sent.user found.0.seating found.2 in
    record {
      once = once;
      user = sent.user;
      sent = (sent, refl, refl);
      listener = found.0;
      is_one = found.1;
      seat = there.0;
      sits = there.1;
      at_the_mount = there.2;
      his_user = there.3;
    }

-- of a listener who is denied
module _ (w : World) (asked : ListenRequest) where
  abbrev found_first : WalkFinding
  found_first = found_by w asked

  abbrev Why : Rule → Type 0
  Why rule = IsDeniedBy (is_known w.station asked.mount) found_first.users_accept found_first.user_is_twice
      (walk_stops w.station w.seats asked.mount asked.pair) rule

  pub why_denied : (rule : Rule) → verdict_in (rows_to_listen w asked) ≡ Denied rule → Why rule
  why_denied rule v =
      denied_listener (names_mount w.station.settings asked.mount) (is_known w.station asked.mount) found_first.users_accept found_first.user_is_twice
      (walk_stops w.station w.seats asked.mount asked.pair) rule v

  -- a rule that stops neither a walk nor a listener denies none
  not_by_walk : (l : Landing) → WalkEnds w asked.pair asked.mount 10 l → (rule : Rule) → stop_in l ≡ Some rule → (meant : Rule → Bool)
      → meant NotLive ≡ false → meant MountFull ≡ false → meant ListenerPassword ≡ false → meant UserTwice ≡ false → meant FallbackDepth ≡ false
      → meant rule ≡ true → ⊥
  not_by_walk l (LandsThere steps to low comes none) rule e meant a b c d f is = cc
  not_by_walk l (StopsThere steps mount by low comes stops) rule e meant a b c d f is =
      let same : by ≡ rule = cc in
      not_a_stop (found_at (sight_of w.station) w.seats mount asked.pair) by (why_it_stops (found_at (sight_of w.station) w.seats mount asked.pair) by stops)
      meant a b c d (ap meant same ∙ is)
  not_by_walk l (GoesTooFar mount comes) rule e meant a b c d f is = let same : FallbackDepth ≡ rule = cc in let also : meant rule ≡ false = ap meant (sym same) ∙ f in cc

  pub denies_none : (rule : Rule) → Why rule → (meant : Rule → Bool) → meant BadMount ≡ false → meant NoMount ≡ false → meant NotLive ≡ false
      → meant MountFull ≡ false → meant ListenerPassword ≡ false → meant UserTwice ≡ false → meant FallbackDepth ≡ false → meant rule ≡ true → ⊥
  denies_none rule ByPath meant p n a b c d f is = cc
  denies_none rule (ByName e) meant p n a b c d f is = cc
  denies_none rule (ByPair e) meant p n a b c d f is = cc
  denies_none rule (ByUser e) meant p n a b c d f is = cc
  denies_none rule (ByWalk by e) meant p n a b c d f is =
      not_by_walk (walks_to w.station w.seats asked.mount asked.pair) (walk_ends w asked.pair asked.mount) by e meant a b c d f is

  -- a mount of the walk that is such
  abbrev AtAMount : (List ℕ → Type 0) → Type 0
  AtAMount P = (steps : ℕ) × (mount : List ℕ) × (steps < 10) × ComesBy w asked.mount steps mount × P mount

  full_by_walk : (l : Landing) → WalkEnds w asked.pair asked.mount 10 l → stop_in l ≡ Some MountFull → AtAMount (IsFullAt w)
  full_by_walk l (LandsThere steps to low comes none) e = cc
  full_by_walk l (StopsThere steps mount by low comes stops) e =
      let same : by ≡ MountFull = cc in
      (steps, mount, low, comes, is_filled mount by (why_it_stops (found_at (sight_of w.station) w.seats mount asked.pair) by stops) same) where
        is_filled : (mount : List ℕ) (by : Rule) → StopsBy (found_at (sight_of w.station) w.seats mount asked.pair) by → by ≡ MountFull → IsFullAt w mount
        is_filled mount by (IsFilled f) same = full_at w mount (most_at w mount) refl f
        is_filled mount by (IsIdle f) same = cc
        is_filled mount by (IsClosed f) same = cc
        is_filled mount by (IsTaken f) same = cc
  full_by_walk l (GoesTooFar mount comes) e = cc

  twice_by_walk : (l : Landing) → WalkEnds w asked.pair asked.mount 10 l → stop_in l ≡ Some UserTwice → AtAMount (λ mount. HasUserAt w mount asked.pair)
  twice_by_walk l (LandsThere steps to low comes none) e = cc
  twice_by_walk l (StopsThere steps mount by low comes stops) e =
      let same : by ≡ UserTwice = cc in
      (steps, mount, low, comes, is_taken mount by (why_it_stops (found_at (sight_of w.station) w.seats mount asked.pair) by stops) same) where
        is_taken : (mount : List ℕ) (by : Rule) → StopsBy (found_at (sight_of w.station) w.seats mount asked.pair) by → by ≡ UserTwice
            → HasUserAt w mount asked.pair
        is_taken mount by (IsTaken t) same = there_already w mount asked.pair (allows_duplicates_at w mount) refl t
        is_taken mount by (IsIdle t) same = cc
        is_taken mount by (IsFilled t) same = cc
        is_taken mount by (IsClosed t) same = cc
  twice_by_walk l (GoesTooFar mount comes) e = cc

  deep_by_walk : (l : Landing) → WalkEnds w asked.pair asked.mount 10 l → stop_in l ≡ Some FallbackDepth → (mount : List ℕ) × ComesBy w asked.mount 10 mount
  deep_by_walk l (LandsThere steps to low comes none) e = cc
  deep_by_walk l (StopsThere steps mount by low comes stops) e =
      let same : by ≡ FallbackDepth = cc in
      absurd (never_deep (found_at (sight_of w.station) w.seats mount asked.pair) by (why_it_stops (found_at (sight_of w.station) w.seats mount asked.pair) by stops) same) where
        never_deep : (found : WalkFinding) (by : Rule) → StopsBy found by → by ≡ FallbackDepth → ⊥
        never_deep found by (IsIdle t) same = cc
        never_deep found by (IsFilled t) same = cc
        never_deep found by (IsClosed t) same = cc
        never_deep found by (IsTaken t) same = cc
  deep_by_walk l (GoesTooFar mount comes) e = (mount, comes)

  pub unknown_where : Why NoMount → is_known w.station asked.mount ≡ false
  unknown_where why = by_why NoMount why refl where
    by_why : (rule : Rule) → Why rule → rule ≡ NoMount → is_known w.station asked.mount ≡ false
    by_why rule ByPath same = cc
    by_why rule (ByName e) same = e
    by_why rule (ByPair e) same = cc
    by_why rule (ByUser e) same = cc
    by_why rule (ByWalk by e) same =
        absurd (not_by_walk (walks_to w.station w.seats asked.mount asked.pair) (walk_ends w asked.pair asked.mount) by e is_of_names refl refl refl refl refl
        (ap is_of_names same))

  pub full_where : Why MountFull → AtAMount (IsFullAt w)
  full_where why = by_why MountFull why refl where
    by_why : (rule : Rule) → Why rule → rule ≡ MountFull → AtAMount (IsFullAt w)
    by_why rule ByPath same = cc
    by_why rule (ByName e) same = cc
    by_why rule (ByPair e) same = cc
    by_why rule (ByUser e) same = cc
    by_why rule (ByWalk by e) same =
        full_by_walk (walks_to w.station w.seats asked.mount asked.pair) (walk_ends w asked.pair asked.mount) (e ∙ ap (λ (r : Rule). Some r) same)

  pub twice_where : Why UserTwice → AtAMount (λ mount. HasUserAt w mount asked.pair)
  twice_where why = by_why UserTwice why refl where
    by_why : (rule : Rule) → Why rule → rule ≡ UserTwice → AtAMount (λ mount. HasUserAt w mount asked.pair)
    by_why rule ByPath same = cc
    by_why rule (ByName e) same = cc
    by_why rule (ByPair e) same = cc
    by_why rule (ByUser e) same =
        (0, asked.mount, omega arith, AtFirst, there_already w asked.mount asked.pair (allows_duplicates_at w asked.mount) refl e)
    by_why rule (ByWalk by e) same =
        twice_by_walk (walks_to w.station w.seats asked.mount asked.pair) (walk_ends w asked.pair asked.mount) (e ∙ ap (λ (r : Rule). Some r) same)

  pub deep_where : Why FallbackDepth → (mount : List ℕ) × ComesBy w asked.mount 10 mount
  deep_where why = by_why FallbackDepth why refl where
    by_why : (rule : Rule) → Why rule → rule ≡ FallbackDepth → (mount : List ℕ) × ComesBy w asked.mount 10 mount
    by_why rule ByPath same = cc
    by_why rule (ByName e) same = cc
    by_why rule (ByPair e) same = cc
    by_why rule (ByUser e) same = cc
    by_why rule (ByWalk by e) same =
        deep_by_walk (walks_to w.station w.seats asked.mount asked.pair) (walk_ends w asked.pair asked.mount) (e ∙ ap (λ (r : Rule). Some r) same)
