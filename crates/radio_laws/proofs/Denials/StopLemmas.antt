-- a walk is stopped by the first of four rules that holds at a mount
use Rattle.std.proofs.Common.{◌≡◌, Bool, true, false, ℕ, Option, Some, None, is_some, List, length, refl, sym, subst, ◌∙◌, arith}
use Rattle.radio_laws.proofs.Words.{if◌then◌else◌, nat_tests, Credentials, Rule, BadMount, NoMount, NotLive, MountFull, ListenerPassword, UserTwice, FallbackDepth, listen_rows, verdict_in, lets_in, seats_at, Landing}
use Rattle.radio_laws.proofs.Words.{is_full, is_full_for, is_twice_for, found_at, stop_of, stop_in, Listen, ListenRequest, Session, outcome, reply_to, rule_named, is_known, names_mount, sight_of, walks_to, walk_stops}
use Rattle.radio_laws.proofs.Words.{heard_at, World, IsFullAt, most_at, allows_duplicates_at}
use Rattle.radio_policy.specs.declared.judgement.Verdict.TheVariants.{Deny as Denied}
use Rattle.radio_laws.specs.WalkDenials.{HasRoomAt, StopsAt, HasNoSource, IsFull, IsClosed, IsTaken, WalksAreStoppedInOrder}
use Rattle.radio_laws.specs.WalkDenials.{IsTurnedAway, ByPath, ByName, ByPair, ByUser, OnItsWay, TooFar}
use Rattle.radio_laws.proofs.Denials.LimitDenials.{denied_by}
use Rattle.radio_laws.proofs.Denials.ListenerDenials.{there_already}
use Rattle.radio_laws.proofs.Seats.WalkLemmas.{full_at, none_there, WalkEnds, LandsThere, StopsThere, GoesTooFar, walk_ends}

not_full_at : (w : World) (mount : List ℕ) (limit : Option ℕ) → most_at w mount ≡ limit → is_full (length (seats_at w.seats mount)) limit ≡ false
    → IsFullAt w mount → ⊥
not_full_at w mount None limited room full = let some : None ≡ Some full.most = sym limited ∙ full.limited in cc
not_full_at w mount (Some most) limited room full =
    let some : Some most ≡ Some full.most = sym limited ∙ full.limited in let same : most ≡ full.most = cc in let many = full.reached in grind (arith, nat_tests)

some_there : (found : Option Session) → is_some found ≡ true → (session : Session) × (found ≡ Some session)
some_there None e = cc
some_there (Some session) e = (session, refl)

module _ (w : World) where
  -- what stops a walk at this mount
  module _ (pair : Option Credentials) (mount : List ℕ) where
    as_rule : (a b : Rule) → a ≡ b → StopsAt w pair mount a → StopsAt w pair mount b
    as_rule a b same stops = subst (λ (r : Rule). StopsAt w pair mount r) same stops

    has_room : is_some (heard_at w.station mount) ≡ true → is_full_for (sight_of w.station) w.seats mount ≡ false → HasRoomAt w mount
    has_room live room = let there = some_there (heard_at w.station mount) live in
        record { session = there.0; is_heard = there.1; not_full = not_full_at w mount (most_at w mount) refl room }

    stops_by : (live full accepted twice : Bool) → is_some (heard_at w.station mount) ≡ live → is_full_for (sight_of w.station) w.seats mount ≡ full
        → lets_in w.station.lists mount pair ≡ accepted → is_twice_for (sight_of w.station) w.seats pair mount ≡ twice → (rule : Rule)
        → stop_of (record { is_live = live; is_full = full; users_accept = accepted; user_is_twice = twice }) ≡ Some rule → StopsAt w pair mount rule
    stops_by false full accepted twice l f a t rule e =
        let same : NotLive ≡ rule = cc in as_rule NotLive rule same (HasNoSource (none_there (heard_at w.station mount) l))
    stops_by true true accepted twice l f a t rule e =
        let same : MountFull ≡ rule = cc in let there = some_there (heard_at w.station mount) l in
        as_rule MountFull rule same (IsFull there.0 there.1 (full_at w mount (most_at w mount) refl f))
    stops_by true false false twice l f a t rule e =
        let same : ListenerPassword ≡ rule = cc in as_rule ListenerPassword rule same (IsClosed (has_room l f) a)
    stops_by true false true true l f a t rule e =
        let same : UserTwice ≡ rule = cc in
        as_rule UserTwice rule same (IsTaken (has_room l f) a (there_already w mount pair (allows_duplicates_at w mount) refl t))
    stops_by true false true false l f a t rule e = cc

    stops_at : (rule : Rule) → stop_of (found_at (sight_of w.station) w.seats mount pair) ≡ Some rule → StopsAt w pair mount rule
    stops_at rule e =
        stops_by (is_some (heard_at w.station mount)) (is_full_for (sight_of w.station) w.seats mount) (lets_in w.station.lists mount pair)
        (is_twice_for (sight_of w.station) w.seats pair mount) refl refl refl refl rule e

  -- a listener is denied first by the path and the name, then by the mount that it asked for, and then by its walk
  module _ (asked : ListenRequest) where
    same_rule : (a b : Rule) → a ≡ b → IsTurnedAway w asked a → IsTurnedAway w asked b
    same_rule a b same away = subst (λ (r : Rule). IsTurnedAway w asked r) same away

    by_walk : lets_in w.station.lists asked.mount asked.pair ≡ true → (l : Landing) → WalkEnds w asked.pair asked.mount 10 l → (rule : Rule)
        → stop_in l ≡ Some rule → IsTurnedAway w asked rule
    by_walk a l (LandsThere steps to low comes none) rule e = cc
    by_walk a l (StopsThere steps mount by low comes stops) rule e =
        let same : by ≡ rule = cc in same_rule by rule same (OnItsWay by steps mount a low comes (stops_at asked.pair mount by stops))
    by_walk a l (GoesTooFar mount comes) rule e = let same : FallbackDepth ≡ rule = cc in same_rule FallbackDepth rule same (TooFar mount a comes)

    turned_away : (named known accepted twice : Bool) → lets_in w.station.lists asked.mount asked.pair ≡ accepted
        → is_twice_for (sight_of w.station) w.seats asked.pair asked.mount ≡ twice → (stop : Option Rule)
        → walk_stops w.station w.seats asked.mount asked.pair ≡ stop → (rule : Rule) → verdict_in (listen_rows (if named
        then Some (record { mount_is_known = known; users_accept = accepted; user_is_twice = twice; walk_stops = stop }) else None)) ≡ Denied rule
        → IsTurnedAway w asked rule
    turned_away false known accepted twice a t stop s rule v = let same : BadMount ≡ rule = cc in same_rule BadMount rule same ByPath
    turned_away true false accepted twice a t stop s rule v = let same : NoMount ≡ rule = cc in same_rule NoMount rule same ByName
    turned_away true true false twice a t stop s rule v = let same : ListenerPassword ≡ rule = cc in same_rule ListenerPassword rule same (ByPair a)
    turned_away true true true true a t stop s rule v =
        let same : UserTwice ≡ rule = cc in
        same_rule UserTwice rule same (ByUser a (there_already w asked.mount asked.pair (allows_duplicates_at w asked.mount) refl t))
    turned_away true true true false a t None s rule v = cc
    turned_away true true true false a t (Some by) s rule v =
        let same : by ≡ rule = cc in
        same_rule by rule same (by_walk a (walks_to w.station w.seats asked.mount asked.pair) (walk_ends w asked.pair asked.mount) by s)

  pub stopped_in_order : (asked : ListenRequest) → WalksAreStoppedInOrder w asked
  unfolding reply_to
  stopped_in_order asked rule d =
      denied_by w rule (Listen asked) (outcome w (Listen asked)) (rule_named w (Listen asked)) d (λ v.
      turned_away asked (names_mount w.station.settings asked.mount) (is_known w.station asked.mount) (lets_in w.station.lists asked.mount asked.pair)
      (is_twice_for (sight_of w.station) w.seats asked.pair asked.mount) refl refl (walk_stops w.station w.seats asked.mount asked.pair) refl rule v)
