-- what is looked up in states that agree within reach
use Rattle.std.proofs.Common.{◌≡◌, ◌⊎◌, inl, inr, Bool, true, false, ℕ, ◌==◌, Option, Some, None, List, not, refl, ap, sym, subst, ◌∙◌}
use Rattle.radio_laws.proofs.Words.{map, is_some, length, if◌then◌else◌, option_map, nat_cmp, slice_cmp, bytes_eq, bytes_eq-Decides, found_passes, Rule, Listener, Seat, Seating, Finished, is_listener, listener_of}
use Rattle.radio_laws.proofs.Words.{seat_of, seat_in, seat_held, by_listener, seated, with_seat, advanced, with_place, moved, with_move, loses, with_end, hears_session, in_session_at, with_session_at, lost_by, ended_if}
use Rattle.radio_laws.proofs.Words.{heard_to, finished_if, with_ended, is_seat_at, without_listener, seats_at, count_at, is_user_at, sits_there, last_mount, last_mount_of, guest_at, guests_at, Session, is_of, session_of}
use Rattle.radio_laws.proofs.Words.{by_mount, with_session, longer, fed, with_title, titled, without_session, longer_kept, kept_fed, SessionsAgree, SameSession, FedBeyond, ListenersAgree, SameListener, LastBeyond, IsAll}
use Rattle.radio_laws.proofs.Words.{AllAgree, Lists, how_many, holds_of, is_shut_out}
use Rattle.radio_seats_rows.specs.declared.seat.Seating.TheVariants.{Sits}
use Rattle.radio_laws.proofs.Locality.AgreeingLists.{FoundAgree, NoneFound, BothFound, agree_length, agree_equal, agree_mapped, agree_kept, agree_any, agree_filtered, agree_found}
use Rattle.radio_laws.proofs.Locality.AgreeingLists.{agree_updated, agree_picked, agree_each, agree_placed}

module _ (within : List ℕ → Bool) where
  -- what is beyond reach is at no mount within it
  pub beyond : (here mount : List ℕ) → within here ≡ false → within mount ≡ true → bytes_eq here mount ≡ false
  beyond here mount out there = by_test (bytes_eq here mount) refl where
    by_test : (b : Bool) → bytes_eq here mount ≡ b → b ≡ false
    by_test false e = refl
    by_test true e = let same : here ≡ mount = (bytes_eq-Decides here mount).0 e in let clash : within mount ≡ false = ap within (sym same) ∙ out in cc

  -- and no listener beyond reach is shut out of a mount within it
  pub none_out : (lists : Lists) (mount : List ℕ) (seat : Seat) → within seat.mount ≡ false → within mount ≡ true → is_shut_out lists mount seat ≡ false
  none_out lists mount seat out there = rw (beyond seat.mount mount out there) refl

  -- sessions

  same_mount : (a b : Session) → SessionsAgree within a b → a.mount ≡ b.mount
  same_mount a b (SameSession same) = ap (λ (s : Session). s.mount) same
  same_mount a b (FedBeyond mount number out) = mount

  of_alike : (mount : List ℕ) (a b : Session) → SessionsAgree within a b → is_of mount a ≡ is_of mount b
  of_alike mount a b r = ap (λ m. bytes_eq m mount) (same_mount a b r)

  abbrev pub SessionsDo : List Session → List Session → Type 0
  SessionsDo xs ys = AllAgree (SessionsAgree within) xs ys

  module _ (xs ys : List Session) (r : SessionsDo xs ys) where
    pub as_many_live : length xs ≡ length ys
    as_many_live = agree_length (SessionsAgree within) xs ys r

    pub live_alike : (mount : List ℕ) → is_some (session_of xs mount) ≡ is_some (session_of ys mount)
    live_alike mount = by_found (session_of xs mount) (session_of ys mount) (agree_found (SessionsAgree within) (is_of mount) (of_alike mount) xs ys r) where
      by_found : (one other : Option Session) → FoundAgree (SessionsAgree within) one other → is_some one ≡ is_some other
      by_found _ _ NoneFound = refl
      by_found _ _ (BothFound a b agree) = refl

    pub session_alike : (mount : List ℕ) → within mount ≡ true → session_of xs mount ≡ session_of ys mount
    session_alike mount there =
        by_found (session_of xs mount) (session_of ys mount) (agree_found (SessionsAgree within) (is_of mount) (of_alike mount) xs ys r) refl where
          by_found : (one other : Option Session) → FoundAgree (SessionsAgree within) one other → session_of xs mount ≡ one → one ≡ other
          by_found _ _ NoneFound e = refl
          by_found _ _ (BothFound a b (SameSession same)) e = ap Some same
          by_found _ _ (BothFound a b (FedBeyond name number out)) e =
              let here = found_passes (is_of mount) xs a e in let away = beyond a.mount mount out there in cc

    pub with_session_alike : (session : Session) → SessionsDo (with_session xs session) (with_session ys session)
    with_session_alike session =
        agree_placed (SessionsAgree within) by_mount session (SameSession refl) (λ a b agree. ap (slice_cmp nat_cmp session.mount) (same_mount a b agree)) xs ys r

    pub without_session_alike : (mount : List ℕ) → SessionsDo (without_session xs mount) (without_session ys mount)
    without_session_alike mount = agree_filtered (SessionsAgree within) (λ session. not (is_of mount session)) (λ a b agree. ap not (of_alike mount a b agree)) xs ys r

    -- a session changes: within reach in both alike, and beyond it each stays one of its mount and source
    module _ (f : Session → Session) (same_name : (a : Session) → (f a).mount ≡ a.mount) (same_source : (a : Session) → (f a).number ≡ a.number) where
      changed_alike : (a b : Session) → SessionsAgree within a b → SessionsAgree within (f a) (f b)
      changed_alike a b (SameSession same) = SameSession (ap f same)
      changed_alike a b (FedBeyond mount number out) =
          FedBeyond (same_name a ∙ mount ∙ sym (same_name b)) (same_source a ∙ number ∙ sym (same_source b)) (ap within (same_name a) ∙ out)

    pub fed_alike : (mount block : List ℕ) (moment : ℕ) → SessionsDo (fed xs mount block moment) (fed ys mount block moment)
    fed_alike mount block moment =
        agree_updated (SessionsAgree within) (is_of mount) (of_alike mount) (longer block moment) xs ys
        (λ a b agree found. changed_alike (longer block moment) (λ s. refl) (λ s. refl) a b agree) r

    -- where of each stream the last blocks are kept
    pub kept_fed_alike : (limit : ℕ) (mount block : List ℕ) (moment : ℕ) → SessionsDo (kept_fed limit xs mount block moment) (kept_fed limit ys mount block moment)
    kept_fed_alike limit mount block moment =
        agree_updated (SessionsAgree within) (is_of mount) (of_alike mount) (longer_kept limit block moment) xs ys
        (λ a b agree found. changed_alike (longer_kept limit block moment) (λ s. refl) (λ s. refl) a b agree) r

    pub titled_alike : (mount title : List ℕ) → SessionsDo (titled xs mount title) (titled ys mount title)
    titled_alike mount title =
        agree_updated (SessionsAgree within) (is_of mount) (of_alike mount) (with_title (Some title)) xs ys
        (λ a b agree found. changed_alike (with_title (Some title)) (λ s. refl) (λ s. refl) a b agree) r

    pub all_sessions : IsAll within → xs ≡ ys
    all_sessions all = agree_equal (SessionsAgree within) one xs ys r where
      one : (a b : Session) → SessionsAgree within a b → a ≡ b
      one a b (SameSession same) = same
      one a b (FedBeyond mount number out) = let there = all a.mount in cc

  -- listeners

  same_id : (a b : Listener) → ListenersAgree within a b → a.id ≡ b.id
  same_id a b (SameListener same) = ap (λ (l : Listener). l.id) same
  same_id a b (LastBeyond id out away) = id

  is_alike : (id : ℕ) (a b : Listener) → ListenersAgree within a b → is_listener id a ≡ is_listener id b
  is_alike id a b r = ap (λ n. n == id) (same_id a b r)

  abbrev pub ListenersDo : List Listener → List Listener → Type 0
  ListenersDo xs ys = AllAgree (ListenersAgree within) xs ys

  -- the seat is beyond reach, if there is one
  abbrev pub IsBeyond : Option Seat → Type 0
  IsBeyond None = Unit {0}
  IsBeyond (Some seat) = within seat.mount ≡ false

  -- two seats are one, or neither is within reach
  pub data SeatsAgree : Option Seat → Option Seat → Type 0 where
    SameSeat : (seat : Option Seat) → SeatsAgree seat seat
    BothBeyond : (one other : Option Seat) → IsBeyond one → IsBeyond other → SeatsAgree one other

  -- a listener that sits beyond reach, or sat there last, has no seat within it
  held_beyond : (seating : Seating) → within (last_mount seating) ≡ false → IsBeyond (seat_held seating)
  held_beyond (Sits seat) out = out
  held_beyond (Finished rule mount) out = tt

  module _ (xs ys : List Listener) (r : ListenersDo xs ys) where
    pub numbers_alike : map (λ (l : Listener). l.id) xs ≡ map (λ (l : Listener). l.id) ys
    numbers_alike = agree_mapped (ListenersAgree within) (λ (l : Listener). l.id) same_id xs ys r

    pub found_alike : (id : ℕ) → FoundAgree (ListenersAgree within) (listener_of xs id) (listener_of ys id)
    found_alike id = agree_found (ListenersAgree within) (is_listener id) (is_alike id) xs ys r

    pub seat_alike : (id : ℕ) → SeatsAgree (seat_of xs id) (seat_of ys id)
    seat_alike id = by_found (listener_of xs id) (listener_of ys id) (found_alike id) where
      by_found : (one other : Option Listener) → FoundAgree (ListenersAgree within) one other → SeatsAgree (seat_in one) (seat_in other)
      by_found _ _ NoneFound = SameSeat None
      by_found _ _ (BothFound a b (SameListener same)) = subst (λ (l : Listener). SeatsAgree (seat_held a.seating) (seat_held l.seating)) same (SameSeat (seat_held a.seating))
      by_found _ _ (BothFound a b (LastBeyond id out away)) =
          BothBeyond (seat_held a.seating) (seat_held b.seating) (held_beyond a.seating out) (held_beyond b.seating away)

    -- a listener that sits within reach, or sat there last, is the same
    pub listener_same : (id : ℕ) → ((mount : List ℕ) → last_mount_of ys id ≡ Some mount → within mount ≡ true) → listener_of xs id ≡ listener_of ys id
    listener_same id near = by_found (listener_of xs id) (listener_of ys id) (found_alike id) refl where
      by_found : (one other : Option Listener) → FoundAgree (ListenersAgree within) one other → listener_of ys id ≡ other → one ≡ other
      by_found _ _ NoneFound e = refl
      by_found _ _ (BothFound a b (SameListener same)) e = ap Some same
      by_found _ _ (BothFound a b (LastBeyond same out away)) e =
          let there : within (last_mount b.seating) ≡ true = near (last_mount b.seating) (ap (option_map (λ (l : Listener). last_mount l.seating)) e) in cc

    -- tests of the listeners at a mount within reach
    module _ (mount : List ℕ) (there : within mount ≡ true) where
      not_there : (seating : Seating) → within (last_mount seating) ≡ false → is_seat_at mount seating ≡ false
      not_there (Sits seat) out = beyond seat.mount mount out there
      not_there (Finished rule last) out = refl

      at_alike : (a b : Listener) → ListenersAgree within a b → (a ≡ b) ⊎ ((is_seat_at mount a.seating ≡ false) × (is_seat_at mount b.seating ≡ false))
      at_alike a b (SameListener same) = inl same
      at_alike a b (LastBeyond id out away) = inr (not_there a.seating out, not_there b.seating away)

      pub seats_alike : seats_at xs mount ≡ seats_at ys mount
      seats_alike = agree_picked (ListenersAgree within) (λ (l : Listener). is_seat_at mount l.seating) at_alike xs ys r

      pub count_alike : count_at xs mount ≡ count_at ys mount
      count_alike = ap length seats_alike

      no_user : (user : List ℕ) (seating : Seating) → within (last_mount seating) ≡ false → is_user_at mount user seating ≡ false
      no_user user (Sits seat) out = rw (beyond seat.mount mount out there) refl
      no_user user (Finished rule last) out = refl

      user_alike : (user : List ℕ) (a b : Listener) → ListenersAgree within a b → is_user_at mount user a.seating ≡ is_user_at mount user b.seating
      user_alike user a b (SameListener same) = ap (λ (l : Listener). is_user_at mount user l.seating) same
      user_alike user a b (LastBeyond id out away) = no_user user a.seating out ∙ sym (no_user user b.seating away)

      pub sits_alike : (user : List ℕ) → sits_there xs mount user ≡ sits_there ys mount user
      sits_alike user = agree_any (ListenersAgree within) (λ (l : Listener). is_user_at mount user l.seating) (user_alike user) xs ys r

      no_guest : (id : ℕ) (seating : Seating) → within (last_mount seating) ≡ false → guest_at mount (record { id = id; seating = seating }) ≡ None
      no_guest id (Sits seat) out = rw (beyond seat.mount mount out there) refl
      no_guest id (Finished rule last) out = refl

      guest_alike : (a b : Listener) → ListenersAgree within a b → guest_at mount a ≡ guest_at mount b
      guest_alike a b (SameListener same) = ap (guest_at mount) same
      guest_alike a b (LastBeyond id out away) = no_guest a.id a.seating out ∙ sym (no_guest b.id b.seating away)

      pub guests_alike : guests_at xs mount ≡ guests_at ys mount
      guests_alike = agree_kept (ListenersAgree within) (guest_at mount) guest_alike xs ys r

    pub with_seat_alike : (id : ℕ) (seat : Seat) → ListenersDo (with_seat xs id seat) (with_seat ys id seat)
    with_seat_alike id seat =
        agree_placed (ListenersAgree within) by_listener (seated id seat) (SameListener refl) (λ a b agree. ap (nat_cmp id) (same_id a b agree)) xs ys r

    pub without_alike : (id : ℕ) → ListenersDo (without_listener xs id) (without_listener ys id)
    without_alike id = agree_filtered (ListenersAgree within) (λ l. not (is_listener id l)) (λ a b agree. ap not (is_alike id a b agree)) xs ys r

    -- its place moves on, wherever it sits
    heard_last : (place : ℕ) (seating : Seating) → last_mount (heard_to place seating) ≡ last_mount seating
    heard_last place (Sits seat) = refl
    heard_last place (Finished rule mount) = refl

    heard_alike : (place : ℕ) (a b : Listener) → ListenersAgree within a b → ListenersAgree within (advanced place a) (advanced place b)
    heard_alike place a b (SameListener same) = SameListener (ap (advanced place) same)
    heard_alike place a b (LastBeyond id out away) =
        LastBeyond id (ap within (heard_last place a.seating) ∙ out) (ap within (heard_last place b.seating) ∙ away)

    pub with_place_alike : (id place : ℕ) → ListenersDo (with_place xs id place) (with_place ys id place)
    with_place_alike id place =
        agree_updated (ListenersAgree within) (is_listener id) (is_alike id) (advanced place) xs ys (λ a b agree found. heard_alike place a b agree) r

    -- if something holds of no seat beyond reach, it holds of equally many seats in both states
    module _ (p : Seat → Bool) (none : (seat : Seat) → within seat.mount ≡ false → p seat ≡ false) where
      holds_not : (seating : Seating) → within (last_mount seating) ≡ false → holds_of p seating ≡ false
      holds_not (Sits seat) out = none seat out
      holds_not (Finished rule mount) out = refl

      holds_alike : (a b : Listener) → ListenersAgree within a b → (a ≡ b) ⊎ ((holds_of p a.seating ≡ false) × (holds_of p b.seating ≡ false))
      holds_alike a b (SameListener same) = inl same
      holds_alike a b (LastBeyond id out away) = inr (holds_not a.seating out, holds_not b.seating away)

      pub how_many_alike : how_many p xs ≡ how_many p ys
      how_many_alike = ap length (agree_picked (ListenersAgree within) (λ (l : Listener). holds_of p l.seating) holds_alike xs ys r)

    -- seats of which something holds are lost, and it holds of none beyond reach
    module _ (p : Seat → Bool) (rule : Rule) (none : (seat : Seat) → within seat.mount ≡ false → p seat ≡ false) where
      lost_last : (seating : Seating) → last_mount (lost_by rule seating) ≡ last_mount seating
      lost_last (Sits seat) = refl
      lost_last (Finished by mount) = refl

      ended_last_at : (b : Bool) (seating : Seating) → last_mount (if b then lost_by rule seating else seating) ≡ last_mount seating
      ended_last_at true seating = lost_last seating
      ended_last_at false seating = refl

      ended_last : (seating : Seating) → last_mount (ended_if p rule seating) ≡ last_mount seating
      ended_last seating = ended_last_at (holds_of p seating) seating

      ended_alike : (a b : Listener) → ListenersAgree within a b → ListenersAgree within (finished_if p rule a) (finished_if p rule b)
      ended_alike a b (SameListener same) = SameListener (ap (finished_if p rule) same)
      ended_alike a b (LastBeyond id out away) =
          LastBeyond id (ap within (ended_last a.seating) ∙ out) (ap within (ended_last b.seating) ∙ away)

      pub with_ended_alike : ListenersDo (with_ended xs p rule) (with_ended ys p rule)
      with_ended_alike = agree_each (ListenersAgree within) (finished_if p rule) ended_alike xs ys r

    -- all listeners at a mount draw a session that has begun there
    module _ (mount : List ℕ) (session : ℕ) where
      hearing_last : (seating : Seating) → last_mount (in_session_at mount session seating) ≡ last_mount seating
      hearing_last (Sits seat) = refl
      hearing_last (Finished rule last) = refl

      hearing_alike : (a b : Listener) → ListenersAgree within a b
          → ListenersAgree within (hears_session mount session a) (hears_session mount session b)
      hearing_alike a b (SameListener same) = SameListener (ap (hears_session mount session) same)
      hearing_alike a b (LastBeyond id out away) =
          LastBeyond id (ap within (hearing_last a.seating) ∙ out) (ap within (hearing_last b.seating) ∙ away)

      pub given_alike : ListenersDo (with_session_at xs mount session) (with_session_at ys mount session)
      given_alike = agree_each (ListenersAgree within) (hears_session mount session) hearing_alike xs ys r

    -- a listener with a seat within reach moves, or loses its seat
    module _ (id : ℕ) (near : (seat : Seat) × (seat_of ys id ≡ Some seat) × (within seat.mount ≡ true)) where
      last_held : (seating : Seating) (seat : Seat) → seat_held seating ≡ Some seat → last_mount seating ≡ seat.mount
      last_held (Sits old) seat e = let same : old ≡ seat = cc in ap (λ (x : Seat). x.mount) same
      last_held (Finished rule mount) seat e = cc

      near_alike : (f : Listener → Listener) (a b : Listener) → ListenersAgree within a b → listener_of ys id ≡ Some b → ListenersAgree within (f a) (f b)
      near_alike f a b (SameListener same) found = SameListener (ap f same)
      near_alike f a b (LastBeyond same out away) found =
          let there : within (last_mount b.seating) ≡ true = ap within (last_held b.seating near.0 (sym (ap seat_in found) ∙ near.1)) ∙ near.2 in cc

      pub with_move_alike : (mount : List ℕ) (session place : ℕ) → ListenersDo (with_move xs id mount session place) (with_move ys id mount session place)
      with_move_alike mount session place =
          agree_updated (ListenersAgree within) (is_listener id) (is_alike id) (moved mount session place) xs ys (near_alike (moved mount session place)) r

      pub with_end_alike : (rule : Rule) → ListenersDo (with_end xs id rule) (with_end ys id rule)
      with_end_alike rule = agree_updated (ListenersAgree within) (is_listener id) (is_alike id) (loses rule) xs ys (near_alike (loses rule)) r

    pub all_listeners : IsAll within → xs ≡ ys
    all_listeners all = agree_equal (ListenersAgree within) one xs ys r where
      one : (a b : Listener) → ListenersAgree within a b → a ≡ b
      one a b (SameListener same) = same
      one a b (LastBeyond id out away) = let clash = all (last_mount a.seating) in cc
