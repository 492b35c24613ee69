-- how each client fares by an event that ends something, or carries listeners along
use Rattle.std.proofs.Common.{◌≡◌, ◌⊎◌, inl, inr, Bool, true, ℕ, ◌<◌, Option, Some, None, List, refl, ap, sym, subst, ◌∙◌, arith, false, ◌==◌}
use Rattle.radio_core.proofs.Words.{Rule, Lists, lets_in, Listener, Seat, LosesSeat, same_or_loses, listener_of, seat_of, seat_in, with_ended, AreByNumber, ClientState, Listens, Ended, Standing, Unknown, Undecided}
use Rattle.radio_core.proofs.Words.{Feeds, Sits, Answered, Finished, Client, client_of, Relay, relay_of, moved_into, Session, session_of, AreApart, IsSeatedIn, IsSound, asks_too_late, World, standing_of}
use Rattle.radio_core.proofs.Words.{standing_of_found, standing_of_client, order_ended, heard_at, heard_same}
use Rattle.radio_seats_rows.specs.declared.seat.Seating.TheVariants.{Finished as HasLostIt}
use Rattle.radio_parts_station.specs.declared.clients.ClientState.TheVariants.{Undecided as IsNew, Feeds as IsSource, Answered as HasHisAnswer}
use Rattle.radio_core.proofs.Clients.Standings.{no_relay_sits}

-- there is something that can end for it
abbrev pub IsActive : Standing → Type 0
IsActive (Undecided peer) = Unit {0}
IsActive (Feeds mount) = Unit {0}
IsActive Sits = Unit {0}
IsActive standing = ⊥

-- it can do nothing more
abbrev pub IsDone : Standing → Type 0
IsDone Answered = Unit {0}
IsDone Unknown = Unit {0}
IsDone standing = ⊥

-- the causes for which a rule ends a client, a client is moved into a session, or a source stops feeding,
-- and what holds of the mount that a moved client leaves
pub data Fate (C : ℕ → Rule → Type 0) (M : ℕ → Session → Type 0) (S : ℕ → Type 0) (L : World → Seat → Session → Type 0) (w later : World) (id : ℕ) : Type 0 where
  -- a client goes on as it was, in the same session
  GoesOn : standing_of later id ≡ standing_of w id → seat_of later.seats id ≡ seat_of w.seats id
      → ((mount : List ℕ) → standing_of w id ≡ Feeds mount → session_of later.station.live mount ≡ session_of w.station.live mount)
      → ((seat : Seat) → seat_of w.seats id ≡ Some seat → session_of later.station.live seat.mount ≡ session_of w.station.live seat.mount)
      → Fate C M S L w later id
  -- it is ended by a rule
  IsEnded : (rule : Rule) → C id rule → IsActive (standing_of w id) → standing_of later id ≡ Finished rule → seat_of later.seats id ≡ None
      → ((mount : List ℕ) → standing_of w id ≡ Feeds mount → session_of later.station.live mount ≡ None) → Fate C M S L w later id
  -- a source stops feeding
  HasStopped : (mount : List ℕ) → S id → standing_of w id ≡ Feeds mount → IsDone (standing_of later id) → seat_of later.seats id ≡ None
      → session_of later.station.live mount ≡ None → Fate C M S L w later id
  -- a listener goes on in another session, from the end of its stream
  IsMoved : (old : Seat) (session : Session) → M id session → L later old session → seat_of w.seats id ≡ Some old
      → seat_of later.seats id ≡ Some (moved_into session old) → standing_of later id ≡ standing_of w id
      → heard_at later.station session.mount ≡ Some session → lets_in w.station.lists session.mount old.pair ≡ true → Fate C M S L w later id

pub record Fates (C : ℕ → Rule → Type 0) (M : ℕ → Session → Type 0) (S : ℕ → Type 0) (L : World → Seat → Session → Type 0) (w later : World) : Type 0 where
  pub last : later.station.last_id ≡ w.station.last_id
  pub lists : later.station.lists ≡ w.station.lists
  pub settings : later.station.settings ≡ w.station.settings
  -- sessions end, and stay as they are until then
  pub live : (mount : List ℕ) (session : Session) → session_of later.station.live mount ≡ Some session → session_of w.station.live mount ≡ Some session
  pub apart : AreApart later.station.live
  pub by_number : AreByNumber later.seats
  -- who asks too late was there so before
  pub late : (id : ℕ) (client : Client) (seconds ms : ℕ) → client_of later.station.clients id ≡ Some client → asks_too_late seconds ms client ≡ true
      → client_of w.station.clients id ≡ Some client
  pub fate : (id : ℕ) → Fate C M S L w later id

-- what holds of every state of a run holds still
module _ (C : ℕ → Rule → Type 0) (M : ℕ → Session → Type 0) (S : ℕ → Type 0) (L : World → Seat → Session → Type 0) (w later : World) (s : IsSound w)
    (f : Fates C M S L w later) where
  inactive : (now : Standing) → now ≡ Unknown → IsActive now → ⊥
  inactive Unknown e active = active
  inactive (Undecided peer) e active = cc
  inactive (Feeds mount) e active = cc
  inactive Sits e active = cc
  inactive Answered e active = active
  inactive (Finished rule) e active = active

  not_done : (now : Standing) (mount : List ℕ) → now ≡ Feeds mount → IsDone now → ⊥
  not_done Unknown mount e done = cc
  not_done (Undecided peer) mount e done = done
  not_done (Feeds other) mount e done = done
  not_done Sits mount e done = done
  not_done Answered mount e done = cc
  not_done (Finished rule) mount e done = done

  pub feeds_on : (id : ℕ) (mount : List ℕ) → standing_of later id ≡ Feeds mount
      → (standing_of w id ≡ Feeds mount) × (session_of later.station.live mount ≡ session_of w.station.live mount)
  feeds_on id mount e = by_fate (f.fate id) where
    by_fate : Fate C M S L w later id → (standing_of w id ≡ Feeds mount) × (session_of later.station.live mount ≡ session_of w.station.live mount)
    by_fate (GoesOn same seat feeds sits) = (sym same ∙ e, feeds mount (sym same ∙ e))
    by_fate (IsEnded rule cause active ended none over) = cc
    by_fate (HasStopped other why feeding done none over) = absurd (not_done (standing_of later id) mount e done)
    by_fate (IsMoved old session why left had has same live opens) = let sat : standing_of w id ≡ Sits = s.sitting id old had in cc

  pub sound_fates : IsSound later
  sound_fates = record {
    numbered = λ id h. unknown_still id (s.numbered id (subst (λ (n : ℕ). n < id) f.last h));
    from_one = unknown_still 0 s.from_one;
    feeds = λ id mount e.
        let on = feeds_on id mount e in
        let old = s.feeds id mount on.0 in
        (old.0, on.1 ∙ old.1, old.2);
    fed = λ mount session e. fed mount session e;
    apart = f.apart;
    starts = λ mount session e. s.starts mount session (f.live mount session e);
    by_number = f.by_number;
    sitting = λ id seat e. sitting id seat e (f.fate id);
    seated = λ id seat e. seated id seat e (f.fate id);
  } where
    unknown_still : (id : ℕ) → standing_of w id ≡ Unknown → standing_of later id ≡ Unknown
    unknown_still id unknown = by_fate (f.fate id) where
      by_fate : Fate C M S L w later id → standing_of later id ≡ Unknown
      by_fate (GoesOn same seat feeds sits) = same ∙ unknown
      by_fate (IsEnded rule cause active ended none over) = absurd (inactive (standing_of w id) unknown active)
      by_fate (HasStopped other why feeding done none over) = cc
      by_fate (IsMoved old session why left had has same live opens) = same ∙ unknown

    fed : (mount : List ℕ) (session : Session) → session_of later.station.live mount ≡ Some session → standing_of later session.number ≡ Feeds mount
    fed mount session e = by_fate (f.fate session.number) where
      before : standing_of w session.number ≡ Feeds mount
      before = s.fed mount session (f.live mount session e)

      by_fate : Fate C M S L w later session.number → standing_of later session.number ≡ Feeds mount
      by_fate (GoesOn same seat feeds sits) = same ∙ before
      by_fate (IsEnded rule cause active ended none over) =
          let gone : session_of later.station.live mount ≡ None = over mount before in cc
      by_fate (HasStopped other why feeding done none over) =
          let both : Feeds other ≡ Feeds mount = sym feeding ∙ before in
          let one : other ≡ mount = cc in
          let gone : session_of later.station.live mount ≡ None = ap (session_of later.station.live) (sym one) ∙ over in
          cc
      by_fate (IsMoved old his why left had has same live opens) = same ∙ before

    sitting : (id : ℕ) (seat : Seat) → seat_of later.seats id ≡ Some seat → Fate C M S L w later id → standing_of later id ≡ Sits
    sitting id seat e (GoesOn same seats feeds sits) = same ∙ s.sitting id seat (sym seats ∙ e)
    sitting id seat e (IsEnded rule cause active ended none over) = cc
    sitting id seat e (HasStopped other why feeding done none over) = cc
    sitting id seat e (IsMoved old session why left had has same live opens) = same ∙ s.sitting id old had

    seated : (id : ℕ) (seat : Seat) → seat_of later.seats id ≡ Some seat → Fate C M S L w later id → IsSeatedIn later seat
    seated id seat e (GoesOn same seats feeds sits) =
        let had : seat_of w.seats id ≡ Some seat = sym seats ∙ e in
        let old = s.seated id seat had in
        record {
          session = old.session;
          is_heard = heard_same later.station w.station seat.mount f.settings (sits seat had) ∙ old.is_heard;
          his_session = old.his_session;
          within = old.within;
        }
    seated id seat e (IsEnded rule cause active ended none over) = cc
    seated id seat e (HasStopped other why feeding done none over) = cc
    seated id seat e (IsMoved old session why left had has same live opens) =
        let both : Some (moved_into session old) ≡ Some seat = sym has ∙ e in
        let one : moved_into session old ≡ seat = cc in
        subst (λ (x : Seat). IsSeatedIn later x) one (record { session = session; is_heard = live; his_session = refl; within = omega arith })

-- nothing has happened
pub fates_none : (C : ℕ → Rule → Type 0) (M : ℕ → Session → Type 0) (S : ℕ → Type 0) (L : World → Seat → Session → Type 0) (w : World) → IsSound w
    → Fates C M S L w w
fates_none C M S L w s = record {
  last = refl;
  lists = refl;
  settings = refl;
  live = λ mount session e. e;
  apart = s.apart;
  by_number = s.by_number;
  late = λ id client seconds ms e late. e;
  fate = λ id. GoesOn refl refl (λ mount e. refl) (λ seat e. refl);
}

-- whoever is moved sat in a session, and it is over
abbrev pub HasEnded : World → Seat → Session → Type 0
HasEnded later old session = (session_of later.station.live old.mount ≡ None) × ((old.session == 0) ≡ false)

-- no source stops by its own doing
abbrev pub Nobody : ℕ → Type 0
Nobody id = ⊥

-- one thing after another, where nobody stops by its own doing, and the reasons are of the whole
module _ (C : ℕ → Rule → Type 0) (M : ℕ → Session → Type 0) (w between later : World) (f : Fates C M Nobody HasEnded w between)
    (g : Fates C M Nobody HasEnded between later) where
  still_none : (mount : List ℕ) → session_of between.station.live mount ≡ None → session_of later.station.live mount ≡ None
  still_none mount none = by_found (session_of later.station.live mount) refl where
    by_found : (found : Option Session) → session_of later.station.live mount ≡ found → session_of later.station.live mount ≡ None
    by_found None e = e
    by_found (Some session) e = let before : session_of between.station.live mount ≡ Some session = g.live mount session e in cc

  finished_rests : (now : Standing) (rule : Rule) → now ≡ Finished rule → IsActive now → ⊥
  finished_rests (Finished by) rule e active = active
  finished_rests (Undecided peer) rule e active = cc
  finished_rests (Feeds mount) rule e active = cc
  finished_rests Sits rule e active = cc
  finished_rests Unknown rule e active = active
  finished_rests Answered rule e active = active

  abbrev Whole : ℕ → Type 0
  Whole id = Fate C M Nobody HasEnded w later id

  fate_then : (id : ℕ) → Fate C M Nobody HasEnded w between id → Fate C M Nobody HasEnded between later id → Whole id
  fate_then id (HasStopped mount why feeding done none over) then_so = absurd why
  fate_then id (GoesOn same seats feeds sits) (HasStopped mount why feeding done none over) = absurd why
  fate_then id (IsEnded rule cause active ended none over) (HasStopped mount why feeding done none' over') = absurd why
  fate_then id (IsMoved old session carries left had has same live opens) (HasStopped mount why feeding done none over) = absurd why
  fate_then id (GoesOn same seats feeds sits) (GoesOn same' seats' feeds' sits') =
      GoesOn (same' ∙ same) (seats' ∙ seats) (λ mount e. feeds' mount (same ∙ e) ∙ feeds mount e) (λ seat e. sits' seat (seats ∙ e) ∙ sits seat e)
  fate_then id (GoesOn same seats feeds sits) (IsEnded rule cause active ended none over) =
      IsEnded rule cause (subst (λ (x : Standing). IsActive x) same active) ended none (λ mount e. over mount (same ∙ e))
  fate_then id (GoesOn same seats feeds sits) (IsMoved old session carries left had has same' live opens) =
      IsMoved old session carries left (sym seats ∙ had) has (same' ∙ same) live
      (ap (λ (lists : Lists). lets_in lists session.mount old.pair) (sym f.lists) ∙ opens)
  fate_then id (IsEnded rule cause active ended none over) (GoesOn same seats feeds sits) =
      IsEnded rule cause active (same ∙ ended) (seats ∙ none) (λ mount e. still_none mount (over mount e))
  fate_then id (IsEnded rule cause active ended none over) (IsEnded rule' cause' active' ended' none' over') =
      absurd (finished_rests (standing_of between id) rule ended active')
  fate_then id (IsEnded rule cause active ended none over) (IsMoved old session carries left had has same live opens) = cc
  fate_then id (IsMoved old session carries left had has same live opens) (GoesOn same' seats feeds sits) =
      IsMoved old session carries (still_none old.mount left.0, left.1) had (seats ∙ has) (same' ∙ same)
      (heard_same later.station between.station session.mount g.settings (sits (moved_into session old) has) ∙ live) opens
  fate_then id (IsMoved old session carries left had has same live opens) (IsEnded rule cause active ended none over) =
      IsEnded rule cause (subst (λ (x : Standing). IsActive x) same active) ended none (λ mount e. over mount (same ∙ e))
  fate_then id (IsMoved old session carries left had has same live opens) (IsMoved old' session' carries' left' had' has' same' live' opens') =
      let both : Some (moved_into session old) ≡ Some old' = sym has ∙ had' in
      let one : moved_into session old ≡ old' = cc in
      IsMoved old session' carries' (still_none old.mount left.0, left.1) had
      (has' ∙ ap (λ (x : Seat). Some (moved_into session' x)) (sym one)) (same' ∙ same) live'
      (ap (λ (lists : Lists). lets_in lists session'.mount old.pair) (sym f.lists)
      ∙ ap (λ (x : Seat). lets_in between.station.lists session'.mount x.pair) one ∙ opens')

  pub fates_then : Fates C M Nobody HasEnded w later
  fates_then = record {
    last = g.last ∙ f.last;
    lists = g.lists ∙ f.lists;
    settings = g.settings ∙ f.settings;
    live = λ mount session e. f.live mount session (g.live mount session e);
    apart = g.apart;
    by_number = g.by_number;
    late = λ id client seconds moment e late. f.late id client seconds moment (g.late id client seconds moment e late) late;
    fate = λ id. fate_then id (f.fate id) (g.fate id);
  }

-- one who sits and has lost its seat has finished
lost_by : (listener : Option Listener) (number : ℕ) (rule : Rule) (last : List ℕ) (client : Client) (state : ClientState)
    → standing_of_client listener client.peer state ≡ Sits
    → standing_of_client (Some (record { id = number; seating = HasLostIt rule last })) client.peer state ≡ Finished rule
lost_by listener number rule last client IsNew e = cc
lost_by listener number rule last client (IsSource mount) e = cc
lost_by listener number rule last client Listens e = refl
lost_by listener number rule last client HasHisAnswer e = cc
lost_by listener number rule last client (Ended by) e = cc

pub lost_in : (relay : Option Relay) (listener : Option Listener) (number : ℕ) (rule : Rule) (last : List ℕ) (client : Option Client)
    → standing_of_found relay listener client ≡ Sits → standing_of_found relay (Some (record { id = number; seating = HasLostIt rule last })) client ≡ Finished rule
lost_in relay listener number rule last None e = absurd (no_relay_sits relay e)
lost_in relay listener number rule last (Some client) e = lost_by listener number rule last client client.state e

pub active_sitter : (now : Standing) → now ≡ Sits → IsActive now
active_sitter now e = subst (λ (x : Standing). IsActive x) (sym e) tt

-- all seats end of which something holds that is a cause
module _ (C : ℕ → Rule → Type 0) (M : ℕ → Session → Type 0) (S : ℕ → Type 0) (L : World → Seat → Session → Type 0) (w : World) (s : IsSound w) (p : Seat → Bool)
    (rule : Rule) (causes : (id : ℕ) (seat : Seat) → seat_of w.seats id ≡ Some seat → p seat ≡ true → C id rule) where
  abbrev seats_ended : World
  seats_ended = record w { seats = with_ended w.seats p rule }

  seat_fate : (id : ℕ) → Fate C M S L w seats_ended id
  seat_fate id = by_loss (same_or_loses p rule w.seats id) where
    by_loss : (listener_of (with_ended w.seats p rule) id ≡ listener_of w.seats id)
        ⊎ LosesSeat p rule (listener_of w.seats id) (listener_of (with_ended w.seats p rule) id)
        → Fate C M S L w (record w { seats = with_ended w.seats p rule }) id
    by_loss (inl same) = GoesOn (ap (λ l. standing_of_found (relay_of w.station.relays id) l (client_of w.station.clients id)) same) (ap seat_in same) (λ mount e. refl) (λ seat e. refl)
    by_loss (inr loses) =
        let sat : standing_of w id ≡ Sits = s.sitting id loses.seat loses.had_a_seat in
        IsEnded rule (causes id loses.seat loses.had_a_seat loses.holds) (active_sitter (standing_of w id) sat)
        (ap (λ l. standing_of_found (relay_of w.station.relays id) l (client_of w.station.clients id)) loses.finished
        ∙ lost_in (relay_of w.station.relays id) (listener_of w.seats id) loses.id rule loses.seat.mount (client_of w.station.clients id) sat)
        (ap seat_in loses.finished) (λ mount e. cc)

  pub seats_fates : Fates C M S L w (record w { seats = with_ended w.seats p rule })
  seats_fates = record {
    last = refl;
    lists = refl;
    settings = refl;
    live = λ mount session e. e;
    apart = s.apart;
    by_number = order_ended w.seats s.by_number p rule;
    late = λ id client seconds ms e late. e;
    fate = seat_fate;
  }
