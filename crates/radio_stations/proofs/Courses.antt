-- What has happened on the course of a connection is what its bytes mean.
use Rattle.std.proofs.Common.{◌≡◌, ◌⊎◌, inl, inr, ℕ, true, false, List, [], ◌∷◌, ◌++◌, refl, sym, ap, subst, ◌∙◌, append_assoc}
use Rattle.radio_stations.proofs.Words.{append-nil, map-append, flat_map-append, Entry, Event, Arrive, Draw, Leave, Reply, Arrived, State, Running, Shut, entry, ShowsRequest, IsStableReading, fresh, Atom}
use Rattle.radio_stations.proofs.Words.{PiecesAreHeardAsOne, atoms, event_atoms, unheard, EventReading, IsHeard, said, Fate, Open, Ended, Closed, Cut, Arrival, LetsNobodyIn, Standing, Course, IsOver, HasAllApplied}
use Rattle.radio_stations.proofs.Words.{standing_after_reply, fate_by, pending_by, newcomer, arrives, turned_away, hears, has_room, applies, closes, is_cut, passes_over, leaves, HasDrawsAmong, HasShut, IsHeardInOne}
use Rattle.radio_stations.proofs.Words.{MeansItsBytes, nothing}
use Rattle.radio_connections.specs.Duties.{IsAtMostLeaving, IsWritten, events_of}
use Rattle.radio_headline.proofs.AppliedLemmas.{said_web}
use Rattle.radio_stations.proofs.Alike.{IsAlike, alike_self}
use Rattle.radio_stations.proofs.Joined.{IsTogether, heard_together}
use Rattle.radio_stations.proofs.Weaving.{asked_then, drawn_then}

-- what waits to be applied is the rest of what was read, or a draw, and nothing after that
abbrev pub Waits : ℕ → List Event → List Atom → Type 0
Waits id pending unapplied = (unapplied ≡ atoms pending) ⊎ ((unapplied ≡ []) × (room : ℕ) × (pending ≡ Draw id room ∷ []))

-- its state as long as it goes on
pub record Goes (id : ℕ) (s : Standing) (unread : List ℕ) (unapplied : List Atom) (left : List Entry) (heard : EventReading) : Type 0 where
  pub all_read : unread ≡ []
  pub here : left ≡ []
  pub alike : IsAlike heard.conversation s.session
  pub waits : Waits id s.pending unapplied

-- what has happened on the course of a client's connection
pub record Meant (arrival : Arrival) (id : ℕ) (s : Standing) : Type 0 where
  pub others : List Entry
  pub arrived : s.entries ≡ entry (Arrive arrival.peer) (Arrived id) ∷ others
  pub read : List ℕ
  pub unread : List ℕ
  pub gives : s.given ≡ read ++ unread
  pub heard : EventReading
  pub is_heard : IsHeardInOne (fresh arrival.web id arrival.peer) read heard
  pub made : List Entry
  pub left : List Entry
  pub all : others ≡ made ++ left
  pub at_most : IsAtMostLeaving id left
  pub asked : List Event
  pub draws_among : HasDrawsAmong id (events_of made) asked
  pub unapplied : List Atom
  pub is_front : atoms heard.events ≡ atoms asked ++ unapplied
  pub going : s.fate ≡ Open → Goes id s unread unapplied left heard
  pub stays : s.has_left ≡ false → left ≡ []
  pub ended : s.fate ≡ Ended → HasShut made
  pub closed : s.fate ≡ Closed → ((unread ≡ []) × (unapplied ≡ [])) ⊎ HasShut made

-- nothing waits
pub none_waits : (id : ℕ) (pending : List Event) (unapplied : List Atom) → pending ≡ [] → Waits id pending unapplied → unapplied ≡ []
none_waits id pending unapplied none (inl e) = e ∙ ap atoms none
none_waits id pending unapplied none (inr (e, room, some)) = e

comes : (arrival : Arrival) (id : ℕ) → Meant arrival id (newcomer arrival.web arrival.peer id)
comes arrival id = record {
  others = [];
  arrived = refl;
  read = [];
  unread = [];
  gives = refl;
  heard = unheard (fresh arrival.web id arrival.peer);
  is_heard = inl (refl, refl);
  made = [];
  left = [];
  all = refl;
  at_most = inl refl;
  asked = [];
  draws_among = nothing;
  unapplied = [];
  is_front = refl;
  going = λ is_open. record { all_read = refl; here = refl; alike = alike_self (fresh arrival.web id arrival.peer); waits = inl refl };
  stays = λ here. refl;
  ended = λ over. absurd (cc);
  closed = λ over. absurd (cc);
}

still_open : {fate : Fate} → fate ≡ Open → fate ≡ Closed → ⊥
still_open goes over = let both : Open ≡ Closed = sym goes ∙ over in cc

-- its line gives bytes
module _ (settled : IsStableReading ShowsRequest) (pieces : PiecesAreHeardAsOne) (arrival : Arrival) (id : ℕ) (s : Standing) (m : Meant arrival id s) (quiet : HasAllApplied s) (bytes : List ℕ)
    (heard : EventReading) (is : IsHeard s.session bytes heard) where
  now : Goes id s m.unread m.unapplied m.left m.heard
  now = m.going quiet.0

  all : IsTogether (fresh arrival.web id arrival.peer) (m.read ++ bytes) m.heard heard
  all = heard_together settled pieces (fresh arrival.web id arrival.peer) m.read bytes m.heard heard m.is_heard s.session now.alike is

  hears_on : Meant arrival id (record s { given = s.given ++ bytes; session = heard.conversation; pending = heard.events })
  hears_on = record {
    others = m.others;
    arrived = m.arrived;
    read = m.read ++ bytes;
    unread = [];
    gives = ap (λ (xs : List ℕ). xs ++ bytes) (m.gives ∙ ap (λ (xs : List ℕ). m.read ++ xs) now.all_read ∙ append-nil m.read) ∙ sym (append-nil (m.read ++ bytes));
    heard = all.whole;
    is_heard = all.is_heard;
    made = m.made;
    left = m.left;
    all = m.all;
    at_most = m.at_most;
    asked = m.asked;
    draws_among = m.draws_among;
    unapplied = atoms heard.events;
    is_front =
        all.events ∙ ap (λ (xs : List Atom). xs ++ atoms heard.events)
        (m.is_front ∙ ap (λ (xs : List Atom). atoms m.asked ++ xs) (none_waits id s.pending m.unapplied quiet.1 now.waits) ∙ append-nil (atoms m.asked));
    going = λ is_open. record { all_read = refl; here = now.here; alike = all.conversation; waits = inl refl };
    stays = m.stays;
    ended = m.ended;
    closed = λ over. absurd (still_open quiet.0 over);
  }

-- it has room
has_room_on : (arrival : Arrival) (id : ℕ) (s : Standing) → Meant arrival id s → HasAllApplied s → (room : ℕ) → Meant arrival id (record s { pending = Draw id room ∷ [] })
has_room_on arrival id s m quiet room =
    let now = m.going quiet.0 in
    record {
      others = m.others;
      arrived = m.arrived;
      read = m.read;
      unread = m.unread;
      gives = m.gives;
      heard = m.heard;
      is_heard = m.is_heard;
      made = m.made;
      left = m.left;
      all = m.all;
      at_most = m.at_most;
      asked = m.asked;
      draws_among = m.draws_among;
      unapplied = m.unapplied;
      is_front = m.is_front;
      going = λ is_open. record {
        all_read = now.all_read;
        here = now.here;
        alike = now.alike;
        waits = inr (none_waits id s.pending m.unapplied quiet.1 now.waits, room, refl);
      };
      stays = m.stays;
      ended = m.ended;
      closed = m.closed;
    }

-- the first of the events is applied
module _ (arrival : Arrival) (id : ℕ) (s : Standing) (m : Meant arrival id s) (goes : s.fate ≡ Open) (event : Event) (later : List Event) (some : s.pending ≡ event ∷ later) (reply : Reply) where
  before : Goes id s m.unread m.unapplied m.left m.heard
  before = m.going goes

  abbrev one : Entry
  one = entry event reply

  abbrev then_state : State
  then_state = (said s.session.says reply).state

  -- what it is now: how far it has come, what was asked and what still waits
  record IsOneOn : Type 0 where
    asked : List Event
    unapplied : List Atom
    draws_among : HasDrawsAmong id (events_of (m.made ++ one ∷ [])) asked
    is_front : atoms m.heard.events ≡ atoms asked ++ unapplied
    waits : unapplied ≡ atoms later

  joined : events_of (m.made ++ one ∷ []) ≡ events_of m.made ++ event ∷ []
  joined = map-append (λ (e : Entry). e.event) m.made (one ∷ [])

  was_asked : m.unapplied ≡ atoms s.pending → IsOneOn
  was_asked e = record {
    asked = m.asked ++ event ∷ [];
    unapplied = atoms later;
    draws_among = subst (λ (es : List Event). HasDrawsAmong id es (m.asked ++ event ∷ [])) (sym joined)
        (asked_then id event (events_of m.made) m.asked m.draws_among);
    is_front =
        m.is_front
        ∙ ap (λ (xs : List Atom). atoms m.asked ++ xs) (e ∙ ap atoms some ∙ flat_map-append event_atoms (event ∷ []) later)
        ∙ sym (append_assoc (atoms m.asked) (atoms (event ∷ [])) (atoms later))
        ∙ ap (λ (xs : List Atom). xs ++ atoms later) (sym (flat_map-append event_atoms m.asked (event ∷ [])));
    waits = refl;
  }

  was_drawn : (room : ℕ) → m.unapplied ≡ [] → s.pending ≡ Draw id room ∷ [] → IsOneOn
  was_drawn room none draw =
      let both : event ∷ later ≡ Draw id room ∷ [] = sym some ∙ draw in
      let same : event ≡ Draw id room = cc in
      let rest : later ≡ [] = cc in
      record {
        asked = m.asked;
        unapplied = m.unapplied;
        draws_among = subst (λ (es : List Event). HasDrawsAmong id es m.asked) (ap (λ (e : Event). events_of m.made ++ e ∷ []) (sym same) ∙ sym joined)
            (drawn_then id room (events_of m.made) m.asked m.draws_among);
        is_front = m.is_front;
        waits = none ∙ ap atoms (sym rest);
      }

  on : IsOneOn
  on = elim before.waits [
    | inl e ↦ was_asked e
    | inr (none, room, draw) ↦ was_drawn room none draw
  ]

  still : (state : State) → then_state ≡ state → fate_by state ≡ Open → Waits id (pending_by state later) on.unapplied
  still Running e is_open = inl on.waits
  still (Shut ending) e is_open = absurd (cc)

  unclosed : (state : State) → fate_by state ≡ Closed → ⊥
  unclosed Running e = cc
  unclosed (Shut ending) e = cc

  shuts : (state : State) → then_state ≡ state → fate_by state ≡ Ended → HasShut (m.made ++ one ∷ [])
  shuts Running e over = absurd (cc)
  shuts (Shut ending) e over = record { before = m.made; last = one; in_order = refl; says = s.session.says; ending = ending; shut = e }

  applies_on : Meant arrival id (standing_after_reply s event later reply)
  applies_on = record {
    others = m.others ++ one ∷ [];
    arrived = ap (λ (xs : List Entry). xs ++ one ∷ []) m.arrived;
    read = m.read;
    unread = m.unread;
    gives = m.gives;
    heard = m.heard;
    is_heard = m.is_heard;
    made = m.made ++ one ∷ [];
    left = [];
    all = ap (λ (xs : List Entry). xs ++ one ∷ []) (m.all ∙ ap (λ (xs : List Entry). m.made ++ xs) before.here ∙ append-nil m.made)
        ∙ sym (append-nil (m.made ++ one ∷ []));
    at_most = inl refl;
    asked = on.asked;
    draws_among = on.draws_among;
    unapplied = on.unapplied;
    is_front = on.is_front;
    going = λ is_open. record {
      all_read = before.all_read;
      here = refl;
      alike = record {
        id = before.alike.id;
        held = before.alike.held;
        hears = before.alike.hears;
        web = before.alike.web ∙ sym (said_web s.session.says reply);
      };
      waits = still then_state refl is_open;
    };
    stays = λ here. refl;
    ended = λ over. shuts then_state refl over;
    closed = λ over. absurd (unclosed then_state over);
  }

-- nothing more comes, or it is cut off, or it was over before
over_on : (arrival : Arrival) (id : ℕ) (s : Standing) (m : Meant arrival id s) (unread : List ℕ) (fate : Fate) (pending : List Event) → (fate ≡ Open → ⊥)
    → (fate ≡ Ended → s.fate ≡ Ended) → (fate ≡ Closed → ((m.unread ++ unread ≡ []) × (m.unapplied ≡ [])) ⊎ HasShut m.made)
    → Meant arrival id (record s { given = s.given ++ unread; pending = pending; fate = fate })
over_on arrival id s m unread fate pending over ended closed = record {
  others = m.others;
  arrived = m.arrived;
  read = m.read;
  unread = m.unread ++ unread;
  gives = ap (λ (xs : List ℕ). xs ++ unread) m.gives ∙ append_assoc m.read m.unread unread;
  heard = m.heard;
  is_heard = m.is_heard;
  made = m.made;
  left = m.left;
  all = m.all;
  at_most = m.at_most;
  asked = m.asked;
  draws_among = m.draws_among;
  unapplied = m.unapplied;
  is_front = m.is_front;
  going = λ is_open. absurd (over is_open);
  stays = m.stays;
  ended = λ e. m.ended (ended e);
  closed = closed;
}

is_over : (fate : Fate) → IsOver fate → fate ≡ Open → ⊥
is_over Open h e = h
is_over Ended h e = cc
is_over Closed h e = cc
is_over Cut h e = cc

-- its client leaves
leaves_on : (arrival : Arrival) (id : ℕ) (s : Standing) → Meant arrival id s → IsOver s.fate → s.has_left ≡ false → (reply : Reply)
    → Meant arrival id (record s { entries = s.entries ++ entry (Leave id) reply ∷ []; has_left = true })
leaves_on arrival id s m over here reply = record {
  others = m.others ++ entry (Leave id) reply ∷ [];
  arrived = ap (λ (xs : List Entry). xs ++ entry (Leave id) reply ∷ []) m.arrived;
  read = m.read;
  unread = m.unread;
  gives = m.gives;
  heard = m.heard;
  is_heard = m.is_heard;
  made = m.made;
  left = entry (Leave id) reply ∷ [];
  all = ap (λ (xs : List Entry). xs ++ entry (Leave id) reply ∷ []) (m.all ∙ ap (λ (xs : List Entry). m.made ++ xs) (m.stays here) ∙ append-nil m.made);
  at_most = inr (reply, refl);
  asked = m.asked;
  draws_among = m.draws_among;
  unapplied = m.unapplied;
  is_front = m.is_front;
  going = λ is_open. absurd (is_over s.fate over is_open);
  stays = λ h. absurd (cc);
  ended = m.ended;
  closed = m.closed;
}

-- the given bytes are those before, and no more
with_none : (arrival : Arrival) (id : ℕ) (s : Standing) (fate : Fate) → Meant arrival id (record s { given = s.given ++ []; pending = s.pending; fate = fate })
    → Meant arrival id (record s { fate = fate })
with_none arrival id s fate m = subst (λ (xs : List ℕ). Meant arrival id (record s { given = xs; fate = fate })) (append-nil s.given) m

-- it is closed when nothing waits to be applied
closes_on : (arrival : Arrival) (id : ℕ) (s : Standing) (m : Meant arrival id s) → (fate : Fate) → s.fate ≡ fate → IsWritten fate → s.pending ≡ []
    → ((m.unread ++ [] ≡ []) × (m.unapplied ≡ [])) ⊎ HasShut m.made
closes_on arrival id s m Open e w none =
    let now = m.going e in inl (append-nil m.unread ∙ now.all_read, none_waits id s.pending m.unapplied none now.waits)
closes_on arrival id s m Ended e w none = inr (m.ended e)
closes_on arrival id s m Closed e w none = absurd w
closes_on arrival id s m Cut e w none = absurd w

module _ (settled : IsStableReading ShowsRequest) (pieces : PiecesAreHeardAsOne) (arrival : Arrival) (id : ℕ) (let_in : arrival.reply ≡ Arrived id) where
  pub meant_so : (s : Standing) → Course arrival id s → Meant arrival id s
  meant_so s (arrives came) = comes arrival id
  meant_so s (turned_away nobody) = absurd (subst LetsNobodyIn let_in nobody)
  meant_so s (hears before course quiet bytes heard is) = hears_on settled pieces arrival id before (meant_so before course) quiet bytes heard is
  meant_so s (has_room before course quiet room) = has_room_on arrival id before (meant_so before course) quiet room
  meant_so s (applies before course goes event later some reply) = applies_on arrival id before (meant_so before course) goes event later some reply
  meant_so s (closes before course goes none) =
      let m = meant_so before course in
      with_none arrival id before Closed
      (over_on arrival id before m [] Closed before.pending (λ e. cc) (λ e. absurd (cc)) (λ e. closes_on arrival id before m before.fate refl goes none))
  meant_so s (is_cut before course unheard) =
      over_on arrival id before (meant_so before course) unheard Cut [] (λ e. cc) (λ e. absurd (cc)) (λ e. absurd (cc))
  meant_so s (passes_over before course ended bytes) =
      over_on arrival id before (meant_so before course) bytes before.fate before.pending (λ e. absurd (let both : Ended ≡ Open = sym ended ∙ e in cc)) (λ e. e)
      (λ e. absurd (let both : Ended ≡ Closed = sym ended ∙ e in cc))
  meant_so s (leaves before course over here reply) = leaves_on arrival id before (meant_so before course) over here reply

-- where nothing is still to be applied, it is what its bytes mean
pub meant_all : (arrival : Arrival) (id : ℕ) (s : Standing) (m : Meant arrival id s) → s.pending ≡ []
    → MeansItsBytes arrival.web arrival.peer id s.given s.fate m.others
meant_all arrival id s m none = record {
  read = m.read;
  unread = m.unread;
  gives = m.gives;
  heard = m.heard;
  is_heard = m.is_heard;
  made = m.made;
  left = m.left;
  all = m.all;
  leaves = m.at_most;
  asked = m.asked;
  draws_among = m.draws_among;
  unapplied = m.unapplied;
  is_front = m.is_front;
  goes_on = λ is_open. let now = m.going is_open in (now.all_read, none_waits id s.pending m.unapplied none now.waits, now.here);
  ends = m.ended;
  closes = m.closed;
}
