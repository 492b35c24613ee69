-- What a connection is after each thing that can happen on it.
use Rattle.std.proofs.Common.{◌≡◌, ℕ, Bool, true, false, ◌||◌, List, [], ◌∷◌, ◌++◌, refl, ap, sym, subst, ◌∙◌, append_assoc, append-nil}
use Rattle.radio_events.specs.declared.event.Event.{Event}
use Rattle.radio_events.specs.declared.event.Event.TheVariants.{Draw, Leave}
use Rattle.radio_events.specs.declared.reply.Reply.{Reply}
use Rattle.radio_events.specs.declared.entry.Entry.{Entry}
use Rattle.radio_events.specs.Events.{entry}
use Rattle.radio_events.specs.declared.state.State.{State}
use Rattle.radio_events.specs.declared.state.State.TheVariants.{Running, Shut}
use Rattle.radio_session.specs.Conversation.{Conversation, saying_now}
use Rattle.radio_session.specs.Hearing.{EventReading, IsHeard}
use Rattle.radio_session.specs.Exchanges.{is_leave}
use Rattle.radio_session.specs.Saying.{said}
use Rattle.radio_connections.specs.declared.conn.Fate.{Fate}
use Rattle.radio_connections.specs.declared.conn.Fate.TheVariants.{Open, Ended, Closed, Cut}
use Rattle.radio_connections.specs.Connections.{Connection}
use Rattle.radio_connections.specs.Course.{Arrival, Standing, Course, IsOver, fate_by, pending_by, standing_after_reply, is_seat, hears, has_room, applies, closes, is_cut}
use Rattle.radio_connections.specs.Course.{passes_over, leaves}
use Rattle.radio_connections.specs.Duties.{IsWritten}
use Rattle.radio_connections.specs.Serving.{IsHanded, StandsBefore, Stands}
use Rattle.radio_connections.specs.Answering.{IsAppendedAs, later_by}

-- its number, its seat and whether its client has left
pub record IsOne (c c' : Connection) : Type 0 where
  pub id : c'.id ≡ c.id
  pub sits : c'.status.sits ≡ c.status.sits
  pub left : c'.status.has_left ≡ c.status.has_left

-- what is handed of a text, once it is known what has become of the connection

pub open_text : (f : Fate) → f ≡ Open → (text taken outgoing : List ℕ) → IsHanded f text taken outgoing → text ≡ taken ++ outgoing
open_text f e text taken outgoing h = subst (λ (x : Fate). IsHanded x text taken outgoing) e h

pub written_text : (f : Fate) → IsWritten f → (text taken outgoing : List ℕ) → IsHanded f text taken outgoing → text ≡ taken ++ outgoing
written_text Open w text taken outgoing h = h
written_text Ended w text taken outgoing h = h
written_text Closed w text taken outgoing h = absurd w
written_text Cut w text taken outgoing h = absurd w

pub handed_still : (f : Fate) → IsWritten f → (text taken outgoing : List ℕ) → text ≡ taken ++ outgoing → IsHanded f text taken outgoing
handed_still Open w text taken outgoing h = h
handed_still Ended w text taken outgoing h = h
handed_still Closed w text taken outgoing h = absurd w
handed_still Cut w text taken outgoing h = absurd w

pub begun_text : (f : Fate) → (text taken outgoing : List ℕ) → IsHanded f text taken outgoing → (lost : List ℕ) × (text ≡ taken ++ lost)
begun_text Open text taken outgoing h = (outgoing, h)
begun_text Ended text taken outgoing h = (outgoing, h)
begun_text Closed text taken outgoing h = ([], h ∙ sym (append-nil taken))
begun_text Cut text taken outgoing h = h

module _ {arrival : Arrival} (c' : Connection) (pending : List Event) (entries : List Entry) (t : Standing) (f : Fate) where
  -- a connection of this fate keeps its history, by these parts
  pub stands_so : Course arrival c'.id t → t.given ≡ c'.given → t.entries ≡ entries → t.pending ≡ pending → t.sits ≡ c'.status.sits → t.has_left ≡ c'.status.has_left
      → c'.status.fate ≡ f → t.fate ≡ f → (f ≡ Open → t.session ≡ c'.session) → IsHanded f t.text c'.taken c'.outgoing → StandsBefore arrival pending c' entries
  stands_so course given same_entries same_pending sits left fate same_fate session handed = record {
    standing = t;
    course = course;
    same_given = given;
    same_entries = same_entries;
    same_pending = same_pending;
    same_sits = sits;
    same_fate = same_fate ∙ sym fate;
    same_left = left;
    same_session = λ o. session (sym fate ∙ o);
    handed = subst (λ (x : Fate). IsHanded x t.text c'.taken c'.outgoing) (sym fate) handed;
  }

module _ {arrival : Arrival} (c c' : Connection) (pending : List Event) (past : List Entry) (one : IsOne c c') (st : StandsBefore arrival pending c past) where
  private_course : Course arrival c'.id st.standing
  private_course = subst (λ (n : ℕ). Course arrival n st.standing) (sym one.id) st.course

  -- nothing has happened but that other things were noted
  pub still : c'.given ≡ c.given → c'.taken ≡ c.taken → c'.outgoing ≡ c.outgoing → c'.session ≡ c.session → c'.status.fate ≡ c.status.fate
      → StandsBefore arrival pending c' past
  still given taken outgoing session fate =
      stands_so c' pending past st.standing c.status.fate private_course (st.same_given ∙ sym given) st.same_entries st.same_pending (st.same_sits
      ∙ sym one.sits) (st.same_left ∙ sym one.left)
      fate st.same_fate (λ o. st.same_session o ∙ sym session)
      (subst (λ (xs : List ℕ). IsHanded c.status.fate st.standing.text xs c'.outgoing) (sym taken)
      (subst (λ (xs : List ℕ). IsHanded c.status.fate st.standing.text c.taken xs) (sym outgoing) st.handed))

  -- the connection is cut off, with bytes that it did not take
  pub cut_off : (unheard : List ℕ) → c'.given ≡ c.given ++ unheard → c'.taken ≡ c.taken → c'.status.fate ≡ Cut → Stands arrival c' past
  cut_off unheard given taken fate =
      let s = st.standing in
      let begun = begun_text c.status.fate s.text c.taken c.outgoing st.handed in
      stands_so c' [] past (record s { given = s.given ++ unheard; pending = []; fate = Cut }) Cut (is_cut s private_course unheard)
      (ap (λ (xs : List ℕ). xs ++ unheard) st.same_given ∙ sym given) st.same_entries refl (st.same_sits ∙ sym one.sits) (st.same_left
      ∙ sym one.left) fate refl (λ o. absurd (cc))
      (begun.0, begun.1 ∙ ap (λ (xs : List ℕ). xs ++ begun.0) (sym taken))

module _ {arrival : Arrival} (c c' : Connection) (past : List Entry) (one : IsOne c c') (st : Stands arrival c past) where
  quiet_course : Course arrival c'.id st.standing
  quiet_course = subst (λ (n : ℕ). Course arrival n st.standing) (sym one.id) st.course

  -- it is closed, and has taken all
  pub closed_out : (text : IsWritten c.status.fate) → c.outgoing ≡ [] → c'.given ≡ c.given → c'.taken ≡ c.taken → c'.status.fate ≡ Closed → Stands arrival c' past
  closed_out goes outgoing given taken fate =
      let s = st.standing in
      stands_so c' [] past (record s { fate = Closed }) Closed (closes s quiet_course (subst IsWritten (sym st.same_fate) goes) st.same_pending) (st.same_given
      ∙ sym given) st.same_entries st.same_pending
      (st.same_sits ∙ sym one.sits) (st.same_left ∙ sym one.left) fate refl (λ o. absurd (cc))
      (written_text c.status.fate goes s.text c.taken c.outgoing st.handed ∙ ap (λ (xs : List ℕ). c.taken ++ xs) outgoing ∙ append-nil c.taken ∙ sym taken)

  -- the connection takes bytes that arrive
  pub heard_on : c.status.fate ≡ Open → (bytes : List ℕ) (heard : EventReading) → IsHeard c.session bytes heard → c'.given ≡ c.given ++ bytes → c'.taken ≡ c.taken
      → c'.outgoing ≡ c.outgoing
      → c'.session ≡ heard.conversation → c'.status.fate ≡ c.status.fate → StandsBefore arrival heard.events c' past
  heard_on goes bytes heard is given taken outgoing session fate =
      let s = st.standing in
      stands_so c' heard.events past (record s { given = s.given ++ bytes; session = heard.conversation; pending = heard.events }) Open
      (hears s quiet_course (st.same_fate ∙ goes, st.same_pending) bytes heard (subst (λ (x : _). IsHeard x bytes heard) (sym (st.same_session goes)) is))
      (ap (λ (xs : List ℕ). xs ++ bytes) st.same_given ∙ sym given) st.same_entries refl (st.same_sits ∙ sym one.sits) (st.same_left ∙ sym one.left) (fate
      ∙ goes) (st.same_fate ∙ goes) (λ o. sym session)
      (open_text c.status.fate goes s.text c.taken c.outgoing st.handed ∙ ap (λ (xs : List ℕ). xs ++ c.outgoing) (sym taken)
      ∙ ap (λ (xs : List ℕ). c'.taken ++ xs) (sym outgoing))

  -- bytes come after its end
  pub passed_over : c.status.fate ≡ Ended → (bytes : List ℕ) → c'.given ≡ c.given ++ bytes → c'.taken ≡ c.taken → c'.outgoing ≡ c.outgoing → c'.status.fate ≡ Ended
      → Stands arrival c' past
  passed_over ended bytes given taken outgoing fate =
      let s = st.standing in
      stands_so c' [] past (record s { given = s.given ++ bytes }) Ended (passes_over s quiet_course (st.same_fate ∙ ended) bytes)
      (ap (λ (xs : List ℕ). xs ++ bytes) st.same_given ∙ sym given) st.same_entries st.same_pending (st.same_sits ∙ sym one.sits) (st.same_left
      ∙ sym one.left) fate (st.same_fate ∙ ended) (λ o. absurd (cc))
      (subst (λ (x : Fate). IsHanded x s.text c.taken c.outgoing) ended st.handed ∙ ap (λ (xs : List ℕ). xs ++ c.outgoing) (sym taken)
      ∙ ap (λ (xs : List ℕ). c'.taken ++ xs) (sym outgoing))

  -- its line takes some of what is pending
  pub taken_on : (goes : IsWritten c.status.fate) (part : List ℕ) → c.outgoing ≡ part ++ c'.outgoing → c'.given ≡ c.given → c'.taken ≡ c.taken ++ part
      → c'.session ≡ c.session
      → c'.status.fate ≡ c.status.fate → Stands arrival c' past
  taken_on goes part outgoing given taken session fate =
      let s = st.standing in
      stands_so c' [] past s c.status.fate quiet_course (st.same_given ∙ sym given) st.same_entries st.same_pending (st.same_sits ∙ sym one.sits) (st.same_left
      ∙ sym one.left) fate st.same_fate
      (λ o. st.same_session o ∙ sym session)
      (handed_still c.status.fate goes s.text c'.taken c'.outgoing
      (written_text c.status.fate goes s.text c.taken c.outgoing st.handed ∙ ap (λ (xs : List ℕ). c.taken ++ xs) outgoing ∙ sym (append_assoc c.taken part c'.outgoing)
      ∙ ap (λ (xs : List ℕ). xs ++ c'.outgoing) (sym taken)))

module _ {arrival : Arrival} (c : Connection) (past : List Entry) where
  -- there is room for some data
  pub room_on : c.status.fate ≡ Open → (room : ℕ) → Stands arrival c past → StandsBefore arrival (Draw c.id room ∷ []) c past
  room_on goes room st =
      let s = st.standing in
      stands_so c (Draw c.id room ∷ []) past (record s { pending = Draw c.id room ∷ [] }) c.status.fate
      (has_room s st.course (st.same_fate ∙ goes, st.same_pending) room)
      st.same_given st.same_entries refl st.same_sits st.same_left refl st.same_fate st.same_session st.handed

module _ {arrival : Arrival} (c c' : Connection) (past : List Entry) (reply : Reply) where
  -- its client leaves
  pub left_on : c'.id ≡ c.id → IsOver c.status.fate → c.status.has_left ≡ false → c'.given ≡ c.given → c'.taken ≡ c.taken → c'.outgoing ≡ c.outgoing
      → c'.session ≡ c.session
      → c'.status.fate ≡ c.status.fate → c'.status.sits ≡ c.status.sits → c'.status.has_left ≡ true → Stands arrival c past
      → Stands arrival c' (past ++ entry (Leave c.id) reply ∷ [])
  left_on id over here given taken outgoing session fate sits left st =
      let s = st.standing in
      stands_so c' [] (past ++ entry (Leave c.id) reply ∷ []) (record s { entries = s.entries ++ entry (Leave c.id) reply ∷ []; has_left = true }) c.status.fate
      (subst (λ (n : ℕ). Course arrival n (record s { entries = s.entries ++ entry (Leave c.id) reply ∷ []; has_left = true })) (sym id)
      (leaves s st.course (subst IsOver (sym st.same_fate) over) (st.same_left ∙ here) reply))
      (st.same_given ∙ sym given) (ap (λ (xs : List Entry). xs ++ entry (Leave c.id) reply ∷ []) st.same_entries) st.same_pending (st.same_sits
      ∙ sym sits) (sym left) fate st.same_fate
      (λ o. st.same_session o ∙ sym session)
      (subst (λ (xs : List ℕ). IsHanded c.status.fate s.text xs c'.outgoing) (sym taken)
      (subst (λ (xs : List ℕ). IsHanded c.status.fate s.text c.taken xs) (sym outgoing) st.handed))

-- events after an end are not applied
later_is : (state : State) (later : List Event) → pending_by state later ≡ later_by (fate_by state) later
later_is Running later = refl
later_is (Shut ending) later = refl

-- what is appended is pending, if it is not cut off
appended_on : (state : State) (text taken outgoing appended : List ℕ) → text ≡ taken ++ outgoing → IsHanded (fate_by state) (text ++ appended) taken (outgoing ++ appended)
appended_on Running text taken outgoing appended h = ap (λ (xs : List ℕ). xs ++ appended) h ∙ append_assoc taken outgoing appended
appended_on (Shut ending) text taken outgoing appended h = ap (λ (xs : List ℕ). xs ++ appended) h ∙ append_assoc taken outgoing appended

module _ {arrival : Arrival} (c c' : Connection) (event : Event) (later : List Event) (past : List Entry) (reply : Reply) (goes : c.status.fate ≡ Open)
    (id : c'.id ≡ c.id) (given : c'.given ≡ c.given) (taken : c'.taken ≡ c.taken)
    (sits : c'.status.sits ≡ (is_seat event reply || c.status.sits)) (left : c'.status.has_left ≡ (is_leave event || c.status.has_left))
    (st : StandsBefore arrival (event ∷ later) c past) where
  abbrev s : Standing
  s = st.standing

  abbrev t : Standing
  t = standing_after_reply s event later reply

  after : Course arrival c'.id t
  after = subst (λ (n : ℕ). Course arrival n t) (sym id) (applies s st.course (st.same_fate ∙ goes) event later st.same_pending reply)

  all_entries : t.entries ≡ past ++ entry event reply ∷ []
  all_entries = ap (λ (xs : List Entry). xs ++ entry event reply ∷ []) st.same_entries

  all_sits : t.sits ≡ c'.status.sits
  all_sits = ap (λ (b : Bool). is_seat event reply || b) st.same_sits ∙ sym sits

  all_left : t.has_left ≡ c'.status.has_left
  all_left = ap (λ (b : Bool). is_leave event || b) st.same_left ∙ sym left

  said_same : said s.session.says reply ≡ said c.session.says reply
  said_same = ap (λ (x : Conversation). said x.says reply) (st.same_session goes)

  text_is : s.text ≡ c.taken ++ c.outgoing
  text_is = open_text c.status.fate goes s.text c.taken c.outgoing st.handed

  -- the reply is appended, and it goes on or has ended
  appended_so : c'.status.fate ≡ fate_by (said c.session.says reply).state → c'.session ≡ saying_now c.session (said c.session.says reply).says
      → c'.outgoing ≡ c.outgoing ++ (said c.session.says reply).bytes → StandsBefore arrival (later_by c'.status.fate later) c' (past ++ entry event reply ∷ [])
  appended_so fate session outgoing =
      let u = said c.session.says reply in
      stands_so c' (later_by c'.status.fate later) (past ++ entry event reply ∷ []) t (fate_by u.state) after (st.same_given ∙ sym given) all_entries
      (later_is (said s.session.says reply).state later ∙ ap (λ (x : _). later_by (fate_by x.state) later) said_same
      ∙ ap (λ (f : Fate). later_by f later) (sym fate))
      all_sits all_left fate (ap (λ (x : _). fate_by x.state) said_same)
      (λ o. ap (λ (x : Conversation). saying_now x (said x.says reply).says) (st.same_session goes) ∙ sym session)
      (subst (λ (xs : List ℕ). IsHanded (fate_by u.state) (s.text ++ (said s.session.says reply).bytes) c'.taken xs) (sym outgoing)
      (subst (λ (xs : List ℕ). IsHanded (fate_by u.state) (s.text ++ (said s.session.says reply).bytes) xs (c.outgoing ++ u.bytes)) (sym taken)
      (subst (λ (xs : List ℕ). IsHanded (fate_by u.state) (s.text ++ xs) c.taken (c.outgoing ++ u.bytes)) (ap (λ (x : _). x.bytes) (sym said_same))
      (appended_on u.state s.text c.taken c.outgoing u.bytes text_is))))

  -- or it is cut off
  cut_so : c'.status.fate ≡ Cut → StandsBefore arrival (later_by c'.status.fate later) c' (past ++ entry event reply ∷ [])
  cut_so fate =
      let appended = (said s.session.says reply).bytes in
      stands_so c' (later_by c'.status.fate later) (past ++ entry event reply ∷ []) (record t { given = t.given ++ []; pending = []; fate = Cut }) Cut
      (is_cut t after [])
      (append-nil s.given ∙ st.same_given
      ∙ sym given) all_entries (ap (λ (f : Fate). later_by f later) (sym fate)) all_sits all_left fate refl (λ o. absurd (cc))
      (c.outgoing ++ appended, ap (λ (xs : List ℕ). xs ++ appended) text_is ∙ append_assoc c.taken c.outgoing appended ∙ ap (λ (xs : List ℕ). xs ++ (c.outgoing ++ appended)) (sym taken))

  pub answered_as : (f : Fate) → c'.status.fate ≡ f → IsAppendedAs f reply c.session c.outgoing c'.session c'.outgoing
      → StandsBefore arrival (later_by c'.status.fate later) c' (past ++ entry event reply ∷ [])
  answered_as Open fate appended = appended_so (fate ∙ appended.0) appended.1 appended.2
  answered_as Ended fate appended = appended_so (fate ∙ appended.0) appended.1 appended.2
  answered_as Closed fate appended = appended_so (fate ∙ appended.0) appended.1 appended.2
  answered_as Cut fate appended = cut_so fate
