-- The course of a connection: all that happens on it, in order, from its arrival to its end.
use Rattle.std.specs.Prelude.{◌≡◌, ℕ, Bool, true, false, ◌&&◌, ◌||◌, List, [], ◌∷◌, ◌++◌}
use Rattle.radio_addr.specs.declared.peer.Peer.{Peer}
use Rattle.radio_events.specs.declared.event.Event.{Event}
use Rattle.radio_events.specs.declared.event.Event.TheVariants.{Arrive, Listen, Draw, Leave}
use Rattle.radio_events.specs.declared.reply.Reply.{Reply}
use Rattle.radio_events.specs.declared.reply.Reply.TheVariants.{Arrived, Seated}
use Rattle.radio_events.specs.declared.entry.Entry.{Entry}
use Rattle.radio_events.specs.Events.{entry}
use Rattle.radio_events.specs.declared.state.State.{State}
use Rattle.radio_events.specs.declared.state.State.TheVariants.{Running, Shut}
use Rattle.radio_answers.specs.declared.web_answers.WebAnswers.{WebAnswers}
use Rattle.radio_session.specs.Conversation.{Conversation, fresh, asking, saying_now}
use Rattle.radio_session.specs.Hearing.{EventReading, IsHeard}
use Rattle.radio_session.specs.Saying.{said}
use Rattle.radio_session.specs.Exchanges.{is_leave}
use Rattle.radio_connections.specs.declared.conn.Fate.{Fate}
use Rattle.radio_connections.specs.declared.conn.Fate.TheVariants.{Open, Ended, Closed, Cut}
use Rattle.radio_connections.specs.Duties.{IsWritten}

-- how a connection came: by what the settings say its client is answered, from which peer it came, and the reply to that
pub record Arrival : Type 0 where
  pub web : WebAnswers
  pub peer : Peer
  pub reply : Reply

-- the reply admits no client
abbrev pub LetsNobodyIn : Reply → Type 0
LetsNobodyIn (Arrived id) = ⊥
LetsNobodyIn reply = Unit {0}

-- how far a connection has come
pub record Standing : Type 0 where
  -- the bytes that its line gave
  pub given : List ℕ
  -- the events that were applied for it, with their replies
  pub entries : List Entry
  -- what was written of the replies
  pub text : List ℕ
  -- its session
  pub session : Conversation
  -- what was read and is still to be applied
  pub pending : List Event
  -- whether a seat was given to it
  pub sits : Bool
  pub fate : Fate
  -- whether its client has left, or was none
  pub has_left : Bool

-- a client whose connection has just come, by what the settings say of its answers
abbrev pub newcomer : WebAnswers → Peer → ℕ → Standing
newcomer web peer id =
    record {
      given = [];
      entries = entry (Arrive peer) (Arrived id) ∷ [];
      text = [];
      session = fresh web id peer;
      pending = [];
      sits = false;
      fate =
          Open;
      has_left = false;
    }

-- a connection whose client was not let in: the reply is written to it, and it has no number
abbrev pub stranger : Arrival → Standing
stranger arrival =
    record {
      given = [];
      entries = [];
      text = (said (asking arrival.web) arrival.reply).bytes;
      session = fresh arrival.web 0 arrival.peer;
      pending = [];
      sits = false;
      fate = Ended;
      has_left =
          true;
    }

abbrev pub is_listen : Event → Bool
is_listen (Listen asked) = true
is_listen event = false

abbrev pub is_seated : Reply → Bool
is_seated (Seated interval shown) = true
is_seated reply = false

-- a seat is given
abbrev pub is_seat : Event → Reply → Bool
is_seat event reply = is_listen event && is_seated reply

-- a connection that is shut has ended, and what was read after that is not applied
abbrev pub fate_by : State → Fate
fate_by Running = Open
fate_by (Shut ending) = Ended

abbrev pub pending_by : State → List Event → List Event
pending_by Running events = events
pending_by (Shut ending) events = []

-- an event of the connection is applied, and the reply is written
-- rule: Reading
abbrev pub standing_after_reply : Standing → Event → List Event → Reply → Standing
standing_after_reply s event later reply = let appended = said s.session.says reply in record s {
  entries = s.entries ++ entry event reply ∷ [];
  text = s.text ++ appended.bytes;
  session = saying_now s.session appended.says;
  pending = pending_by appended.state later;
  sits = is_seat event reply || s.sits;
  fate = fate_by appended.state;
  has_left = is_leave event || s.has_left;
}

-- the conversation is over
abbrev pub IsOver : Fate → Type 0
IsOver Open = ⊥
IsOver fate = Unit {0}

-- it goes on, and all that was read has been applied
abbrev pub HasAllApplied : Standing → Type 0
HasAllApplied s = (s.fate ≡ Open) × (s.pending ≡ [])

-- What can have happened on the connection of this client, which came so, up to now.
-- rule: Reading
pub data Course (arrival : Arrival) (id : ℕ) : Standing → Type 0 where
  -- it comes, and is let in, or not
  arrives : arrival.reply ≡ Arrived id → Course arrival id (newcomer arrival.web arrival.peer id)
  turned_away : LetsNobodyIn arrival.reply → Course arrival id (stranger arrival)
  -- its line gives bytes, and they are read as these events
  hears : (s : Standing) → Course arrival id s → HasAllApplied s → (bytes : List ℕ) (heard : EventReading) → IsHeard s.session bytes heard
      → Course arrival id (record s { given = s.given ++ bytes; session = heard.conversation; pending = heard.events })
  -- it has room for so many bytes of data
  has_room : (s : Standing) → Course arrival id s → HasAllApplied s → (room : ℕ) → Course arrival id (record s { pending = Draw id room ∷ [] })
  -- the first of the events is applied
  applies : (s : Standing) → Course arrival id s → s.fate ≡ Open → (event : Event) (later : List Event) → s.pending ≡ event ∷ later → (reply : Reply)
      → Course arrival id (standing_after_reply s event later reply)
  -- nothing more comes on its line, or nothing more is written on it; one that was cut off is not
  -- closed
  closes : (s : Standing) → Course arrival id s → IsWritten s.fate → s.pending ≡ [] → Course arrival id (record s { fate = Closed })
  -- it is cut off: bytes that came are not read, events are not applied, or not all is written
  is_cut : (s : Standing) → Course arrival id s → (unheard : List ℕ) → Course arrival id (record s { given = s.given ++ unheard; pending = []; fate = Cut })
  -- what arrives after its end is ignored
  passes_over : (s : Standing) → Course arrival id s → s.fate ≡ Ended → (bytes : List ℕ) → Course arrival id (record s { given = s.given ++ bytes })
  -- its client leaves, once it is over
  leaves : (s : Standing) → Course arrival id s → IsOver s.fate → s.has_left ≡ false → (reply : Reply)
      → Course arrival id (record s { entries = s.entries ++ entry (Leave id) reply ∷ []; has_left = true })
