-- Connections, as their worker sees them.
use Rattle.std.specs.Prelude.{◌≡◌, ℕ, suc, Bool, true, false, not, ◌&&◌, Option, Some, None, List, []}
use Rattle.std.specs.List.{position, remove}
use Rattle.radio_addr.specs.declared.peer.Peer.{Peer}
use Rattle.radio_events.specs.declared.event.Event.{Event}
use Rattle.radio_events.specs.declared.reply.Reply.{Reply}
use Rattle.radio_answers.specs.declared.web_answers.WebAnswers.{WebAnswers}
use Rattle.radio_session.specs.Conversation.{Conversation, fresh, asking}
use Rattle.radio_session.specs.Exchanges.{is_leave}
use Rattle.radio_session.specs.Saying.{said}
use Rattle.radio_connections.specs.declared.conn.Fate.{Fate}
use Rattle.radio_connections.specs.declared.conn.Fate.TheVariants.{Open, Ended, Closed, Cut}
use Rattle.radio_connections.specs.declared.conn.ConnStatus.{ConnStatus}
use Rattle.radio_connections.specs.Lines.{Calls}

abbrev pub is_open : Fate → Bool
is_open Open = true
is_open fate = false

-- how many of a connection's events were refused for want of memory, and how many of these were the leaving of a client
-- rule: Pending bytes first
pub record Refused : Type 0 where
  pub events : ℕ
  pub leavings : ℕ

abbrev pub no_refusals : Refused
no_refusals = record { events = 0; leavings = 0 }

-- one more was refused, a leaving or not
abbrev pub refused_one : Bool → Refused → Refused
refused_one true refused = record { events = suc refused.events; leavings = suc refused.leavings }
refused_one false refused = record { events = suc refused.events; leavings = refused.leavings }

abbrev pub one_refusal : Event → Refused → Refused
one_refusal event refused = refused_one (is_leave event) refused

-- A connection: the number of its client, all that its line gave and took, and how often the line was called. Then what is
-- pending, its session, what its worker notes of it, and what was refused to it.
pub record Connection : Type 0 where
  -- 0 if it has no client
  pub id : ℕ
  pub given : List ℕ
  pub taken : List ℕ
  pub calls : Calls
  pub outgoing : List ℕ
  pub session : Conversation
  pub status : ConnStatus
  pub refused : Refused

-- at this moment it comes, and nothing was asked yet
abbrev pub status_at : Fate → Bool → ℕ → ConnStatus
status_at fate has_left ms =
    record { fate = fate; has_left = has_left; sits = false; is_behind = false; has_taken = false; is_finished = false; asked_ms = ms; moved_ms = ms }

-- a client was let in, whose line gave and took this, and was called so often
abbrev pub newly_come : WebAnswers → ℕ → Peer → List ℕ → List ℕ → Calls → ℕ → Connection
newly_come web id peer given taken calls ms =
    record { id = id; given = given; taken = taken; calls = calls; outgoing = []; session = fresh web id peer; status = status_at Open false ms; refused = no_refusals }

-- a connection without a client, whose conversation has ended with this
abbrev pub newly_ended : List ℕ → List ℕ → Calls → List ℕ → Conversation → ℕ → Connection
newly_ended given taken calls outgoing session ms =
    record { id = 0; given = given; taken = taken; calls = calls; outgoing = outgoing; session = session; status = status_at Ended true ms; refused = no_refusals }

-- it is still to be served: it is not over, or its client has not left
abbrev pub stays_with : Fate → Bool → Bool
stays_with Closed has_left = not has_left
stays_with Cut has_left = not has_left
stays_with fate has_left = true

abbrev pub stays : Connection → Bool
stays c = stays_with c.status.fate c.status.has_left

-- nothing more is written on it, its client has left or was none, and it is kept only until its peer has closed
-- rule: Most that linger
abbrev pub lingers : Connection → Bool
lingers c = c.status.is_finished && c.status.has_left

abbrev pub without_at : Option ℕ → List Connection → List Connection
without_at None cs = cs
without_at (Some i) cs = remove cs i

-- the connections without the first lingering one
-- rule: Most that linger
abbrev pub without_first : List Connection → List Connection
without_first cs = without_at (position lingers cs) cs

-- a client was not let in, and its answer is pending; its line gave and took this
pub record ClientIsTurnedAway (web : WebAnswers) (denial : Reply) (given taken : List ℕ) (ms : ℕ) (c : Connection) : Type 0 where
  pub id : c.id ≡ 0
  pub given_so_far : c.given ≡ given
  pub taken_so_far : c.taken ≡ taken
  pub web_of_it : c.session.says.web ≡ web
  pub outgoing : c.outgoing ≡ (said (asking web) denial).bytes
  pub status : c.status ≡ status_at Ended true ms
