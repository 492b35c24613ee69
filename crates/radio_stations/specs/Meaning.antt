-- What was applied for a connection, and what the bytes of its line mean.
use Rattle.std.specs.Prelude.{◌≡◌, ◌⊎◌, ℕ, List, [], ◌∷◌, ◌++◌}
use Rattle.radio_addr.specs.declared.peer.Peer.{Peer}
use Rattle.radio_answers.specs.declared.web_answers.WebAnswers.{WebAnswers}
use Rattle.radio_events.specs.declared.entry.Entry.{Entry}
use Rattle.radio_events.specs.declared.event.Event.{Event}
use Rattle.radio_events.specs.declared.event.Event.TheVariants.{Draw}
use Rattle.radio_events.specs.declared.state.Ending.{Ending}
use Rattle.radio_events.specs.declared.state.State.TheVariants.{Shut}
use Rattle.radio_session.specs.declared.session.Says.{Says}
use Rattle.radio_session.specs.Conversation.{Conversation, fresh}
use Rattle.radio_session.specs.Cuts.{Atom, atoms, unheard}
use Rattle.radio_session.specs.Hearing.{EventReading, IsHeard}
use Rattle.radio_session.specs.Saying.{said}
use Rattle.radio_connections.specs.declared.conn.Fate.{Fate}
use Rattle.radio_connections.specs.declared.conn.Fate.TheVariants.{Open, Ended, Closed}
use Rattle.radio_connections.specs.Duties.{IsAtMostLeaving, events_of}

-- These events are those that were asked, each once and in their order, with draws of this client among them.
pub data HasDrawsAmong (id : ℕ) : List Event → List Event → Type 0 where
  nothing : HasDrawsAmong id [] []
  asks : (event : Event) (applied asked : List Event) → HasDrawsAmong id applied asked → HasDrawsAmong id (event ∷ applied) (event ∷ asked)
  draws : (room : ℕ) (applied asked : List Event) → HasDrawsAmong id applied asked → HasDrawsAmong id (Draw id room ∷ applied) asked

-- this is the reading of the bytes in one piece; without bytes nothing was read
abbrev pub IsHeardInOne : Conversation → List ℕ → EventReading → Type 0
IsHeardInOne conversation bytes heard = ((bytes ≡ []) × (heard ≡ unheard conversation)) ⊎ IsHeard conversation bytes heard

-- the reply to the last of these entries shuts a conversation
pub record HasShut (entries : List Entry) : Type 0 where
  pub before : List Entry
  pub last : Entry
  pub in_order : entries ≡ before ++ last ∷ []
  pub says : Says
  pub ending : Ending
  pub shut : (said says last.reply).state ≡ Shut ending

-- A client arrived from this peer, to be answered by these settings, and was given this number. Since then its line gave these bytes, and these
-- entries were applied for it. They are, in order, the events that the bytes mean in one piece, with its draws among them. Its leaving is
-- the last.
pub record MeansItsBytes (web : WebAnswers) (peer : Peer) (id : ℕ) (given : List ℕ) (fate : Fate) (applied : List Entry) : Type 0 where
  -- what was read, and what came after the end of the conversation, or as it was cut off
  pub read : List ℕ
  pub unread : List ℕ
  pub gives : given ≡ read ++ unread
  pub heard : EventReading
  pub is_heard : IsHeardInOne (fresh web id peer) read heard
  -- what was applied while it went on, and its leaving
  pub made : List Entry
  pub left : List Entry
  pub all : applied ≡ made ++ left
  pub leaves : IsAtMostLeaving id left
  pub asked : List Event
  pub draws_among : HasDrawsAmong id (events_of made) asked
  -- these are the first of what the bytes mean, but for where blocks are cut
  pub unapplied : List Atom
  pub is_front : atoms heard.events ≡ atoms asked ++ unapplied
  -- and all of it, as long as it goes on
  pub goes_on : fate ≡ Open → (unread ≡ []) × (unapplied ≡ []) × (left ≡ [])
  -- it ends by the reply to the last of them
  pub ends : fate ≡ Ended → HasShut made
  -- it is closed when all was applied, or after its end
  pub closes : fate ≡ Closed → ((unread ≡ []) × (unapplied ≡ [])) ⊎ HasShut made
