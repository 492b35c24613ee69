-- What a connection reads does not depend on how its bytes were cut.
use Rattle.std.specs.Prelude.{◌≡◌, ◌≢◌, ℕ, List, [], ◌∷◌, ◌++◌, map, option_map}
use Rattle.std.specs.List.{concat, flat_map}
use Rattle.radio_events.specs.declared.event.Event.{Event}
use Rattle.radio_events.specs.declared.event.Event.TheVariants.{Push}
use Rattle.radio_session.specs.declared.session.Closing.{Closing}
use Rattle.radio_session.specs.Conversation.{Conversation}
use Rattle.radio_session.specs.Hearing.{EventReading, IsHeard}

-- a byte of a source's data, or another event
pub data Atom : Type 0 where
  datum : ℕ → ℕ → Atom
  other : Event → Atom

-- an event taken apart: a block becomes its bytes
abbrev pub event_atoms : Event → List Atom
event_atoms (Push id block) = map (datum id) block
event_atoms event = other event ∷ []

abbrev pub atoms : List Event → List Atom
atoms events = flat_map event_atoms events

-- the closing if no other reply comes before the one with the last word
abbrev pub awaiting_none : Closing → Closing
awaiting_none closing = record closing { awaits = 0 }

-- the conversation after all replies but the last
abbrev pub with_replies_given : Conversation → Conversation
with_replies_given conversation = record conversation { says = record conversation.says { closing = option_map awaiting_none conversation.says.closing } }

-- The events are the same, except for the cuts between blocks. The conversation after all replies but the last is the same too.
pub record AreHeardAlike (one other : EventReading) : Type 0 where
  pub events : atoms one.events ≡ atoms other.events
  pub conversation : with_replies_given one.conversation ≡ with_replies_given other.conversation

-- one piece or more; joined, the pieces are these bytes
-- rule: Cuts do not matter
pub record IsCutting (bytes : List ℕ) (pieces : List (List ℕ)) : Type 0 where
  pub some : pieces ≢ []
  pub joined : concat pieces ≡ bytes

-- nothing was read yet
abbrev pub unheard : Conversation → EventReading
unheard conversation = record { events = []; conversation = conversation }

-- the events of one piece and then of the others
abbrev pub heard_then : EventReading → EventReading → EventReading
heard_then one others = record { events = one.events ++ others.events; conversation = others.conversation }

-- the pieces arrive one after another, and together they are read as this
-- rule: Cuts do not matter
abbrev pub IsHeardIn : Conversation → List (List ℕ) → EventReading → Type 0
IsHeardIn conversation [] heard = heard ≡ unheard conversation
IsHeardIn conversation (piece ∷ pieces) heard =
    (one : EventReading) × IsHeard conversation piece one × (others : EventReading) × IsHeardIn one.conversation pieces others × (heard ≡ heard_then one others)

-- Two cuttings of the same bytes are read alike.
-- rule: Cuts do not matter
abbrev pub CutsDoNotMatter : Type 0
CutsDoNotMatter = (conversation : Conversation) (bytes : List ℕ) (pieces others : List (List ℕ)) (one other : EventReading) →
    IsCutting bytes pieces → IsCutting bytes others →
    IsHeardIn conversation pieces one → IsHeardIn conversation others other → AreHeardAlike one other

-- Bytes in pieces are read as if they had arrived in one piece.
-- rule: Cuts do not matter
abbrev pub PiecesAreHeardAsOne : Type 0
PiecesAreHeardAsOne = (conversation : Conversation) (bytes : List ℕ) (pieces : List (List ℕ)) (cut whole : EventReading) →
    IsCutting bytes pieces → IsHeardIn conversation pieces cut → IsHeard conversation bytes whole → AreHeardAlike cut whole
