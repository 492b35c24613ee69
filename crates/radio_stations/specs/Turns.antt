-- One connection over all turns in which a worker served it.
use Rattle.std.specs.Prelude.{◌≡◌, ℕ, Bool, true, List, [], ◌∷◌}
use Rattle.std.specs.List.{flat_map}
use Rattle.radio_addr.specs.declared.peer.Peer.{Peer}
use Rattle.radio_answers.specs.declared.web_answers.WebAnswers.{WebAnswers}
use Rattle.radio_events.specs.declared.entry.Entry.{Entry}
use Rattle.radio_events.specs.declared.event.Event.TheVariants.{Arrive}
use Rattle.radio_events.specs.declared.reply.Reply.{Reply}
use Rattle.radio_events.specs.declared.reply.Reply.TheVariants.{Arrived}
use Rattle.radio_events.specs.Events.{entry}
use Rattle.radio_events.specs.Servers.{Steps}
use Rattle.radio_session.specs.Conversation.{asking}
use Rattle.radio_session.specs.Saying.{said}
use Rattle.radio_connections.specs.Admission.{IsTakenIn}
use Rattle.radio_connections.specs.Connections.{Connection}
use Rattle.radio_connections.specs.Course.{LetsNobodyIn}
use Rattle.radio_connections.specs.Serving.{IsHanded, ServesInTurn, Stands}
use Rattle.radio_stations.specs.Meaning.{MeansItsBytes}

-- A connection was let in under this number, and these entries were made for it since. Its arrival and these are the course of one connection.
-- The bytes that its line took, followed by those that still wait to be written, are the bytes of the replies. If it was cut off, its line
-- took a front of them; if it was closed, all of them. The entries are those that its bytes mean.
pub record IsServedThrough (web : WebAnswers) (peer : Peer) (id : ℕ) (c : Connection) (applied : List Entry) : Type 0 where
  pub same : c.id ≡ id
  pub stands : Stands (record { web = web; peer = peer; reply = Arrived id }) c (entry (Arrive peer) (Arrived id) ∷ applied)
  pub means : MeansItsBytes web peer id c.given c.status.fate applied

-- A connection whose client was not let in, by this reply, is nobody's, and nothing is applied for it. The bytes that its line took, and those
-- that still wait, are those of that reply. If it was cut off, its line took a front of them.
pub record IsNotLetIn (web : WebAnswers) (reply : Reply) (c : Connection) (applied : List Entry) : Type 0 where
  pub none : applied ≡ []
  pub nobodys : c.status.has_left ≡ true
  pub handed : IsHanded c.status.fate (said (asking web) reply).bytes c.taken c.outgoing

module _ {S : Type 0} (steps : Steps S) where
  -- its part of one turn: the moment, how long its line may take nothing, whether there was news. And the server and the connection before and after it
  pub record ConnectionTurn : Type 0 where
    pub ms : ℕ
    pub patience : ℕ
    pub news : Bool
    pub from : S
    pub to : S
    pub before : Connection
    pub after : Connection
    pub serves : ServesInTurn steps ms patience news from before to after

  -- each turn finds the connection as the one before has left it; in between the server may have served others
  abbrev pub AreTurnsOf : Connection → List ConnectionTurn → Connection → Type 0
  AreTurnsOf c [] c' = c' ≡ c
  AreTurnsOf c (turn ∷ turns) c' = (turn.before ≡ c) × AreTurnsOf turn.after turns c'

  -- what was applied for it, in order
  abbrev pub applied_in : List ConnectionTurn → List Entry
  applied_in turns = flat_map (λ (turn : ConnectionTurn). turn.serves.entries) turns

  -- In any turns since a connection was let in, it is served through them.
  abbrev pub ConnectionsMeanTheirBytes : Type 0
  ConnectionsMeanTheirBytes = (web : WebAnswers) (peer : Peer) (id : ℕ) (first last : Connection) (turns : List ConnectionTurn)
      → IsTakenIn (record { web = web; peer = peer; reply = Arrived id }) [] [] first → AreTurnsOf first turns last
      → IsServedThrough web peer id last (applied_in turns)

  -- In any turns of a connection whose client was not let in, it is only answered.
  abbrev pub StrangersAreOnlyAnswered : Type 0
  StrangersAreOnlyAnswered = (web : WebAnswers) (peer : Peer) (reply : Reply) (first last : Connection) (turns : List ConnectionTurn) → LetsNobodyIn reply
      → IsTakenIn (record { web = web; peer = peer; reply = reply }) [] [] first → AreTurnsOf first turns last
      → IsNotLetIn web reply last (applied_in turns)
