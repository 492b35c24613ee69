-- The word by which a transcript ends a connection.
use Rattle.std.specs.Prelude.{◌≡◌, ℕ, List, [], ◌∷◌, codes, None, Some}
use Rattle.radio_policy.specs.declared.rule.Rule.{Rule}
use Rattle.radio_policy.specs.declared.rule.Status.{Status}
use Rattle.radio_policy.specs.Words.{word_of, status_of}
use Rattle.radio_addr.specs.declared.peer.Peer.{Peer}
use Rattle.radio_heads.specs.Answer.{denial_text, source_text}
use Rattle.radio_events.specs.declared.event.Event.{Event}
use Rattle.radio_events.specs.declared.event.Event.TheVariants.{Arrive}
use Rattle.radio_events.specs.declared.reply.Reply.TheVariants.{Noted, Text, Deny, Finished}
use Rattle.radio_events.specs.declared.text.ReplyText.{ReplyText as CommandText}
use Rattle.radio_parts.specs.Step.{reply_to}
use Rattle.radio_script.specs.TranscriptLines.{answer_lines}
use Rattle.radio_session.specs.Conversation.{Conversation}
use Rattle.radio_answers.specs.Answers.{text_answer}
use Rattle.radio_answers.specs.WebAnswers.{answered_by}
use Rattle.radio_answers.specs.declared.web_answers.WebAnswers.{WebAnswers}
use Rattle.radio_session.specs.declared.session.Greeting.TheVariants.{Welcome, Continue}
use Rattle.radio_session.specs.declared.session.LastWord.TheVariants.{Complete, Faulty, Refusal}
use Rattle.radio_session.specs.LastWords.{IsAbout, IsAsking}
use Rattle.radio_floor.specs.ScriptState.{ScriptState, exchanges, closes, opens_connection}

-- whatever events were behind it, with this event these bytes are written to the connection of the label, and it is shut
-- with this word
abbrev pub ShutsWith : ScriptState → ℕ → Conversation → Event → List ℕ → List ℕ → Type 0
ShutsWith state label conversation event bytes word =
    (events : List Event) → (exchanges state label conversation (event ∷ events)).lines ≡ Some (answer_lines label bytes (Some word))

-- what was asked is denied by a rule: the lines show the answer that names it, and its word
-- rule: Answer to a denial
abbrev pub DenialsAreTold : Type 0
DenialsAreTold = (state : ScriptState) (label : ℕ) (conversation : Conversation) (event : Event) (rule : Rule) (status : Status)
    → IsAsking conversation.says → reply_to state.world event ≡ Deny rule → status_of rule ≡ Some status
    → ShutsWith state label conversation event
    (answered_by conversation.says.web (denial_text status (word_of rule))) (word_of rule)

-- a command was done: the lines show the answer that says so, and that the connection is done
-- rule: Commands by GET
abbrev pub CommandsAreTold : Type 0
CommandsAreTold = (state : ScriptState) (label : ℕ) (conversation : Conversation) (event : Event) (text : CommandText)
    → IsAsking conversation.says → reply_to state.world event ≡ Text text → ShutsWith state label conversation event (text_answer conversation.says.web text) (codes "done")

-- the client was finished by a rule: the line shows its word
-- rule: Finishes are silent
abbrev pub FinishesAreTold : Type 0
FinishesAreTold = (state : ScriptState) (label : ℕ) (conversation : Conversation) (event : Event) (rule : Rule)
    → reply_to state.world event ≡ Finished rule → ShutsWith state label conversation event [] (word_of rule)

-- the peer has closed: the line shows that the connection is done
-- rule: Last word
abbrev pub ClosedOnesAreDone : Type 0
ClosedOnesAreDone = (state : ScriptState) (label : ℕ) (conversation : Conversation)
    → (closes state label conversation).lines ≡ Some (answer_lines label [] (Some (codes "done")))

-- a connection arrives that the policy denies: the lines show its rule's word. If the rule has a status, the answer that names it is before the word.
-- a connection from a denied address is shut without bytes
abbrev pub DeniedArrivalsAreTold : Type 0
DeniedArrivalsAreTold = (web : WebAnswers) (state : ScriptState) (label : ℕ) (peer : Peer) (rule : Rule) → reply_to state.world (Arrive peer) ≡ Deny rule →
    (status_of rule ≡ None → (opens_connection web state label peer).lines ≡ Some (answer_lines label [] (Some (word_of rule))))
    × ((status : Status) → status_of rule ≡ Some status
    → (opens_connection web state label peer).lines ≡ Some (answer_lines label (answered_by web (denial_text status (word_of rule))) (Some (word_of rule))))

-- the connection refuses its bytes, by `bad-head` or `bad-method`, and its client leaves. The lines show the answer that names the rule, and its word
abbrev pub RefusalsAreTold : Type 0
RefusalsAreTold = (state : ScriptState) (label : ℕ) (conversation : Conversation) (event : Event) (rule : Rule) (status : Status)
    → IsAbout conversation.says (Refusal rule) → reply_to state.world event ≡ Noted → status_of rule ≡ Some status
    → ShutsWith state label conversation event (answered_by conversation.says.web (denial_text status (word_of rule))) (word_of rule)

-- there is a fault in the source's body: the line shows `bad-body`, and nothing else
abbrev pub FaultyBodiesAreTold : Type 0
FaultyBodiesAreTold = (state : ScriptState) (label : ℕ) (conversation : Conversation) (event : Event)
    → IsAbout conversation.says Faulty → reply_to state.world event ≡ Noted → ShutsWith state label conversation event [] (codes "bad-body")

-- the source's body is whole: the lines show `done`, behind the answer that it was admitted, if it was only asked to go on before
abbrev pub WholeBodiesAreTold : Type 0
WholeBodiesAreTold = (state : ScriptState) (label : ℕ) (conversation : Conversation) (event : Event)
    → IsAbout conversation.says Complete → reply_to state.world event ≡ Noted →
    (conversation.says.greeting ≡ Welcome → ShutsWith state label conversation event [] (codes "done"))
    × (conversation.says.greeting ≡ Continue → ShutsWith state label conversation event (answered_by conversation.says.web source_text) (codes "done"))

-- The word by which each connection of a client is shut, and the bytes before it.
pub record LastWordsAreTold : Type 0 where
  pub arrivals : DeniedArrivalsAreTold
  pub denied : DenialsAreTold
  pub refused : RefusalsAreTold
  pub finished : FinishesAreTold
  pub command : CommandsAreTold
  pub faulty : FaultyBodiesAreTold
  pub whole : WholeBodiesAreTold
  pub done : ClosedOnesAreDone
