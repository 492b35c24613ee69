-- The lines of a delivery show the last word of its connection.
use Rattle.std.proofs.Common.{◌≡◌, ℕ, List, Some, refl, ap, sym, subst, ◌∙◌}
use Rattle.radio_floor.proofs.Words.{Peer, WebAnswers, Event, Arrive, Reply, reply_to, world_after, State, Conversation, asking, said, WorldExchange, then_exchanged, exchanged, ScriptState, opens_connection}
use Rattle.radio_floor.proofs.Words.{written_lines}
use Rattle.radio_script.specs.TranscriptLines.{answer_lines}
use Rattle.radio_events.specs.Endings.{ending_word}
use Rattle.radio_session.specs.LastWords.{EndsWith, DenialsNameTheirRule, DoneCommandsAreAnswered, FaultyBodiesAreSilent, FinishesAreSilent, RefusalsNameTheirRule, RulesWithoutStatusAreSilent, WholeBodiesAreDone}
use Rattle.radio_floor.specs.LastWords.{ShutsWith, CommandsAreTold, DenialsAreTold, DeniedArrivalsAreTold, FaultyBodiesAreTold, FinishesAreTold, RefusalsAreTold, WholeBodiesAreTold}

abbrev lines_of : ℕ → WorldExchange → List ℕ
lines_of label x = written_lines label x.exchange.bytes x.exchange.state

-- the reply ends the connection
shuts_with : (state : ScriptState) (label : ℕ) (conversation : Conversation) (event : Event) (reply : Reply) (bytes word : List ℕ)
    → reply_to state.world event ≡ reply → EndsWith (said conversation.says reply) bytes word → ShutsWith state label conversation event bytes word
shuts_with state label conversation event reply bytes word replied ends events =
    let w = state.world in
    let written = said conversation.says (reply_to w event) in
    let others = exchanged (world_after w event) conversation.id written.says events in
    let e : EndsWith written bytes word = subst (λ (r : Reply). EndsWith (said conversation.says r) bytes word) (sym replied) ends in
    ap (λ (s : State). Some (lines_of label (then_exchanged (world_after w event) conversation.id event written s others))) e.shut
    ∙ ap (λ (xs : List ℕ). Some (answer_lines label xs (Some (ending_word e.ending)))) e.bytes_written
    ∙ ap (λ (xs : List ℕ). Some (answer_lines label bytes (Some xs))) e.last_word

pub denials_are_told : DenialsNameTheirRule → DenialsAreTold
denials_are_told law state label conversation event rule status asks replied known =
    shuts_with state label conversation event _ _ _ replied (law conversation.says rule status asks known)

pub commands_are_told : DoneCommandsAreAnswered → CommandsAreTold
commands_are_told law state label conversation event text asks replied =
    shuts_with state label conversation event _ _ _ replied (law conversation.says text asks)

pub finishes_are_told : FinishesAreSilent → FinishesAreTold
finishes_are_told law state label conversation event rule replied =
    shuts_with state label conversation event _ _ _ replied (law conversation.says rule)

-- the reply to an arrival ends the connection that arrives
opens_with : (web : WebAnswers) (state : ScriptState) (label : ℕ) (peer : Peer) (reply : Reply) (bytes word : List ℕ)
    → reply_to state.world (Arrive peer) ≡ reply → EndsWith (said (asking web) reply) bytes word
    → (opens_connection web state label peer).lines ≡ Some (answer_lines label bytes (Some word))
opens_with web state label peer reply bytes word replied ends =
    let written = said (asking web) (reply_to state.world (Arrive peer)) in
    let e : EndsWith written bytes word = subst (λ (r : Reply). EndsWith (said (asking web) r) bytes word) (sym replied) ends in
    ap (λ (s : State). Some (written_lines label written.bytes s)) e.shut
    ∙ ap (λ (xs : List ℕ). Some (answer_lines label xs (Some (ending_word e.ending)))) e.bytes_written
    ∙ ap (λ (xs : List ℕ). Some (answer_lines label bytes (Some xs))) e.last_word

pub denied_arrivals_are_told : DenialsNameTheirRule → RulesWithoutStatusAreSilent → DeniedArrivalsAreTold
denied_arrivals_are_told named silent web state label peer rule replied = (
  λ none. opens_with web state label peer _ _ _ replied (silent (asking web) rule none),
  λ status some. opens_with web state label peer _ _ _ replied (named (asking web) rule status refl some),
)

pub refusals_are_told : RefusalsNameTheirRule → RefusalsAreTold
refusals_are_told law state label conversation event rule status about replied known =
    shuts_with state label conversation event _ _ _ replied (law conversation.says rule status about known)

pub faulty_bodies_are_told : FaultyBodiesAreSilent → FaultyBodiesAreTold
faulty_bodies_are_told law state label conversation event about replied =
    shuts_with state label conversation event _ _ _ replied (law conversation.says about)

pub whole_bodies_are_told : WholeBodiesAreDone → WholeBodiesAreTold
whole_bodies_are_told law state label conversation event about replied = (
  λ welcome. shuts_with state label conversation event _ _ _ replied ((law conversation.says about).0 welcome),
  λ goes_on. shuts_with state label conversation event _ _ _ replied ((law conversation.says about).1 goes_on),
)
