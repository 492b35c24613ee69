-- What is written to a connection does not depend on how the bytes that arrive on it were cut.
use Rattle.std.specs.Prelude.{◌≡◌, ℕ, List, [], ◌∷◌, None}
use Rattle.radio_events.specs.declared.state.State.{State}
use Rattle.radio_events.specs.declared.state.State.TheVariants.{Running, Shut}
use Rattle.radio_session.specs.Conversation.{Conversation, saying_now}
use Rattle.radio_session.specs.Hearing.{EventReading, IsHeard}
use Rattle.radio_events.specs.Servers.{Steps}
use Rattle.radio_session.specs.Exchanges.{Exchange, Exchanges, nothing_exchanged, prefixed}
use Rattle.radio_session.specs.Cuts.{IsCutting}
use Rattle.radio_session.specs.DataServers.{GoesByData}

-- bytes arrive on a connection, and their events are exchanged
pub record IsTold {S : Type 0} (steps : Steps S) (conversation : Conversation) (bytes : List ℕ) (from : S)
    (x : Exchange) (after : Conversation) (to : S) : Type 0 where
  pub heard : EventReading
  pub is_heard : IsHeard conversation bytes heard
  pub is_exchanged : Exchanges steps conversation.id heard.conversation.says heard.events from x to
  pub goes_on : after ≡ saying_now heard.conversation x.says

-- after one piece the others follow if the connection goes on; once it is shut, it takes no piece
abbrev pub ThenTold : {S : Type 0} → State → Exchange → S → (Exchange → Type 0) → Exchange → S → Type 0
ThenTold Running one mid Others x to = (others : Exchange) × Others others × (x ≡ prefixed one.bytes others)
ThenTold (Shut ending) one mid Others x to = (x ≡ one) × (to ≡ mid)

module _ {S : Type 0} (steps : Steps S) where
  -- the pieces arrive one after another until the connection is shut, and their events are exchanged
  -- rule: Cuts do not matter
  abbrev pub IsToldIn : Conversation → List (List ℕ) → S → Exchange → S → Type 0
  IsToldIn conversation [] from x to = (x ≡ nothing_exchanged conversation.says) × (to ≡ from)
  IsToldIn conversation (piece ∷ pieces) from x to =
      (one : Exchange) × (between : Conversation) × (mid : S) × IsTold steps conversation piece from one between mid
      × ThenTold one.state one mid (λ others. IsToldIn between pieces mid others to) x to

-- the same bytes are written, and both connections go on, or both are shut with the same word
pub record AreToldAlike (one other : Exchange) : Type 0 where
  pub bytes : one.bytes ≡ other.bytes
  pub state : one.state ≡ other.state

-- For two cuttings of the same bytes the same is written to the connection, if nothing else happens between the pieces.
-- rule: Cuts do not matter
abbrev pub CutsAreToldAlike : {S : Type 0} → Steps S → Type 0
CutsAreToldAlike {S} steps = (conversation : Conversation) (bytes : List ℕ) (pieces others : List (List ℕ)) (from to end : S) (x y : Exchange) →
    GoesByData steps conversation.id → conversation.says.closing ≡ None →
    IsCutting bytes pieces → IsCutting bytes others →
    IsToldIn steps conversation pieces from x to → IsToldIn steps conversation others from y end → AreToldAlike x y

-- For bytes in pieces the same is written as if they had arrived in one piece.
-- rule: Cuts do not matter
abbrev pub PiecesAreToldAsOne : {S : Type 0} → Steps S → Type 0
PiecesAreToldAsOne {S} steps = (conversation after : Conversation) (bytes : List ℕ) (pieces : List (List ℕ)) (from to end : S) (cut whole : Exchange) →
    GoesByData steps conversation.id → conversation.says.closing ≡ None →
    IsCutting bytes pieces → IsToldIn steps conversation pieces from cut to → IsTold steps conversation bytes from whole after end → AreToldAlike cut whole
