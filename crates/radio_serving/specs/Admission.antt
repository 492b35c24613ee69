-- How a worker takes a connection in.
use Rattle.std.specs.Prelude.{◌≡◌, ◌⊎◌, ℕ, List, [], ◌∷◌, ◌++◌}
use Rattle.radio_addr.specs.declared.peer.Peer.{Peer}
use Rattle.radio_events.specs.declared.event.Event.TheVariants.{Arrive}
use Rattle.radio_events.specs.declared.reply.Reply.{Reply}
use Rattle.radio_events.specs.Servers.{Steps}
use Rattle.radio_answers.specs.declared.web_answers.WebAnswers.{WebAnswers}
use Rattle.radio_connections.specs.Connections.{Connection}
use Rattle.radio_connections.specs.Course.{LetsNobodyIn}
use Rattle.radio_connections.specs.Admission.{IsTakenIn}

-- the arrival was applied, and the connection is added behind the others
-- rule: Newcomers
pub record IsAdmission {S : Type 0} (steps : Steps S) (web : WebAnswers) (peer : Peer) (given taken : List ℕ) (from : S) (conns : List Connection) (to : S)
    (conns' : List Connection) : Type 0 where
  pub reply : Reply
  pub newcomer : Connection
  pub step : steps from (Arrive peer) reply to
  pub added : conns' ≡ conns ++ newcomer ∷ []
  pub taken_in : IsTakenIn (record { web = web; peer = peer; reply = reply }) given taken newcomer
  pub answers : newcomer.session.says.web ≡ web

-- the arrival was not applied, or its reply let nobody in
-- rule: Newcomers
abbrev pub IsTurnedOff : {S : Type 0} → Steps S → Peer → S → S → Type 0
IsTurnedOff {S} steps peer from to = (to ≡ from) ⊎ ((reply : Reply) × steps from (Arrive peer) reply to × LetsNobodyIn reply)
