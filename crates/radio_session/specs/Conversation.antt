-- One connection's conversation with the server.
use Rattle.std.specs.Prelude.{◌≡◌, ℕ, Bool, false, List, [], None}
use Rattle.radio_addr.specs.declared.peer.Peer.{Peer}
use Rattle.radio_source.specs.Feeding.{unfed}
use Rattle.radio_session.specs.declared.session.Hears.{Hears}
use Rattle.radio_session.specs.declared.session.Hears.TheVariants.{Head, Body, Nothing}
use Rattle.radio_session.specs.declared.session.Says.{Says}
use Rattle.radio_session.specs.declared.session.Greeting.TheVariants.{Welcome}
use Rattle.radio_answers.specs.declared.web_answers.WebAnswers.{WebAnswers}

-- A conversation: the number of its client, its peer and the bytes of an unfinished head. Then how it reads and writes next, and
-- whether a call was refused memory.
pub record Conversation : Type 0 where
  pub id : ℕ
  pub peer : Peer
  pub held : List ℕ
  pub hears : Hears
  pub says : Says
  pub has_failed : Bool

-- the body that a connection is reading has answered neither its end nor a fault
abbrev pub IsOpen : Hears → Type 0
IsOpen Head = Unit {0}
IsOpen (Body body) = body ≡ unfed body.place
IsOpen Nothing = Unit {0}

-- how replies are written before anything was admitted
abbrev pub asking : WebAnswers → Says
asking web = record { web = web; is_admitted = false; greeting = Welcome; closing = None; weaver = None }

-- a conversation in which nothing was read or written yet
abbrev pub fresh : WebAnswers → ℕ → Peer → Conversation
fresh web id peer = record { id = id; peer = peer; held = []; hears = Head; says = asking web; has_failed = false }

-- the same conversation, which writes replies this way from now on
abbrev pub saying_now : Conversation → Says → Conversation
saying_now conversation says = record conversation { says = says }
