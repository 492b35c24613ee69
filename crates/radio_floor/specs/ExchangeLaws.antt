-- Laws on exchanges with a core, for callers.
use Rattle.std.specs.Prelude.{◌≡◌, ℕ, List}
use Rattle.radio_events.specs.declared.event.Event.{Event}
use Rattle.radio_parts_station.specs.World.{World}
use Rattle.radio_core.specs.Represents.{Represents, core_steps}
use Rattle.radio_session.specs.declared.session.Says.{Says}
use Rattle.radio_session.specs.DataServers.{GoesByData}
use Rattle.radio_session.specs.Exchanges.{Exchange, Exchanges}
use Rattle.radio_session.specs.Told.{told}
use Rattle.radio_floor.specs.Exchanges.{ExchangesAs, exchanged, replies_to}

-- A connection's events have the same result over a core as from any state that it represents.
abbrev pub CoresExchangeAsTheirStates : Type 0
CoresExchangeAsTheirStates = (id : ℕ) (says : Says) (events : List Event) (core core' : World) (x : Exchange)
    → Exchanges core_steps id says events core x core' → (w : World) → Represents core w → ExchangesAs core' x (exchanged w id says events)

-- a core's replies depend on the data of each of its sources
abbrev pub CoresGoByData : Type 0
CoresGoByData = (id : ℕ) → GoesByData core_steps id

-- The bytes that are written for a connection's events are those of their replies.
abbrev pub ExchangesTellReplies : Type 0
ExchangesTellReplies = (w : World) (id : ℕ) (says : Says) (events : List Event) →
    (exchanged w id says events).exchange.bytes ≡ told says (replies_to w events)
