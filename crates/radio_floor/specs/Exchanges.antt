-- The result of a connection's events from a state of the server.
use Rattle.std.specs.Prelude.{◌≡◌, ℕ, if◌then◌else◌, List, [], ◌∷◌}
use Rattle.radio_events.specs.declared.event.Event.{Event}
use Rattle.radio_events.specs.declared.event.Event.TheVariants.{Leave}
use Rattle.radio_events.specs.declared.reply.Reply.{Reply}
use Rattle.radio_parts_station.specs.World.{World}
use Rattle.radio_core.specs.Represents.{Represents}
use Rattle.radio_parts.specs.Step.{reply_to, world_after}
use Rattle.radio_session.specs.declared.session.Says.{Says}
use Rattle.radio_events.specs.declared.state.State.{State}
use Rattle.radio_events.specs.declared.state.State.TheVariants.{Running, Shut}
use Rattle.radio_session.specs.Exchanges.{Exchange, ended_with, is_leave, nothing_exchanged, prefixed}
use Rattle.radio_session.specs.Saying.{Said, said}

-- the state after them, and what was exchanged
pub record WorldExchange : Type 0 where
  pub world : World
  pub exchange : Exchange

abbrev pub left_after : World → ℕ → Event → World
left_after w id event = (if is_leave event then w else world_after w (Leave id))

abbrev pub then_exchanged : World → ℕ → Event → Said → State → WorldExchange → WorldExchange
then_exchanged w id event written Running others = record { world = others.world; exchange = prefixed written.bytes others.exchange }
then_exchanged w id event written (Shut ending) others = record { world = left_after w id event; exchange = ended_with written ending }

-- the result of the client's events from this state
abbrev pub exchanged : World → ℕ → Says → List Event → WorldExchange
exchanged w id says [] = record { world = w; exchange = nothing_exchanged says }
exchanged w id says (event ∷ events) =
    let written = said says (reply_to w event) in
    then_exchanged (world_after w event) id event written written.state (exchanged (world_after w event) id written.says events)

-- the core represents the state after, and this was exchanged
pub record ExchangesAs (core' : World) (x : Exchange) (of : WorldExchange) : Type 0 where
  pub stands : Represents core' of.world
  pub same : x ≡ of.exchange

-- the replies to events, one after another, from this state
abbrev pub replies_to : World → List Event → List Reply
replies_to w [] = []
replies_to w (event ∷ events) = reply_to w event ∷ replies_to (world_after w event) events
