-- The pull of a relay: its state, and the events that it asks for.
use Rattle.std.specs.Prelude.{ℕ, Bool, true, false, List, [], Option, None, Some}
use Rattle.radio_events.specs.declared.event.Event.{Event}
use Rattle.radio_events.specs.declared.event.Event.TheVariants.{Push, Title, RelayUp}
use Rattle.radio_events.specs.declared.reply.Reply.{Reply}
use Rattle.radio_events.specs.declared.reply.Reply.TheVariants.{Arrived, Deny, Finished}
use Rattle.radio_relay.specs.declared.items.PullItem.{PullItem}
use Rattle.radio_relay.specs.declared.items.PullItem.TheVariants.{Up, Sound, Title as TitleItem}
use Rattle.radio_relay.specs.declared.pull.PullStage.{PullStage}
use Rattle.radio_relay.specs.declared.pull.PullStage.TheVariants.{Head}
use Rattle.radio_events.specs.declared.state.State.{State}
use Rattle.radio_events.specs.declared.state.State.TheVariants.{Running, Shut}
use Rattle.radio_events.specs.declared.state.Ending.{Ending}
use Rattle.radio_events.specs.declared.state.Ending.TheVariants.{By}

-- the local mount of the relay, the number under which it feeds that once it is up, and how far the master's answer has come
pub record Pulling : Type 0 where
  pub mount : List ℕ
  pub number : Option ℕ
  pub stage : PullStage

-- nothing has come
abbrev pub pulling_begun : List ℕ → Pulling
pulling_begun mount = record { mount = mount; number = None; stage = Head [] }

-- what an item asks for, of the relay of this number
abbrev pub event_of : List ℕ → ℕ → PullItem → Event
event_of mount id (Up shown) = RelayUp mount shown
event_of mount id (Sound block) = Push id block
event_of mount id (TitleItem text) = Title id text

-- a relay that is not up can but come up
-- rule: Head of a master
abbrev pub event_for : List ℕ → Option ℕ → PullItem → Option Event
event_for mount (Some id) item = Some (event_of mount id item)
event_for mount None (Up shown) = Some (RelayUp mount shown)
event_for mount None item = None

-- the making of an item's event takes memory: it does for what the head shows, and for nothing else
abbrev pub MakingTakesMemory : PullItem → Type 0
MakingTakesMemory (Up shown) = Unit {0}
MakingTakesMemory (Sound block) = ⊥
MakingTakesMemory (TitleItem text) = ⊥

-- the number of a relay, and whether its pull goes on
pub record NumberedState : Type 0 where
  pub number : Option ℕ
  pub state : State

abbrev pub running_pull : Option ℕ → NumberedState
running_pull number = record { number = number; state = Running }

abbrev pub shut_by : Option ℕ → Ending → NumberedState
shut_by number ending = record { number = number; state = Shut ending }

-- whether a pull is over
abbrev pub is_shut : State → Bool
is_shut Running = false
is_shut (Shut ending) = true

-- a relay that comes up is given its number, once
abbrev pub numbered : Option ℕ → ℕ → Option ℕ
numbered None id = Some id
numbered (Some number) id = Some number

-- what a reply makes of it
-- rule: Head of a master
abbrev pub state_after_reply : Option ℕ → Reply → NumberedState
state_after_reply number (Arrived id) = running_pull (numbered number id)
state_after_reply number (Deny rule) = shut_by number (By rule)
state_after_reply number (Finished rule) = shut_by number (By rule)
state_after_reply number reply = running_pull number
