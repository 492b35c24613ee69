-- Laws on pulls over a core, for callers.
use Rattle.std.specs.Prelude.{◌≡◌, ℕ, List, Option}
use Rattle.radio_events.specs.declared.event.Event.{Event}
use Rattle.radio_parts_station.specs.World.{World}
use Rattle.radio_core.specs.Represents.{Represents, core_steps}
use Rattle.radio_parts.specs.Step.{Step}
use Rattle.radio_events.specs.declared.state.State.{State}
use Rattle.radio_relay.specs.Pulling.{Pulling, NumberedState}
use Rattle.radio_relay.specs.Course.{AsksIf, GoesDown, Takes}

-- Whatever state the core represented, the same comes about from that, and the core represents the state after
-- it.
abbrev pub AsItsState : (core core' : World) → (World → World → Type 0) → Type 0
AsItsState core core' Comes = (w : World) → Represents core w → (w' : World) × Represents core' w' × Comes w w'

-- the next bytes arrive on a pull over a core
abbrev pub CoresTakeAsTheirStates : Type 0
CoresTakeAsTheirStates = (pulling pulling' : Pulling) (bytes : List ℕ) (state : State) (core core' : World)
    → Takes core_steps pulling bytes core pulling' state core' → AsItsState core core' (λ w w'. Takes Step pulling bytes w pulling' state w')

-- an event that a relay asks for is applied to a core
abbrev pub CoresAskAsTheirStates : Type 0
CoresAskAsTheirStates = (number : Option ℕ) (event : Option Event) (after : NumberedState) (core core' : World) → AsksIf core_steps number event core after core'
    → AsItsState core core' (λ w w'. AsksIf Step number event w after w')

-- a relay goes down over a core
abbrev pub CoresGoDownAsTheirStates : Type 0
CoresGoDownAsTheirStates = (number : Option ℕ) (core core' : World) → GoesDown core_steps number core core'
    → AsItsState core core' (λ w w'. GoesDown Step number w w')

-- bytes that arrive on a pull have one result
abbrev pub TakingIsOne : Type 0
TakingIsOne = (pulling one other : Pulling) (bytes : List ℕ) (ends stops : State) (w w1 w2 : World) → Takes Step pulling bytes w one ends w1
    → Takes Step pulling bytes w other stops w2 → (one ≡ other) × (ends ≡ stops) × (w1 ≡ w2)

-- so does an event that a relay asks for
abbrev pub AskingIsOne : Type 0
AskingIsOne = (number : Option ℕ) (event : Option Event) (one other : NumberedState) (w w1 w2 : World) → AsksIf Step number event w one w1
    → AsksIf Step number event w other w2 → (one ≡ other) × (w1 ≡ w2)

-- and its end
abbrev pub GoingDownIsOne : Type 0
GoingDownIsOne = (number : Option ℕ) (w w1 w2 : World) → GoesDown Step number w w1 → GoesDown Step number w w2 → w1 ≡ w2
