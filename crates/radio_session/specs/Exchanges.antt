-- What a server and a connection exchange: each event of the connection is applied, and its reply is written.
use Rattle.std.specs.Prelude.{◌≡◌, ℕ, Bool, true, false, List, [], ◌∷◌, ◌++◌}
use Rattle.radio_events.specs.declared.event.Event.{Event}
use Rattle.radio_events.specs.declared.event.Event.TheVariants.{Leave}
use Rattle.radio_events.specs.declared.reply.Reply.{Reply}
use Rattle.radio_events.specs.Servers.{Steps}
use Rattle.radio_session.specs.declared.session.Says.{Says}
use Rattle.radio_events.specs.declared.state.State.{State}
use Rattle.radio_events.specs.declared.state.State.TheVariants.{Running, Shut}
use Rattle.radio_events.specs.declared.state.Ending.{Ending}
use Rattle.radio_session.specs.Saying.{Said, said}

-- the bytes that were written, how replies are written from then on, and whether the connection
-- goes on
pub record Exchange : Type 0 where
  pub bytes : List ℕ
  pub says : Says
  pub state : State

-- nothing was exchanged yet
abbrev pub nothing_exchanged : Says → Exchange
nothing_exchanged says = record { bytes = []; says = says; state = Running }

-- the exchange after these bytes
abbrev pub prefixed : List ℕ → Exchange → Exchange
prefixed bytes x = record x { bytes = bytes ++ x.bytes }

-- the connection ends with this
abbrev pub ended_with : Said → Ending → Exchange
ended_with written ending = record { bytes = written.bytes; says = written.says; state = Shut ending }

abbrev pub is_leave : Event → Bool
is_leave (Leave id) = true
is_leave event = false

-- The events are applied one after another, and each reply is written. If the connection ends, the other events are not applied.
-- The client then leaves, unless it has just left.
module _ {S : Type 0} (steps : Steps S) (id : ℕ) where
  abbrev pub LeavesAfter : Bool → S → S → Type 0
  LeavesAfter true from to = to ≡ from
  LeavesAfter false from to = (reply : Reply) × steps from (Leave id) reply to

  abbrev pub GoesOn : State → Event → Said → S → (Exchange → Type 0) → Exchange → S → Type 0
  GoesOn Running event written from Others x to = (others : Exchange) × Others others × (x ≡ prefixed written.bytes others)
  GoesOn (Shut ending) event written from Others x to = LeavesAfter (is_leave event) from to × (x ≡ ended_with written ending)

  -- rule: Line of a script
  abbrev pub Exchanges : Says → List Event → S → Exchange → S → Type 0
  Exchanges says [] from x to = (x ≡ nothing_exchanged says) × (to ≡ from)
  Exchanges says (event ∷ events) from x to =
      (reply : Reply) × (mid : S) × steps from event reply mid
      × GoesOn (said says reply).state event (said says reply) mid (λ others. Exchanges (said says reply).says events mid others to) x to
