-- Events that take no memory: their replies have no text, and their changes need none.
use Rattle.radio_parts.proofs.Words.{if◌then◌else◌, nat_lt, Event, Arrive, Source, Push, SourceEnd, Title, Listen, Draw, Command, Leave, RelayUp, RelayDown, Clock, Outcome, Standing, Unknown, Undecided, Feeds, Sits}
use Rattle.radio_parts.proofs.Words.{Answered, Finished, Noted, Stray, Nothing, End, Tick, leaves_from, goes_down_from, says, if_feeding, unless_relayed, planned, ChangeTakesNoMemory, outcome, EventTakesNoMemory, World}
use Rattle.radio_parts.proofs.Words.{standing_of, has_relay, CanStep}
use Rattle.std.proofs.Common.{◌≡◌, Bool, true, false, ℕ, List, sym, subst}
use Rattle.radio_events.specs.Replies.{HoldsNoText}

-- its reply has no text, and its change needs no memory
abbrev pub IsSmall : Outcome → Type 0
IsSmall o = HoldsNoText o.reply × ChangeTakesNoMemory o.change

unless_by : (relayed : Bool) (o : Outcome) → IsSmall o → IsSmall (unless_relayed relayed o)
unless_by true o small = (tt, tt)
unless_by false o small = small

end_by : (id : ℕ) (relayed : Bool) (s : Standing) → IsSmall (if_feeding s (λ (mount : List ℕ). unless_relayed relayed (says Noted (End id mount))))
end_by id relayed Unknown = (tt, tt)
end_by id relayed (Undecided peer) = (tt, tt)
end_by id relayed (Feeds mount) = unless_by relayed (says Noted (End id mount)) (tt, tt)
end_by id relayed Sits = (tt, tt)
end_by id relayed Answered = (tt, tt)
end_by id relayed (Finished rule) = (tt, tt)

leave_by : (id : ℕ) (s : Standing) → IsSmall (leaves_from id s)
leave_by id Unknown = (tt, tt)
leave_by id (Undecided peer) = (tt, tt)
leave_by id (Feeds mount) = (tt, tt)
leave_by id Sits = (tt, tt)
leave_by id Answered = (tt, tt)
leave_by id (Finished rule) = (tt, tt)

down_from : (id : ℕ) (s : Standing) → IsSmall (goes_down_from id s)
down_from id Unknown = (tt, tt)
down_from id (Undecided peer) = (tt, tt)
down_from id (Feeds mount) = (tt, tt)
down_from id Sits = (tt, tt)
down_from id Answered = (tt, tt)
down_from id (Finished rule) = (tt, tt)

down_by : (id : ℕ) (relayed : Bool) (s : Standing) → IsSmall (if relayed then goes_down_from id s else says Stray Nothing)
down_by id true s = down_from id s
down_by id false s = (tt, tt)

clock_by : (ms : ℕ) (b : Bool) → IsSmall (says Noted (if b then Nothing else Tick ms))
clock_by ms true = (tt, tt)
clock_by ms false = (tt, tt)

pub small_outcome : (w : World) (event : Event) → EventTakesNoMemory event → IsSmall (planned w event)
unfolding planned outcome
small_outcome w (SourceEnd id) small = end_by id (has_relay w id) (standing_of w id)
small_outcome w (Leave id) small = unless_by (has_relay w id) (leaves_from id (standing_of w id)) (leave_by id (standing_of w id))
small_outcome w (RelayDown id) small = down_by id (has_relay w id) (standing_of w id)
small_outcome w (Clock ms) small = clock_by ms (nat_lt ms w.station.time)
small_outcome w (Arrive peer) small = absurd small
small_outcome w (Source asked) small = absurd small
small_outcome w (Push id block) small = absurd small
small_outcome w (Title id text) small = absurd small
small_outcome w (Listen asked) small = absurd small
small_outcome w (Draw id room) small = absurd small
small_outcome w (Command asked) small = absurd small
small_outcome w (RelayUp mount shown) small = absurd small

pub small_can : (w : World) (event : Event) → EventTakesNoMemory event → CanStep w event
small_can w (Arrive peer) small = tt
small_can w (Source asked) small = tt
small_can w (Push id block) small = tt
small_can w (SourceEnd id) small = tt
small_can w (Title id text) small = tt
small_can w (Listen asked) small = tt
small_can w (Draw id room) small = absurd small
small_can w (Command asked) small = tt
small_can w (Leave id) small = tt
small_can w (RelayUp mount shown) small = tt
small_can w (RelayDown id) small = tt
small_can w (Clock ms) small = tt

-- an outcome as it was worked out
module _ (w : World) (event : Event) (o : Outcome) (is_planned : o ≡ planned w event) (small : EventTakesNoMemory event) where
  pub small_reply : HoldsNoText o.reply
  small_reply = subst (λ (x : Outcome). HoldsNoText x.reply) (sym is_planned) (small_outcome w event small).0

  pub small_change : ChangeTakesNoMemory o.change
  small_change = subst (λ (x : Outcome). ChangeTakesNoMemory x.change) (sym is_planned) (small_outcome w event small).1
