-- A relay's connection to its master, turn after turn.
use Rattle.std.specs.Prelude.{◌≡◌, ℕ, suc, Bool, true, false, ◌-◌, List, [], ◌++◌, length, take, Option, None, Some, Result, Ok, Err}
use Rattle.radio_events.specs.declared.state.State.{State}
use Rattle.radio_events.specs.declared.state.State.TheVariants.{Running, Shut}
use Rattle.radio_events.specs.declared.entry.Entry.{Entry}
use Rattle.radio_events.specs.Servers.{Chain, Steps}
use Rattle.radio_connections.specs.Lines.{Calls}
use Rattle.radio_heads.specs.declared.outcome.HeadFault.{HeadFault}
use Rattle.radio_heads.specs.declared.outcome.Progress.{Progress}
use Rattle.radio_heads.specs.declared.outcome.Progress.TheVariants.{More, Whole}
use Rattle.radio_heads.specs.Response.{ResponseParts}
use Rattle.radio_relay.specs.Applied.{AreAtMostOfTurn, AreOfTurn, number_after}
use Rattle.radio_relay.specs.Pulling.{Pulling}
use Rattle.radio_masters.specs.declared.mount_pull.PullTurn.{PullTurn}
use Rattle.radio_masters.specs.declared.mount_pull.PullTurn.TheVariants.{Running as GoesOn, Shut as IsShut, Closed, Failed, OutOfMemory}

-- what was pending and what the line took became these: it took the front of what was pending
pub record FrontIsTaken (outgoing taken outgoing' taken' : List ℕ) : Type 0 where
  pub part : List ℕ
  pub front : outgoing ≡ part ++ outgoing'
  pub took : taken' ≡ taken ++ part

-- a line that was written to has failed by that, or has not
abbrev pub HasBorne : Bool → Calls → Calls → Type 0
HasBorne true before now = (now.reads ≡ before.reads) × (now.faults ≡ before.faults) × (now.closings ≡ before.closings)
HasBorne false before now = now.faults ≡ suc before.faults

-- how far the head of an answer may reach, in bytes
abbrev pub max_head : ℕ
max_head = 8192

-- the front of an answer, when these bytes have come behind it: they are added as far as a head may reach
abbrev pub front_with : List ℕ → List ℕ → List ℕ
front_with front bytes = front ++ take (max_head - length front) bytes

-- the status of an answer whose front is read so
abbrev pub status_in : Result (Progress ResponseParts) HeadFault → Option ℕ
status_in (Ok (Whole head length)) = Some head.status
status_in (Ok More) = None
status_in (Err fault) = None

-- A pull over a line: what is still to be written of the request, all that the line gave and took, and how often it was called.
-- Then the front of the answer.
pub record PullOver : Type 0 where
  pub relay : Pulling
  pub outgoing : List ℕ
  pub given : List ℕ
  pub taken : List ℕ
  pub calls : Calls
  pub front : List ℕ

-- the result of a turn if the pull has this state
abbrev pub turn_by_state : State → PullTurn
turn_by_state Running = GoesOn
turn_by_state (Shut ending) = IsShut ending

-- the front of the answer is kept, unless memory was refused
abbrev pub KeepsFront : PullTurn → List ℕ → List ℕ → List ℕ → Type 0
KeepsFront OutOfMemory front bytes front' = Unit {0}
KeepsFront turn front bytes front' = front' ≡ front_with front bytes

-- a turn that does not end by its line
abbrev pub GoesOnHere : PullTurn → Type 0
GoesOnHere Closed = ⊥
GoesOnHere Failed = ⊥
GoesOnHere turn = Unit {0}

-- by a turn's end the line has reported that its master has closed, or that it has failed; else it was read from
-- once
abbrev pub IsCalledIn : PullTurn → Calls → Calls → Type 0
IsCalledIn Closed before now = now.closings ≡ suc before.closings
IsCalledIn Failed before now = now.faults ≡ suc before.faults
IsCalledIn turn before now = now.reads ≡ suc before.reads

module _ {S : Type 0} (steps : Steps S) where
  -- these events were applied one after another, and no others
  pub record AppliesAll (relay : Pulling) (bytes : List ℕ) (from : S) (relay' : Pulling) (state : State) (to : S) : Type 0 where
    pub entries : List Entry
    pub chain : Chain steps from entries to
    pub are : AreOfTurn relay bytes entries relay' state

  -- memory was refused: at most the first of these events were applied, and no others
  pub record AppliesAtMost (relay : Pulling) (bytes : List ℕ) (from : S) (relay' : Pulling) (to : S) : Type 0 where
    pub entries : List Entry
    pub chain : Chain steps from entries to
    pub are : AreAtMostOfTurn relay bytes entries
    pub numbered : relay'.number ≡ number_after relay.number entries

  -- its result by the turn's end; if the line is over nothing came
  -- rule: Turn of a pull
  abbrev pub Comes : Pulling → List ℕ → S → PullTurn → Pulling → S → Type 0
  Comes relay bytes from GoesOn relay' to = AppliesAll relay bytes from relay' Running to
  Comes relay bytes from (IsShut ending) relay' to = AppliesAll relay bytes from relay' (Shut ending) to
  Comes relay bytes from Closed relay' to = (bytes ≡ []) × (relay' ≡ relay) × (to ≡ from)
  Comes relay bytes from Failed relay' to = (bytes ≡ []) × (relay' ≡ relay) × (to ≡ from)
  Comes relay bytes from OutOfMemory relay' to = AppliesAtMost relay bytes from relay' to

  -- A turn: the line takes the front of what is pending, and is read once, unless it has failed by then. Then the relay has the
  -- result of what the line gave.
  -- rule: Turn of a pull
  pub record IsPullTurn (pull : PullOver) (from : S) (turn : PullTurn) (pull' : PullOver) (to : S) : Type 0 where
    pub bytes : List ℕ
    pub written : FrontIsTaken pull.outgoing pull.taken pull'.outgoing pull'.taken
    pub given : pull'.given ≡ pull.given ++ bytes
    pub comes : Comes pull.relay bytes from turn pull'.relay to
    pub called : IsCalledIn turn pull.calls pull'.calls
    pub front : KeepsFront turn pull.front bytes pull'.front
