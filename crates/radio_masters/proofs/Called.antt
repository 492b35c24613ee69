-- What a turn over a line came to.
use Rattle.std.proofs.Common.{◌≡◌, subst, ℕ, suc, List, ◌++◌}
use Rattle.radio_masters.proofs.Words.{Calls, Steps, PullTurn, ListOver, Comes, GoesOnHere, IsCalledIn, IsPullTurn, FrontIsTaken, KeepsFront, PullOver, front_with}
use Rattle.radio_masters.specs.declared.mount_pull.PullTurn.TheVariants.{Running, Shut, Closed, Failed, OutOfMemory}

-- a turn that does not end by its line, and has read from it once
pub called_on : (turn : PullTurn) (before now : Calls) → GoesOnHere turn → now.reads ≡ suc before.reads → IsCalledIn turn before now
called_on Running before now goes e = e
called_on (Shut ending) before now goes e = e
called_on Closed before now goes e = absurd goes
called_on Failed before now goes e = absurd goes
called_on OutOfMemory before now goes e = e

-- a turn for which the front was kept
pub kept_on : (turn : PullTurn) (front bytes front' : List ℕ) → front' ≡ front_with front bytes → KeepsFront turn front bytes front'
kept_on Running front bytes front' e = e
kept_on (Shut ending) front bytes front' e = e
kept_on Closed front bytes front' e = e
kept_on Failed front bytes front' e = e
kept_on OutOfMemory front bytes front' e = tt

-- a turn in which bytes came, by the state of the pull within it
pub turn_with_bytes : {S : Type 0} (steps : Steps S) (pull before after : PullOver) (bytes : List ℕ) (from to : S) (turn : PullTurn) → before ≡ pull
    → FrontIsTaken before.outgoing before.taken after.outgoing after.taken → after.given ≡ before.given ++ bytes
    → Comes steps before.relay bytes from turn after.relay to → IsCalledIn turn before.calls after.calls
    → KeepsFront turn before.front bytes after.front → IsPullTurn steps pull from turn after to
turn_with_bytes steps pull before after bytes from to turn e written given comes called front =
    subst (λ (p : PullOver). IsPullTurn steps p from turn after to) e
    (record { bytes = bytes; written = written; given = given; comes = comes; called = called; front = front })

-- the bytes that a line gave follow those that came before
abbrev pub Came : List ℕ → List ℕ → ListOver → Type 0
Came given came pull = (bytes : List ℕ) × (given ≡ pull.given ++ bytes) × (came ≡ pull.came ++ bytes)
