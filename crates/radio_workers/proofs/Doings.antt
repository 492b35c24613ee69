-- What a worker has done, one step after another.
use Rattle.std.proofs.Common.{◌≡◌, ℕ, Bool, true, false, List, [], Result, Ok, Err, OnOk, OnErr, sym, subst}
use Rattle.radio_addr.specs.declared.peer.Peer.{Peer}
use Rattle.radio_events.specs.declared.event.Event.{Event}
use Rattle.radio_events.specs.Servers.{Steps}
use Rattle.radio_workers.proofs.Words.{Connection, HasParted, without_oldest, WorkerHasDone, HasOnlyAsked, MayRefuse, ShiftOf, shift_of, admitted, closed, nothing_yet, parted, served, turned_off}
use Rattle.radio_serving.specs.Admission.{IsAdmission, IsTurnedOff}
use Rattle.radio_serving.specs.declared.turn.Turn.{Turn}
use Rattle.radio_serving.specs.Turns.{IsTurn}
use Rattle.radio_serving.specs.Watching.{WatchedOf, WatchedSteps}
use Rattle.radio_serving.specs.Workers.{WorkerOf}

module _ {S : Type 0} (steps : Steps S) (refuses : S → Event → Type 0) where
  pub done_none : (shift : ShiftOf S) → WorkerHasDone steps refuses shift shift
  done_none shift = nothing_yet

  pub done_then : (first second third : ShiftOf S) → WorkerHasDone steps refuses first second → WorkerHasDone steps refuses second third
      → WorkerHasDone steps refuses first third
  done_then first second third before nothing_yet = before
  done_then first second third before (admitted worker after sources conns conns' was asked peer is) =
      admitted worker after sources conns conns' (done_then first second (shift_of worker sources conns) before was) asked peer is
  done_then first second third before (turned_off worker after sources conns was asked peer is) =
      turned_off worker after sources conns (done_then first second (shift_of worker sources conns) before was) asked peer is
  done_then first second third before (served worker between after sources conns sources' conns' was turn news one other) =
      served worker between after sources conns sources' conns' (done_then first second (shift_of worker sources conns) before was) turn news one other
  done_then first second third before (parted worker sources conns sources' conns' was is) =
      parted worker sources conns sources' conns' (done_then first second (shift_of worker sources conns) before was) is
  done_then first second third before (closed worker sources conns sources' conns' was is) =
      closed worker sources conns sources' conns' (done_then first second (shift_of worker sources conns) before was) is

  -- nothing has changed
  pub done_same : (worker after : WorkerOf (WatchedOf S)) (sources conns sources' conns' : List Connection) → after ≡ worker → sources' ≡ sources
      → conns' ≡ conns → WorkerHasDone steps refuses (shift_of worker sources conns) (shift_of after sources' conns')
  done_same worker after sources conns sources' conns' e f g =
      subst (λ (w : WorkerOf (WatchedOf S)). WorkerHasDone steps refuses (shift_of worker sources conns) (shift_of w sources' conns')) (sym e)
      (subst (λ (xs : List Connection). WorkerHasDone steps refuses (shift_of worker sources conns) (shift_of worker xs conns')) (sym f)
      (subst (λ (xs : List Connection). WorkerHasDone steps refuses (shift_of worker sources conns) (shift_of worker sources xs)) (sym g) nothing_yet))

  -- a connection was taken in, or not
  pub done_admit : {E : Type 0} (result : Result (Unit {0}) E) (worker after : WorkerOf (WatchedOf S)) (sources conns conns' : List Connection) (peer : Peer)
      (given taken : List ℕ) → given ≡ [] → taken ≡ [] → HasOnlyAsked worker after
      → OnOk result (IsAdmission (WatchedSteps steps) worker.web peer given taken worker.server conns after.server conns')
      → OnErr result (conns' ≡ conns) → OnErr result (IsTurnedOff (WatchedSteps steps) peer worker.server after.server)
      → WorkerHasDone steps refuses (shift_of worker sources conns) (shift_of after sources conns')
  done_admit (Ok u) worker after sources conns conns' peer given taken no_reads no_writes asked is same off =
      admitted worker after sources conns conns' nothing_yet asked peer
      (subst (λ (xs : List ℕ). IsAdmission (WatchedSteps steps) worker.web peer [] xs worker.server conns after.server conns') no_writes
      (subst (λ (xs : List ℕ). IsAdmission (WatchedSteps steps) worker.web peer xs taken worker.server conns after.server conns') no_reads is))
  done_admit (Err e) worker after sources conns conns' peer given taken no_reads no_writes asked is same off =
      subst (λ (xs : List Connection). WorkerHasDone steps refuses (shift_of worker sources conns) (shift_of after sources xs)) (sym same)
      (turned_off worker after sources conns nothing_yet asked peer off)

  -- a connection was moved to those of sources, or not
  pub done_part : (is_moved : Bool) (worker after : WorkerOf (WatchedOf S)) (sources conns sources' conns' : List Connection) → after ≡ worker
      → HasParted is_moved worker.server.feeding sources conns sources' conns'
      → WorkerHasDone steps refuses (shift_of worker sources conns) (shift_of after sources' conns')
  done_part true worker after sources conns sources' conns' same is =
      subst (λ (w : WorkerOf (WatchedOf S)). WorkerHasDone steps refuses (shift_of worker sources conns) (shift_of w sources' conns')) (sym same)
      (parted worker sources conns sources' conns' nothing_yet is)
  done_part false worker after sources conns sources' conns' same is = done_same worker after sources conns sources' conns' same is.0 is.1

  -- one that lingers was closed
  pub done_close : (worker after : WorkerOf (WatchedOf S)) (sources conns sources' conns' : List Connection) → after ≡ worker
      → (sources', conns') ≡ without_oldest sources conns → WorkerHasDone steps refuses (shift_of worker sources conns) (shift_of after sources' conns')
  done_close worker after sources conns sources' conns' same is =
      subst (λ (w : WorkerOf (WatchedOf S)). WorkerHasDone steps refuses (shift_of worker sources conns) (shift_of w sources' conns')) (sym same)
      (closed worker sources conns sources' conns' nothing_yet is)

  -- a turn was made
  pub done_turn : (worker between after : WorkerOf (WatchedOf S)) (sources conns sources' conns' : List Connection) (turn : Turn) (news : Bool)
      → IsTurn (WatchedSteps steps) (MayRefuse steps refuses) turn worker sources between sources'
      → IsTurn (WatchedSteps steps) (MayRefuse steps refuses) (record turn { news = news }) between conns after conns'
      → WorkerHasDone steps refuses (shift_of worker sources conns) (shift_of after sources' conns')
  done_turn worker between after sources conns sources' conns' turn news one other =
      served worker between after sources conns sources' conns' nothing_yet turn news one other
