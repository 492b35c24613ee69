-- Connections that have ended and linger.
use Rattle.std.proofs.Common.{◌≡◌, inl, inr, ◌<◌, ◌≤◌, ◌-◌, nat_le, arith, ℕ, true, false, [], ap, sym, subst, ◌∙◌}
use Rattle.radio_connections.specs.declared.line.Received.{Received}
use Rattle.radio_connections.specs.declared.line.Received.TheVariants.{Bytes, Nothing, Closed as HasClosed, Fault}
use Rattle.radio_connections.specs.declared.conn.Fate.TheVariants.{Ended, Closed}
use Rattle.radio_connections.specs.declared.conn.ConnStatus.{ConnStatus}
use Rattle.radio_connections.specs.Lines.{Calls, calls_after_read}
use Rattle.radio_connections.specs.Connections.{Connection, is_open}
use Rattle.radio_connections.specs.Duties.{IsReadOnce, HasEnded, WhyClosed, LineHasEnded, LingeredOn, Lingers}
use Rattle.radio_connections.specs.Serving.{IsServed}
use Rattle.radio_connections.specs.Leaving.{HasAnswered, is_over, NotesFinish, StaysEnded}
use Rattle.radio_connections.proofs.Deeds.{le_by, lt_by, closed_not_cut, closed_not_ended, ended_not_cut}

-- what a read reports of an end is counted
answered_by_read : (received : Received) (room : ℕ) (before after : Calls) → after ≡ calls_after_read received room before → HasAnswered received before after
answered_by_read (Bytes n) room before after e = (ap (λ (x : Calls). x.closings) e, ap (λ (x : Calls). x.faults) e)
answered_by_read Nothing room before after e = (ap (λ (x : Calls). x.closings) e, ap (λ (x : Calls). x.faults) e)
answered_by_read HasClosed room before after e = omega (arith, ap (λ (x : Calls). x.closings) e)
answered_by_read Fault room before after e = omega (arith, ap (λ (x : Calls). x.faults) e)

pub answered_as : {a b : Connection} {after : Calls} (received : Received) (room : ℕ) → a ≡ b → after ≡ calls_after_read received room a.calls
    → HasAnswered received b.calls after
answered_as {a} {b} {after} received room e calls =
    subst (λ (o : Connection). HasAnswered received o.calls after) e (answered_by_read received room a.calls after calls)

-- what is noted of the end stays so
finished_then : (ms : ℕ) (a b c : Connection) → NotesFinish ms a b → c.status.is_finished ≡ b.status.is_finished → c.status.moved_ms ≡ b.status.moved_ms
    → NotesFinish ms a c
finished_then ms a b c (inl same) finished moved = inl (finished ∙ same.0, moved ∙ same.1)
finished_then ms a b c (inr now) finished moved = inr ((now.0.0, finished ∙ now.0.1), moved ∙ now.1)

-- a second behind a moment that is now has not passed
pub not_long : (ms moved : ℕ) → moved ≡ ms → 1000 ≤ ms - moved → ⊥
not_long ms moved now long = omega (arith, now, long)

module _ (ms : ℕ) (a m c : Connection) (ended : a.status.fate ≡ Ended) (is_finished : m.status.is_finished ≡ true) (notes : NotesFinish ms a m) (calls : m.calls ≡ a.calls) where
  long_before : NotesFinish ms a m → 1000 ≤ ms - m.status.moved_ms → WhyClosed ms a c
  long_before (inl same) long =
      LingeredOn (record { ended = ended; finished = sym same.0 ∙ is_finished; long = subst (λ (n : ℕ). 1000 ≤ ms - n) same.1 long })
  long_before (inr now) long = absurd (not_long ms m.status.moved_ms now.1 long)

  -- why it is closed, by an answer to a read
  closed_by_answer : (received : Received) → HasAnswered received m.calls c.calls → is_over received (nat_le 1000 (ms - m.status.moved_ms)) ≡ true
      → WhyClosed ms a c
  closed_by_answer (Bytes n) answered over = long_before notes (le_by _ _ over)
  closed_by_answer Nothing answered over = long_before notes (le_by _ _ over)
  closed_by_answer HasClosed answered over = LineHasEnded (inl (omega (arith, ap (λ (x : Calls). x.closings) calls, answered)))
  closed_by_answer Fault answered over = LineHasEnded (inr (omega (arith, ap (λ (x : Calls). x.faults) calls, answered)))

  by_count : (c.calls.closings ≡ m.calls.closings) → (c.calls.faults ≡ m.calls.faults) → HasEnded a c → ⊥
  by_count closings faults (inl more) = omega (arith, ap (λ (x : Calls). x.closings) calls, closings, more)
  by_count closings faults (inr more) = omega (arith, ap (λ (x : Calls). x.faults) calls, faults, more)

  lingers_with : c.status.has_taken ≡ true → c.status.is_finished ≡ m.status.is_finished → c.status.moved_ms ≡ m.status.moved_ms → IsReadOnce a c
      → (HasEnded a c → ⊥) → ms - m.status.moved_ms < 1000 → Lingers ms a c
  lingers_with taken finished moved read goes in_time = record {
    written = taken;
    finished = finished ∙ is_finished;
    read = read;
    goes = goes;
    in_time = subst (λ (n : ℕ). ms - n < 1000) (sym moved) in_time;
  }

  -- or it lingers
  lingers_by_answer : c.status.has_taken ≡ true → c.status.is_finished ≡ m.status.is_finished → c.status.moved_ms ≡ m.status.moved_ms → IsReadOnce a c
      → (received : Received) → HasAnswered received m.calls c.calls → is_over received (nat_le 1000 (ms - m.status.moved_ms)) ≡ false
      → Lingers ms a c
  lingers_by_answer taken finished moved read (Bytes n) answered over =
      lingers_with taken finished moved read (by_count answered.0 answered.1) (lt_by _ _ over)
  lingers_by_answer taken finished moved read Nothing answered over =
      lingers_with taken finished moved read (by_count answered.0 answered.1) (lt_by _ _ over)
  lingers_by_answer taken finished moved read HasClosed answered over = absurd (cc)
  lingers_by_answer taken finished moved read Fault answered over = absurd (cc)

-- what is noted of one that is closed now
pub closed_status : {s t : ConnStatus} → s ≡ t → record s { fate = Closed } ≡ record t { fate = Closed }
closed_status {s} {t} e = ap (λ (x : ConnStatus). let y : ConnStatus = record x { fate = Closed } in y) e

-- It was closed for writing and read from. By the answer it is closed,
pub ended_by_close : {ms : ℕ} {a c : Connection} (m n : Connection) → a.status.fate ≡ Ended → m.status.is_finished ≡ true → NotesFinish ms a m
    → m.calls ≡ a.calls → (received : Received) → HasAnswered received m.calls n.calls → is_over received (nat_le 1000 (ms - m.status.moved_ms)) ≡ true
    → n.status ≡ m.status → IsServed a [] c → IsReadOnce a c → c.calls ≡ n.calls → c.taken ≡ a.taken → c.status ≡ record n.status { fate = Closed }
    → n.status.has_taken ≡ a.status.has_taken → StaysEnded ms a c
ended_by_close {ms} {a} {c} m n ended is_finished notes calls received answered over same served read still taken status has_taken = record {
  served = served;
  over = ap (λ (s : ConnStatus). is_open s.fate) status;
  whole = λ e. closed_not_cut (sym (ap (λ (s : ConnStatus). s.fate) status) ∙ e);
  once = inr read;
  taken = taken;
  has_taken = ap (λ (s : ConnStatus). s.has_taken) status ∙ has_taken;
  noted =
      finished_then ms a m c notes (ap (λ (s : ConnStatus). s.is_finished) status ∙ ap (λ (s : ConnStatus). s.is_finished) same)
      (ap (λ (s : ConnStatus). s.moved_ms) status ∙ ap (λ (s : ConnStatus). s.moved_ms) same);
  closed =
      λ e. closed_by_answer ms a m c ended is_finished notes calls received (subst (λ (k : Calls). HasAnswered received m.calls k) (sym still) answered) over;
  lingers = λ e. absurd (closed_not_ended (sym (ap (λ (s : ConnStatus). s.fate) status) ∙ e));
}

-- or it lingers.
pub ended_by_lingering : {ms : ℕ} {a c : Connection} (m : Connection) → a.status.fate ≡ Ended → a.status.has_taken ≡ true → m.status.is_finished ≡ true
    → NotesFinish ms a m → m.calls ≡ a.calls → (received : Received) → HasAnswered received m.calls c.calls
    → is_over received (nat_le 1000 (ms - m.status.moved_ms)) ≡ false → c.status ≡ m.status → m.status.fate ≡ a.status.fate → IsServed a [] c
    → IsReadOnce a c → c.taken ≡ a.taken → m.status.has_taken ≡ a.status.has_taken → StaysEnded ms a c
ended_by_lingering {ms} {a} {c} m ended written is_finished notes calls received answered over same fate served read taken has_taken =
    let goes : c.status.fate ≡ Ended = ap (λ (s : ConnStatus). s.fate) same ∙ fate ∙ ended in
    let kept : c.status.has_taken ≡ a.status.has_taken = ap (λ (s : ConnStatus). s.has_taken) same ∙ has_taken in
    record {
      served = served;
      over = ap is_open goes;
      whole = ended_not_cut c.status.fate goes;
      once = inr read;
      taken = taken;
      has_taken = kept;
      noted = finished_then ms a m c notes (ap (λ (s : ConnStatus). s.is_finished) same) (ap (λ (s : ConnStatus). s.moved_ms) same);
      closed = λ e. absurd (closed_not_ended (sym e ∙ goes));
      lingers = λ e. lingers_by_answer ms a m c ended is_finished notes calls (kept ∙ written) (ap (λ (s : ConnStatus). s.is_finished) same)
          (ap (λ (s : ConnStatus). s.moved_ms) same) read received answered over;
    }
