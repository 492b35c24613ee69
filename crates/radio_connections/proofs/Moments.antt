-- What is noted of a connection in a turn: what its line took, and when.
use Rattle.std.proofs.Common.{◌≡◌, ◌⊎◌, inl, inr, ℕ, Bool, true, List, ap}
use Rattle.std.proofs.Common.{[], ◌∷◌, ◌++◌, refl, sym, ◌∙◌, append_assoc, append-nil}
use Rattle.std.proofs.lemmas.Bool.{false≢true}
use Rattle.radio_events.specs.Servers.{Steps}
use Rattle.radio_connections.specs.declared.conn.Fate.{Fate}
use Rattle.radio_connections.specs.declared.conn.Fate.TheVariants.{Open, Ended, Closed, Cut}
use Rattle.radio_connections.specs.declared.conn.ConnStatus.{ConnStatus}
use Rattle.radio_connections.specs.Connections.{Connection}
use Rattle.radio_connections.specs.Duties.{IsLater, HasTakenSome, IsIdle, IsFinishedNow, HasMoved, NotesTaking}
use Rattle.radio_connections.specs.Answering.{IsUnwritten}
use Rattle.radio_connections.specs.Leaving.{WriteIsNoted, TookNone, TookSome, IsFlushed, IsPatient, NotesFinish, Works, Leaves}
use Rattle.radio_connections.proofs.Askings.{unwritten_then}
use Rattle.radio_connections.proofs.Deeds.{none_behind}

-- what is the same with two lists behind it has nothing of the first
pub none_of_all : (xs ys zs : List ℕ) → (xs ++ ys) ++ zs ≡ xs → ys ≡ []
none_of_all xs ys zs e = first_none ys (none_behind xs (ys ++ zs) (sym (append_assoc xs ys zs) ∙ e)) where
  first_none : (ws : List ℕ) → ws ++ zs ≡ [] → ws ≡ []
  first_none [] e = refl
  first_none (w ∷ ws) e = absurd (cc)

-- if the line took nothing in all, it took nothing at first
pub taken_between : {a b c : Connection} → IsLater a b → IsLater b c → c.taken ≡ a.taken → b.taken ≡ a.taken
taken_between {a} {b} {c} first later same =
    first.taken.1
    ∙ ap (λ (xs : List ℕ). a.taken ++ xs) (none_of_all a.taken first.taken.0 later.taken.0 (sym (later.taken.1
    ∙ ap (λ (xs : List ℕ). xs ++ later.taken.0) first.taken.1) ∙ same))
    ∙ append-nil a.taken

pub open_or : (f : Fate) → (f ≡ Open) ⊎ (f ≡ Open → ⊥)
open_or Open = inl refl
open_or Ended = inr (λ e. cc)
open_or Closed = inr (λ e. cc)
open_or Cut = inr (λ e. cc)

-- a part of what is noted of a write

pub noted_finished : {ms : ℕ} {a b : Connection} → WriteIsNoted ms a b → b.status.is_finished ≡ a.status.is_finished
noted_finished {ms} {a} {b} (TookNone taken noted) = ap (λ (s : ConnStatus). s.is_finished) noted
noted_finished {ms} {a} {b} (TookSome some goes noted) = ap (λ (s : ConnStatus). s.is_finished) noted

pub noted_asked : {ms : ℕ} {a b : Connection} → WriteIsNoted ms a b → b.status.asked_ms ≡ a.status.asked_ms
noted_asked {ms} {a} {b} (TookNone taken noted) = ap (λ (s : ConnStatus). s.asked_ms) noted
noted_asked {ms} {a} {b} (TookSome some goes noted) = ap (λ (s : ConnStatus). s.asked_ms) noted

pub noted_left : {ms : ℕ} {a b : Connection} → WriteIsNoted ms a b → b.status.has_left ≡ a.status.has_left
noted_left {ms} {a} {b} (TookNone taken noted) = ap (λ (s : ConnStatus). s.has_left) noted
noted_left {ms} {a} {b} (TookSome some goes noted) = ap (λ (s : ConnStatus). s.has_left) noted

-- what is noted of what was taken is noted on
pub noted_on : {ms : ℕ} {a b : Connection} → WriteIsNoted ms a b → a.status.has_taken ≡ true → b.status.has_taken ≡ true
noted_on {ms} {a} {b} (TookNone taken noted) before = ap (λ (s : ConnStatus). s.has_taken) noted ∙ before
noted_on {ms} {a} {b} (TookSome some goes noted) before = ap (λ (s : ConnStatus). s.has_taken) noted

-- a write that took nothing is no write
pub unwritten_by : {ms : ℕ} {a b : Connection} → WriteIsNoted ms a b → b.taken ≡ a.taken → IsUnwritten a b
unwritten_by {ms} {a} {b} (TookNone taken noted) same = record {
  taken = same;
  moved = ap (λ (s : ConnStatus). s.moved_ms) noted;
  has_taken = ap (λ (s : ConnStatus). s.has_taken) noted;
  finished = ap (λ (s : ConnStatus). s.is_finished) noted;
}
unwritten_by {ms} {a} {b} (TookSome some goes noted) same = absurd (some same)

-- a write is noted, between two steps that write nothing
noted_between : {ms : ℕ} {a b c d : Connection} → IsUnwritten a b → WriteIsNoted ms b c → IsUnwritten c d
    → IsUnwritten a d ⊎ (HasTakenSome a d × (d.status.moved_ms ≡ ms) × (d.status.has_taken ≡ true))
noted_between {ms} {a} {b} {c} {d} before (TookNone taken noted) behind =
    inl (unwritten_then before (unwritten_then (unwritten_by {ms = ms} {a = b} {b = c} (TookNone taken noted) taken) behind))
noted_between {ms} {a} {b} {c} {d} before (TookSome some goes noted) behind = inr (
  (λ same. some (sym behind.taken ∙ same ∙ sym before.taken)),
  behind.moved ∙ ap (λ (s : ConnStatus). s.moved_ms) noted,
  behind.has_taken ∙ ap (λ (s : ConnStatus). s.has_taken) noted,
)

module _ {S : Type 0} (steps : Steps S) where
  -- nothing is written when a client leaves
  pub unwritten_by_leaving : {from to : S} {c c' : Connection} → Leaves steps from c to c' → IsUnwritten c c'
  unwritten_by_leaving {from} {to} {c} {c'} left = record {
    taken = left.same.taken;
    moved = ap (λ (s : ConnStatus). s.moved_ms) left.noted;
    has_taken = ap (λ (s : ConnStatus). s.has_taken) left.noted;
    finished = ap (λ (s : ConnStatus). s.is_finished) left.noted;
  }

  -- what is noted of a turn in which a connection is worked for
  module _ {news : Bool} {from one two to : S} {ms : ℕ} {a b c d e f : Connection} (first : IsFlushed ms a b) (none : b.outgoing ≡ [])
      (works : Works steps ms news from b one c) (left : Leaves steps one c two d) (last : IsFlushed ms d e) (over : Leaves steps two e to f)
      (later : IsLater b f) where
    behind : IsUnwritten c f ⊎ (HasTakenSome c f × (f.status.moved_ms ≡ ms) × (f.status.has_taken ≡ true))
    behind = noted_between (unwritten_by_leaving left) last.noted (unwritten_by_leaving over)

    pub finished_behind : f.status.is_finished ≡ c.status.is_finished
    finished_behind =
        (unwritten_by_leaving over).finished ∙ noted_finished last.noted ∙ (unwritten_by_leaving left).finished

    pub finished_before : b.status.is_finished ≡ a.status.is_finished
    finished_before = noted_finished first.noted

    -- the moment that was this is this
    moved_on : c.status.moved_ms ≡ ms → f.status.moved_ms ≡ ms
    moved_on now = by_rest behind where
      by_rest : IsUnwritten c f ⊎ (HasTakenSome c f × (f.status.moved_ms ≡ ms) × (f.status.has_taken ≡ true)) → f.status.moved_ms ≡ ms
      by_rest (inl same) = same.moved ∙ now
      by_rest (inr took) = took.1

    by_finish : NotesFinish ms b c → b.status.moved_ms ≡ ms → c.status.moved_ms ≡ ms
    by_finish (inl same) now = same.1 ∙ now
    by_finish (inr now_finished) now = now_finished.1

    worked_on : b.status.moved_ms ≡ ms → c.status.moved_ms ≡ ms
    worked_on now = by_fate (open_or b.status.fate) where
      by_fate : (b.status.fate ≡ Open) ⊎ (b.status.fate ≡ Open → ⊥) → c.status.moved_ms ≡ ms
      by_fate (inl goes) = (works.idle goes).0
      by_fate (inr rests) = by_finish (works.over rests) now

    by_some : HasTakenSome a f → f.status.moved_ms ≡ ms
    by_some some = by_first first.noted behind where
      by_first : WriteIsNoted ms a b → IsUnwritten c f ⊎ (HasTakenSome c f × (f.status.moved_ms ≡ ms) × (f.status.has_taken ≡ true)) → f.status.moved_ms ≡ ms
      by_first noted (inr took) = took.1
      by_first (TookSome took goes noted) (inl same) = same.moved ∙ worked_on (ap (λ (s : ConnStatus). s.moved_ms) noted)
      by_first (TookNone taken noted) (inl same) = absurd (some (same.taken ∙ works.taken ∙ taken))

    pub finished_in : IsFinishedNow a f → IsFinishedNow b c
    finished_in now_finished = (finished_before ∙ now_finished.0, sym finished_behind ∙ now_finished.1)

    by_finished : IsFinishedNow b c → c.status.moved_ms ≡ ms
    by_finished now_finished = by_notes (works.over (λ goes. false≢true (sym now_finished.0 ∙ sym (works.idle goes).1 ∙ now_finished.1))) where
      by_notes : NotesFinish ms b c → c.status.moved_ms ≡ ms
      by_notes (inl same) = absurd (false≢true (sym now_finished.0 ∙ sym same.0 ∙ now_finished.1))
      by_notes (inr now) = now.1

    pub moved_in_turn : HasMoved ms a f
    moved_in_turn (inl some) = by_some some
    moved_in_turn (inr (inl idle)) = moved_on (works.idle (first.idle idle.1 ∙ idle.0)).0
    moved_in_turn (inr (inr now_finished)) = moved_on (by_finished (finished_in now_finished))

    -- nothing was taken in the turn
    module _ (same : f.taken ≡ a.taken) where
      none_first : b.taken ≡ a.taken
      none_first = taken_between first.served.later later same

      none_last : IsUnwritten c f
      none_last = by_rest behind where
        by_rest : IsUnwritten c f ⊎ (HasTakenSome c f × (f.status.moved_ms ≡ ms) × (f.status.has_taken ≡ true)) → IsUnwritten c f
        by_rest (inl rests) = rests
        by_rest (inr took) = absurd (took.0 (same ∙ sym none_first ∙ sym works.taken))

      none_outgoing : a.outgoing ≡ []
      none_outgoing = none_behind a.taken a.outgoing (sym (first.all none) ∙ none_first)

      pub not_moved : (IsIdle a → ⊥) → (IsFinishedNow a f → ⊥) → f.status.moved_ms ≡ a.status.moved_ms
      not_moved busy unfinished =
          none_last.moved
          ∙ by_notes (works.over (λ goes. busy (sym (first.idle none_outgoing) ∙ goes, none_outgoing)))
          ∙ (unwritten_by first.noted none_first).moved where
            by_notes : NotesFinish ms b c → c.status.moved_ms ≡ b.status.moved_ms
            by_notes (inl kept) = kept.1
            by_notes (inr now_finished) = absurd (unfinished (sym finished_before ∙ now_finished.0.0, finished_behind ∙ now_finished.0.1))

      pub not_noted : f.status.has_taken ≡ a.status.has_taken
      not_noted = none_last.has_taken ∙ works.has_taken ∙ (unwritten_by first.noted none_first).has_taken

    noted_some : HasTakenSome a f → f.status.has_taken ≡ true
    noted_some some = by_first first.noted behind where
      by_first : WriteIsNoted ms a b → IsUnwritten c f ⊎ (HasTakenSome c f × (f.status.moved_ms ≡ ms) × (f.status.has_taken ≡ true)) → f.status.has_taken ≡ true
      by_first noted (inr took) = took.2
      by_first (TookSome took goes noted) (inl same) = same.has_taken ∙ works.has_taken ∙ ap (λ (s : ConnStatus). s.has_taken) noted
      by_first (TookNone taken noted) (inl same) = absurd (some (same.taken ∙ works.taken ∙ taken))

    pub notes_taking : NotesTaking a f
    notes_taking = record { some = noted_some; none = λ same. not_noted same }

  -- and of one in which it is not, since something is still pending
  module _ {from to : S} {ms patience : ℕ} {a b m c : Connection} (first : IsFlushed ms a b) (some : b.outgoing ≡ [] → ⊥) (rests : IsPatient ms patience b m)
      (left : Leaves steps from m to c) where
    pub unwritten_behind : IsUnwritten b c
    unwritten_behind = record {
      taken = left.same.taken ∙ rests.taken;
      moved = ap (λ (s : ConnStatus). s.moved_ms) left.noted ∙ ap (λ (s : ConnStatus). s.moved_ms) rests.noted;
      has_taken = ap (λ (s : ConnStatus). s.has_taken) left.noted ∙ ap (λ (s : ConnStatus). s.has_taken) rests.noted;
      finished = ap (λ (s : ConnStatus). s.is_finished) left.noted ∙ ap (λ (s : ConnStatus). s.is_finished) rests.noted;
    }

    pub kept_unfinished : IsFinishedNow a c → ⊥
    kept_unfinished now_finished = false≢true (sym now_finished.0 ∙ sym (noted_finished first.noted) ∙ sym unwritten_behind.finished ∙ now_finished.1)

    kept_by_some : HasTakenSome a c → WriteIsNoted ms a b → (c.status.moved_ms ≡ ms) × (c.status.has_taken ≡ true)
    kept_by_some took (TookNone taken noted) = absurd (took (unwritten_behind.taken ∙ taken))
    kept_by_some took (TookSome now goes noted) = (
      unwritten_behind.moved ∙ ap (λ (s : ConnStatus). s.moved_ms) noted,
      unwritten_behind.has_taken ∙ ap (λ (s : ConnStatus). s.has_taken) noted,
    )

    pub kept_moved : HasMoved ms a c
    kept_moved (inl took) = (kept_by_some took first.noted).0
    kept_moved (inr (inl idle)) = absurd (some (first.none idle.1))
    kept_moved (inr (inr now_finished)) = absurd (kept_unfinished now_finished)

    pub kept_same : c.taken ≡ a.taken → IsUnwritten a c
    kept_same same = unwritten_then (unwritten_by first.noted (sym unwritten_behind.taken ∙ same)) unwritten_behind

    pub kept_notes : NotesTaking a c
    kept_notes = record { some = λ took. (kept_by_some took first.noted).1; none = λ same. (kept_same same).has_taken }
