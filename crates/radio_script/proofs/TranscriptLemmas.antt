-- Transcripts, line by line.
use Rattle.std.proofs.Common.{◌≡◌, ℕ, ◌+◌, inl, inr, true, nat_lt, ◌||◌, List, [], ◌∷◌, ◌++◌, length, Option, None, Some, Err, refl, sym, ap, subst, append-nil}
use Rattle.radio_script.proofs.Words.{max_line, max_lines, PlayFault, TooMuch, meaning_of, onto_delivery, deliveries_from, fault_or, fault_from, Conduct, Runs, run_fault, IsTranscript, YieldsText, IsAtFault}

-- no lines yield no text
pub no_lines : {P : Type 0} (performs : Conduct P) (p : P) (number : ℕ) → IsTranscript performs p number [] [] None p
no_lines performs p number = record { stop = None; run = (refl, refl, refl); ends = refl }

-- A line that is answered, and then the lines after it.
pub answered : {P : Type 0} (performs : Conduct P) (p : P) (number : ℕ) (line first : List ℕ) (between : P) (lines : List (List ℕ)) (rest : List ℕ)
    (fault : Option PlayFault) (q : P)
    → YieldsText performs p number line first between → IsTranscript performs between (number + 1) lines rest fault q
    → IsTranscript performs p number (line ∷ lines) (first ++ rest) fault q
answered performs p number line first between lines rest fault q a t =
    record {
      stop = t.stop;
      run = subst (λ m. Runs performs p number (onto_delivery m (deliveries_from (number + 1) lines)) (first ++ rest) t.stop q) (sym a.means)
          (inr (record { first = first; rest = rest; between = between; performed = a.performed; parts = refl; others = t.run }));
      ends = subst (λ m. fault ≡ run_fault t.stop (fault_or m (fault_from (number + 1) lines))) (sym a.means) t.ends;
    }

-- A line with a fault: nothing after it is played.
pub at_fault : {P : Type 0} (performs : Conduct P) (p : P) (number : ℕ) (line : List ℕ) (lines : List (List ℕ)) (fault : PlayFault) (q : P)
    → IsAtFault performs p number line fault q → IsTranscript performs p number (line ∷ lines) [] (Some fault) q
at_fault performs p number line lines fault q (inl m) =
    record {
      stop = None;
      run = subst (λ x. Runs performs p number (onto_delivery x (deliveries_from (number + 1) lines)) [] None q) (sym m.means) (refl, refl, m.unchanged);
      ends = subst (λ x. Some fault ≡ run_fault None (fault_or x (fault_from (number + 1) lines))) (sym m.means) refl;
    }
at_fault performs p number line lines fault q (inr s) =
    record {
      stop = Some number;
      run = subst (λ x. Runs performs p number (onto_delivery x (deliveries_from (number + 1) lines)) [] (Some number) q) (sym s.means)
          (inl (record { refused = s.refused; nothing = refl; here = refl }));
      ends = ap Some s.here;
    }

-- the last line, if it is answered
pub answered_last : {P : Type 0} (performs : Conduct P) (p : P) (number : ℕ) (line text : List ℕ) (q : P)
    → YieldsText performs p number line text q → IsTranscript performs p number (line ∷ []) text None q
answered_last performs p number line text q a =
    subst (λ t. IsTranscript performs p number (line ∷ []) t None q) (append-nil text)
    (answered performs p number line text q [] [] None q a (no_lines performs q (number + 1)))

-- A line that is too long, or that follows the last line that a script may have.
pub too_much : {P : Type 0} (performs : Conduct P) (p : P) (number : ℕ) (line : List ℕ) (lines : List (List ℕ))
    → (nat_lt max_lines number || nat_lt max_line (length line)) ≡ true → IsTranscript performs p number (line ∷ lines) [] (Some TooMuch) p
unfolding meaning_of
too_much performs p number line lines e =
    let means : meaning_of number line ≡ Err TooMuch = rw e refl in
    at_fault performs p number line lines TooMuch p (inl (record { means = means; unchanged = refl }))
