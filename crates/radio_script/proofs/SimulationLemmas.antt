-- A run of one performer is a run of another that does the same.
use Rattle.std.proofs.Common.{ℕ, ◌+◌, List, [], ◌∷◌, ◌++◌, Option, None, Some, Result, Ok, Err, inl, inr, refl, sym, subst}
use Rattle.radio_script.proofs.Words.{Delivery, PlayFault, Read, Write, Line, TooMuch, OutOfMemory, script_lines, deliveries_from, Conduct, Runs, IsTranscript, Plays, IsPlayed, IsPlayedBefore}

module _ {P Q : Type 0} (C : Conduct P) (D : Conduct Q) (Same : P → Q → Type 0)
    (does : (p p' : P) (q : Q) (delivery : Delivery) (lines : Option (List ℕ)) → Same p q → C p delivery lines p' → (q' : Q) × Same p' q'
    × D q delivery lines q') where
  pub runs : (deliveries : List Delivery) (p p' : P) (q : Q) (number : ℕ) (text : List ℕ) (stop : Option ℕ) → Same p q
      → Runs C p number deliveries text stop p' → (q' : Q) × Same p' q' × Runs D q number deliveries text stop q'
  runs [] p p' q number text stop same r = (q, subst (λ (x : P). Same x q) (sym r.2) same, (r.0, r.1, refl))
  runs (delivery ∷ deliveries) p p' q number text stop same r = elim r [
    | inl s ↦ let d = does p p' q delivery None same s.refused in (d.0, d.1, inl (record { refused = d.2; nothing = s.nothing; here = s.here }))
    | inr g ↦
        let d = does p g.between q delivery (Some g.first) same g.performed in
        let more = runs deliveries g.between p' d.0 (number + 1) g.rest stop d.1 g.others in
        (more.0, more.1, inr (record { first = g.first; rest = g.rest; between = d.0; performed = d.2; parts = g.parts; others = more.2 }))
  ]

  transcripts : (p p' : P) (q : Q) (number : ℕ) (lines : List (List ℕ)) (text : List ℕ) (fault : Option PlayFault) → Same p q
      → IsTranscript C p number lines text fault p' → (q' : Q) × IsTranscript D q number lines text fault q'
  transcripts p p' q number lines text fault same t =
      let r = runs (deliveries_from number lines) p p' q number text t.stop same t.run in
      (r.0, record { stop = t.stop; run = r.2; ends = t.ends })

  played : (p p' : P) (q : Q) (number : ℕ) (script : List ℕ) (fault : Option PlayFault) (written : List ℕ) (most_calls : ℕ) → Same p q
      → IsPlayed C p number script fault written most_calls p' → (q' : Q) × IsPlayed D q number script fault written most_calls q'
  played p p' q number script fault written most_calls same h =
      let t = transcripts p p' q number (script_lines script) written fault same h.transcript in
      (t.0, record { transcript = t.1; in_calls = h.in_calls })

  played_before : (p p' : P) (q : Q) (number : ℕ) (script rest written : List ℕ) (most_calls : ℕ) → Same p q
      → IsPlayedBefore C p number script rest written most_calls p' → (q' : Q) × IsPlayedBefore D q number script rest written most_calls q'
  played_before p p' q number script rest written most_calls same h =
      let t = played p p' q number h.lines None written most_calls same h.played in
      (t.0, record { lines = h.lines; parts = h.parts; whole = h.whole; played = t.1 })

  pub plays : (p p' : P) (q : Q) (number : ℕ) (script left : List ℕ) (result : Result (Unit {0}) PlayFault) (written : List ℕ) (most_calls : ℕ) → Same p q
      → Plays C p number script left result written most_calls p' → (q' : Q) × Plays D q number script left result written most_calls q'
  plays p p' q number script left (Ok done) written most_calls same h =
      let t = played p p' q number script None written most_calls same h.1 in (t.0, (h.0, t.1))
  plays p p' q number script left (Err (Line line)) written most_calls same h = played p p' q number script (Some (Line line)) written most_calls same h
  plays p p' q number script left (Err TooMuch) written most_calls same h = played p p' q number script (Some TooMuch) written most_calls same h
  plays p p' q number script left (Err Read) written most_calls same h =
      let t = played_before p p' q number script (h.0 ++ left) written most_calls same h.2 in
      (t.0, (h.0, h.1, t.1))
  plays p p' q number script left (Err Write) written most_calls same h =
      let a = transcripts p h.between q number (script_lines h.lines) h.before None same h.answered in
      let t = transcripts p p' q number (script_lines (h.lines ++ h.line)) (h.before ++ h.text) None same h.transcript in (
        t.0,
        record {
          lines = h.lines;
          line = h.line;
          parts = h.parts;
          whole = h.whole;
          one_line = h.one_line;
          between = a.0;
          before = h.before;
          text = h.text;
          front = h.front;
          answered = a.1;
          transcript = t.1;
          cut = h.cut;
          is_written = h.is_written;
          in_calls = h.in_calls;
        },
      )
  plays p p' q number script left (Err OutOfMemory) written most_calls same h =
      let t = played_before p h.1 q number script (h.0 ++ left) written most_calls same h.3 in
      (q, (h.0, t.0, h.2, t.1))
