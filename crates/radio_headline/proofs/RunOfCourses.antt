-- Deliveries that yield a transcript yield a course.
use Rattle.std.proofs.Common.{◌≡◌, inl, inr, ℕ, ◌+◌, List, [], ◌∷◌, ◌++◌, Option, None, Some, refl, sym, ap, subst, ◌∙◌, append_assoc}
use Rattle.radio_headline.proofs.Words.{concat, append-nil, blocks_of, Settings, Lists, ShowsRequest, IsStableReading, HeadsLieWithin, Place, after, data_of, Delivery, TranscriptLine, transcript_text, Runs, ScriptState}
use Rattle.radio_headline.proofs.Words.{opening_script, conduct, Happening, courses, ShowsResponse, AfterPieces, HeardInPieces, WebAnswers}
use Rattle.radio_headline.proofs.LabelLemmas.{written_joined}
use Rattle.radio_headline.proofs.FaultLemmas.{at_fault_so}
use Rattle.radio_headline.proofs.CourseLemmas.{performs_next}
use Rattle.radio_headline.proofs.Standing.{Stands}

module _ (web : WebAnswers) (settings : Settings) (lists : Lists) (settled : IsStableReading ShowsRequest) (within : HeadsLieWithin ShowsRequest)
    (settled_answers : IsStableReading ShowsResponse) (within_answers : HeadsLieWithin ShowsResponse) (none_blocks : blocks_of [] ≡ []) (in_pieces : HeardInPieces)
    (afters : AfterPieces) (joined : (bytes : List ℕ) → concat (blocks_of bytes) ≡ bytes)
    (places : (place : Place) (first second : List ℕ) → after place (first ++ second) ≡ after (after place first) second)
    (data_joined : (place : Place) (first second : List ℕ) → data_of place (first ++ second) ≡ data_of place first ++ data_of (after place first) second) where
  -- the deliveries yield a course
  pub record Came (done deliveries : List Delivery) (state last : ScriptState) (past : List Happening) (lines : List TranscriptLine) (number : ℕ)
      (text : List ℕ) (stop : Option ℕ) : Type 0 where
    pub course : List Happening
    pub runs : Runs (courses web) (record { state = state; past = past }) number deliveries text stop (record { state = last; past = course })
    pub performed : List Delivery
    pub rest : List Delivery
    pub parts : deliveries ≡ performed ++ rest
    pub told : List TranscriptLine
    pub is_written : transcript_text told ≡ text
    pub stands : Stands web settings lists (done ++ performed) last course (lines ++ told)

  pub comes : (deliveries done : List Delivery) (state last : ScriptState) (past : List Happening) (lines : List TranscriptLine) (number : ℕ)
      (text : List ℕ) (stop : Option ℕ) → Stands web settings lists done state past lines → Runs (conduct web) state number deliveries text stop last
      → Came done deliveries state last past lines number text stop
  comes [] done state last past lines number text stop s r = record {
    course = past;
    runs = (r.0, r.1, ap (λ (x : ScriptState). record { state = x; past = past }) r.2);
    performed = [];
    rest = [];
    parts = refl;
    told = [];
    is_written = sym r.0;
    stands = subst (λ (x : ScriptState). Stands web settings lists (done ++ []) x past (lines ++ [])) (sym r.2)
        (subst (λ (ds : List Delivery). Stands web settings lists ds state past (lines ++ [])) (sym (append-nil done))
        (subst (λ (ls : List TranscriptLine). Stands web settings lists done state past ls) (sym (append-nil lines)) s));
  }
  comes (delivery ∷ deliveries) done state last past lines number text stop s r = elim r [
    | inl f ↦
        let fault = at_fault_so web state delivery (record { lines = None; state = last }) f.refused refl in
        record {
          course = past ++ [];
          runs = inl (record { refused = (f.refused, [], fault.0, refl); nothing = f.nothing; here = f.here });
          performed = [];
          rest = delivery ∷ deliveries;
          parts = refl;
          told = [];
          is_written = sym f.nothing;
          stands = subst (λ (x : ScriptState). Stands web settings lists (done ++ []) x (past ++ []) (lines ++ [])) (sym fault.1)
              (subst (λ (ds : List Delivery). Stands web settings lists ds state (past ++ []) (lines ++ [])) (sym (append-nil done))
              (subst (λ (ls : List TranscriptLine). Stands web settings lists done state (past ++ []) ls) (sym (append-nil lines))
              (subst (λ (hs : List Happening). Stands web settings lists done state hs lines) (sym (append-nil past)) s)));
        }
    | inr g ↦
        let n = performs_next web settings lists settled within settled_answers within_answers none_blocks in_pieces afters joined places data_joined done state past lines s delivery (record { lines = Some g.first; state = g.between }) g.performed g.first refl in
        let m = comes deliveries (done ++ delivery ∷ []) g.between last (past ++ n.happenings) (lines ++ n.told) (number + 1) g.rest stop n.stands g.others in
        record {
          course = m.course;
          runs = inr (record {
            first = g.first;
            rest = g.rest;
            between = record { state = g.between; past = past ++ n.happenings };
            performed = (g.performed, n.happenings, n.happen, refl);
            parts = g.parts;
            others = m.runs;
          });
          performed = delivery ∷ m.performed;
          rest = m.rest;
          parts = ap (λ (ds : List Delivery). delivery ∷ ds) m.parts;
          told = n.told ++ m.told;
          is_written = written_joined n.told m.told ∙ ap (λ (xs : List ℕ). xs ++ transcript_text m.told) n.is_written
              ∙ ap (λ (xs : List ℕ). g.first ++ xs) m.is_written ∙ sym g.parts;
          stands = subst (λ (ds : List Delivery). Stands web settings lists ds last m.course (lines ++ (n.told ++ m.told))) (append_assoc done (delivery ∷ []) m.performed)
              (subst (λ (ls : List TranscriptLine). Stands web settings lists ((done ++ delivery ∷ []) ++ m.performed) last m.course ls) (append_assoc lines n.told m.told) m.stands);
        }
  ]

  pub nothing_stands : Stands web settings lists [] (opening_script settings lists) [] []
  nothing_stands = record { world = refl; each = λ label. (refl, refl, refl); nowhere = tt }
