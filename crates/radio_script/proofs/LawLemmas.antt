-- Laws of transcripts.
use Rattle.std.proofs.Common.{◌≡◌, ℕ, ◌+◌, inl, inr, List, [], ◌∷◌, ◌++◌, Option, None, Some, Result, Ok, Err, refl, sym, ap, ◌∙◌, subst}
use Rattle.radio_script.proofs.Words.{StartsWith, Delivery, PlayFault, script_lines, meaning_of, deliveries_from, fault_or, fault_from, Conduct, Runs, run_fault}
use Rattle.radio_script.specs.Laws.{IsDetermined, HasOneTranscript, GoesOnAsItBegan}
use Rattle.radio_script.proofs.FeedLemmas.{script_lines-append}

-- two runs of the same deliveries are the same
runs_once : {P : Type 0} (performs : Conduct P) → IsDetermined performs
    → (old : P) (number : ℕ) (deliveries : List Delivery) (text other : List ℕ) (stop halt : Option ℕ) (new next : P)
    → Runs performs old number deliveries text stop new → Runs performs old number deliveries other halt next
    → (text ≡ other) × (stop ≡ halt) × (new ≡ next)
runs_once performs once old number [] text other stop halt new next r s = (r.0 ∙ sym s.0, r.1 ∙ sym s.1, r.2 ∙ sym s.2)
runs_once performs once old number (delivery ∷ deliveries) text other stop halt new next (inl a) (inl b) =
    (a.nothing ∙ sym b.nothing, a.here ∙ sym b.here, (once old delivery None None new next a.refused b.refused).1)
runs_once performs once old number (delivery ∷ deliveries) text other stop halt new next (inl a) (inr b) =
    let differ = (once old delivery None (Some b.first) new b.between a.refused b.performed).0 in cc
runs_once performs once old number (delivery ∷ deliveries) text other stop halt new next (inr a) (inl b) =
    let differ = (once old delivery (Some a.first) None a.between next a.performed b.refused).0 in cc
runs_once {P} performs once old number (delivery ∷ deliveries) text other stop halt new next (inr a) (inr b) =
    let same = once old delivery (Some a.first) (Some b.first) a.between b.between a.performed b.performed in
    let firsts : a.first ≡ b.first = cc (same.0) in
    let others : Runs performs a.between (number + 1) deliveries b.rest halt next =
    subst (λ (p : P). Runs performs p (number + 1) deliveries b.rest halt next) (sym same.1) b.others in
    let rests = runs_once performs once a.between (number + 1) deliveries a.rest b.rest stop halt new next a.others others in
    (a.parts ∙ ap (λ x. x ++ a.rest) firsts ∙ ap (λ x. b.first ++ x) rests.0 ∙ sym b.parts, rests.1, rests.2)

pub one_transcript : {P : Type 0} (performs : Conduct P) → IsDetermined performs → HasOneTranscript performs
one_transcript performs once old number lines text other fault failure new next s t =
    let same = runs_once performs once old number (deliveries_from number lines) text other s.stop t.stop new next s.run t.run in
    (same.0, s.ends ∙ ap (λ x. run_fault x (fault_from number lines)) same.1 ∙ sym t.ends, same.2)

StartsWith-append : (xs ys zs : List ℕ) → StartsWith ys zs → StartsWith (xs ++ ys) (xs ++ zs)
StartsWith-append [] ys zs h = h
StartsWith-append (x ∷ xs) ys zs h = ap (λ l. x ∷ l) (StartsWith-append xs ys zs h)

-- a run that does not stop is the front of each run of the same deliveries and more
runs_on : {P : Type 0} (performs : Conduct P) → IsDetermined performs
    → (old : P) (number : ℕ) (deliveries more : List Delivery) (text whole : List ℕ) (stop : Option ℕ) (between new : P)
    → Runs performs old number deliveries text None between → Runs performs old number (deliveries ++ more) whole stop new → StartsWith whole text
runs_on performs once old number [] more text whole stop between new r s = subst (λ x. StartsWith whole x) (sym r.0) refl
runs_on performs once old number (delivery ∷ deliveries) more text whole stop between new (inl a) s = let here = a.here in cc
runs_on performs once old number (delivery ∷ deliveries) more text whole stop between new (inr a) (inl b) =
    let differ = (once old delivery (Some a.first) None a.between new a.performed b.refused).0 in cc
runs_on {P} performs once old number (delivery ∷ deliveries) more text whole stop between new (inr a) (inr b) =
    let same = once old delivery (Some a.first) (Some b.first) a.between b.between a.performed b.performed in
    let firsts : b.first ≡ a.first = cc (same.0) in
    let others : Runs performs a.between (number + 1) (deliveries ++ more) b.rest stop new =
    subst (λ (p : P). Runs performs p (number + 1) (deliveries ++ more) b.rest stop new) (sym same.1) b.others in
    let rests = runs_on performs once a.between (number + 1) deliveries more a.rest b.rest stop between new a.others others in
    let both : StartsWith (a.first ++ b.rest) (a.first ++ a.rest) = StartsWith-append a.first b.rest a.rest rests in
    subst (λ x. StartsWith x text) (sym (b.parts ∙ ap (λ x. x ++ b.rest) firsts))
    (subst (λ x. StartsWith (a.first ++ b.rest) x) (sym a.parts) both)

no_fault : (stop : Option ℕ) (fault : Option PlayFault) → None ≡ run_fault stop fault → (stop ≡ None) × (fault ≡ None)
no_fault None fault e = (refl, sym e)
no_fault (Some number) fault e = cc

-- The deliveries of lines without a fault, and of more lines after them.
record DeliversMore (number : ℕ) (lines more : List (List ℕ)) : Type 0 where
  rest : List Delivery
  is : deliveries_from number (lines ++ more) ≡ deliveries_from number lines ++ rest

delivers_behind : (number : ℕ) (line : List ℕ) (lines more : List (List ℕ)) (m : Result Delivery PlayFault) → meaning_of number line ≡ m
    → fault_or m (fault_from (number + 1) lines) ≡ None → (fault_from (number + 1) lines ≡ None → DeliversMore (number + 1) lines more)
    → DeliversMore number (line ∷ lines) more
delivers_behind number line lines more (Ok delivery) e none next =
    let others = next none in
    record { rest = others.rest; is = rw e (ap (λ ds. delivery ∷ ds) others.is) }
delivers_behind number line lines more (Err fault) e none next = cc

delivers_more : (number : ℕ) (lines more : List (List ℕ)) → fault_from number lines ≡ None → DeliversMore number lines more
delivers_more number [] more none = record { rest = deliveries_from number more; is = refl }
delivers_more number (line ∷ lines) more none =
    delivers_behind number line lines more (meaning_of number line) refl none (delivers_more (number + 1) lines more)

pub goes_on_as_it_began : {P : Type 0} (performs : Conduct P) → IsDetermined performs → GoesOnAsItBegan performs
goes_on_as_it_began performs once old number lines rest text whole fault between new h s t =
    let sound = no_fault s.stop (fault_from number (script_lines lines)) s.ends in
    let more = delivers_more number (script_lines lines) (script_lines rest) sound.1 in
    let split = ap (λ ls. deliveries_from number ls) (script_lines-append lines rest h) ∙ more.is in
    runs_on performs once old number (deliveries_from number (script_lines lines)) more.rest text whole t.stop between new
    (subst (λ x. Runs performs old number (deliveries_from number (script_lines lines)) text x between) sound.0 s.run)
    (subst (λ ds. Runs performs old number ds whole t.stop new) split t.run)
