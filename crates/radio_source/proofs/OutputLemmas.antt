-- What a body answers over all its feeds.
use Rattle.std.proofs.Common.{◌≡◌, ℕ, zero, suc, Bool, true, false, not, ◌&&◌, ◌||◌, List, [], ◌∷◌, ◌++◌, ap, sym, ◌∙◌, refl, append_assoc, append-nil, Some}
use Rattle.std.proofs.Common.{None, ⊎_elim}
use Rattle.std.proofs.lemmas.Bool.{cases_Bool, false≢true}
use Rattle.std.specs.List.{concat}
use Rattle.std.proofs.lemmas.List.{map-append}
use Rattle.radio_source.specs.declared.fault.BodyFault.{BodyFault}
use Rattle.radio_source.specs.declared.fault.BodyFault.TheVariants.{BadChunk, PastEnd}
use Rattle.radio_source.specs.Place.{Place, InPlain, InSized, InLine, InChunk, AfterReturn, AtTrailer, AfterTrailerReturn, InTrailer, AtEnd, PastTheEnd, Broken}
use Rattle.radio_source.specs.Place.{after, data_of, has_ended, fault_at}
use Rattle.radio_blocks.specs.Cutting.{blocks_of}
use Rattle.radio_source.specs.Feeding.{Feeding, unfed, Refuses, answer_with, is_refusal, answer_to, after_feed}
use Rattle.radio_source.specs.Outputs.{Output, OutputByte, OutputEnd, OutputFault, byte_outputs, end_outputs, fault_outputs, outputs_of, outputs_of_feeds}
use Rattle.radio_source.specs.Outputs.{outputs_of_bytes}
use Rattle.radio_source.proofs.PlaceLemmas.{after-append, data_of-append}

-- ---- after the end, and at a fault, nothing more comes

past_end : (bytes : List ℕ) → after PastTheEnd bytes ≡ PastTheEnd
past_end [] = refl
past_end (b ∷ bytes) = past_end bytes

past_end_data : (bytes : List ℕ) → data_of PastTheEnd bytes ≡ []
past_end_data [] = refl
past_end_data (b ∷ bytes) = past_end_data bytes

pub broken_stays : (bytes : List ℕ) → after Broken bytes ≡ Broken
broken_stays [] = refl
broken_stays (b ∷ bytes) = broken_stays bytes

broken_data : (bytes : List ℕ) → data_of Broken bytes ≡ []
broken_data [] = refl
broken_data (b ∷ bytes) = broken_data bytes

ended_stays : (place : Place) (bytes : List ℕ) → has_ended place ≡ true → has_ended (after place bytes) ≡ true
ended_stays place [] h = h
ended_stays (InSized zero) (b ∷ bytes) h = ap has_ended (past_end bytes)
ended_stays AtEnd (b ∷ bytes) h = ap has_ended (past_end bytes)
ended_stays PastTheEnd (b ∷ bytes) h = ap has_ended (past_end bytes)
ended_stays InPlain (b ∷ bytes) h = absurd (false≢true h)
ended_stays (InSized (suc left)) (b ∷ bytes) h = absurd (false≢true h)
ended_stays (InLine held) (b ∷ bytes) h = absurd (false≢true h)
ended_stays (InChunk left) (b ∷ bytes) h = absurd (false≢true h)
ended_stays AfterReturn (b ∷ bytes) h = absurd (false≢true h)
ended_stays (AtTrailer left) (b ∷ bytes) h = absurd (false≢true h)
ended_stays (AfterTrailerReturn left) (b ∷ bytes) h = absurd (false≢true h)
ended_stays (InTrailer left) (b ∷ bytes) h = absurd (false≢true h)
ended_stays Broken (b ∷ bytes) h = absurd (false≢true h)

ended_data : (place : Place) (bytes : List ℕ) → has_ended place ≡ true → data_of place bytes ≡ []
ended_data place [] h = refl
ended_data (InSized zero) (b ∷ bytes) h = past_end_data bytes
ended_data AtEnd (b ∷ bytes) h = past_end_data bytes
ended_data PastTheEnd (b ∷ bytes) h = past_end_data bytes
ended_data InPlain (b ∷ bytes) h = absurd (false≢true h)
ended_data (InSized (suc left)) (b ∷ bytes) h = absurd (false≢true h)
ended_data (InLine held) (b ∷ bytes) h = absurd (false≢true h)
ended_data (InChunk left) (b ∷ bytes) h = absurd (false≢true h)
ended_data AfterReturn (b ∷ bytes) h = absurd (false≢true h)
ended_data (AtTrailer left) (b ∷ bytes) h = absurd (false≢true h)
ended_data (AfterTrailerReturn left) (b ∷ bytes) h = absurd (false≢true h)
ended_data (InTrailer left) (b ∷ bytes) h = absurd (false≢true h)
ended_data Broken (b ∷ bytes) h = absurd (false≢true h)

-- ---- one feed

-- what a body of this state has still to answer for some bytes
abbrev rest_from : Bool → Place → Bool → List ℕ → List Output
rest_from true place told bytes = []
rest_from false place told bytes =
    byte_outputs (data_of place bytes)
    ++ (end_outputs (has_ended (after place bytes) && not told) ++ fault_outputs (fault_at (after place bytes)))

-- blocks are their data
abbrev pub Joined : Type 0
Joined = (bytes : List ℕ) → concat (blocks_of bytes) ≡ bytes

-- an answer with no fault
outputs_without_fault : Joined → (found : List ℕ) (ends : Bool) → outputs_of (answer_with (blocks_of found) ends None) ≡ byte_outputs found ++ end_outputs ends
outputs_without_fault joined found ends = ap (λ t. byte_outputs t ++ end_outputs ends) (joined found)

or_false : (b : Bool) → (b || false) ≡ b
or_false true = refl
or_false false = refl

or_true : (b : Bool) → (b || true) ≡ true
or_true true = refl
or_true false = refl

step_ended : (xs f : List Output) (told : Bool) → (xs ++ end_outputs (not told)) ++ (end_outputs (not (told || true)) ++ f)
    ≡ xs ++ (end_outputs (not told) ++ f)
step_ended xs f true = append_assoc xs [] f
step_ended xs f false = append_assoc xs (OutputEnd ∷ []) f

-- if there is no fault so far, what was answered and what is left make all
step_on : (found : List ℕ) (place : Place) (told : Bool) (more : List ℕ) (ended : Bool) → has_ended place ≡ ended
    → (byte_outputs found ++ end_outputs (ended && not told)) ++ rest_from false place (told || ended) more
    ≡ byte_outputs (found ++ data_of place more) ++ (end_outputs (has_ended (after place more) && not told) ++ fault_outputs (fault_at (after place more)))
step_on found place told more true h =
    rw (ended_data place more h, ended_stays place more h, append-nil found)
    (step_ended (byte_outputs found) (fault_outputs (fault_at (after place more))) told)
step_on found place told more false h =
    let f = fault_outputs (fault_at (after place more)) in
    let e = end_outputs (has_ended (after place more) && not told) in
    ap (λ (t : Bool). (byte_outputs found ++ []) ++ (byte_outputs (data_of place more) ++ (end_outputs (has_ended (after place more) && not t) ++ f)))
    (or_false told)
    ∙ (ap (λ t. t ++ (byte_outputs (data_of place more) ++ (e ++ f))) (append-nil (byte_outputs found))
    ∙ (sym (append_assoc (byte_outputs found) (byte_outputs (data_of place more)) (e ++ f))
    ∙ ap (λ t. t ++ (e ++ f)) (sym (map-append (λ (b : ℕ). OutputByte b) found (data_of place more)))))

step_none : (blocks : List (List ℕ)) (found : List ℕ) (place : Place) (told : Bool) (more : List ℕ) → concat blocks ≡ found
    → (byte_outputs (concat blocks) ++ end_outputs (has_ended place && not told)) ++ rest_from false place (told || has_ended place) more
    ≡ byte_outputs (found ++ data_of place more) ++ (end_outputs (has_ended (after place more) && not told) ++ fault_outputs (fault_at (after place more)))
step_none blocks found place told more joined =
    ap (λ t. (byte_outputs t ++ end_outputs (has_ended place && not told)) ++ rest_from false place (told || has_ended place) more) joined
    ∙ step_on found place told more (has_ended place) refl

-- what is left after an answer at a fault: the fault, if that was not the answer
abbrev left_of : BodyFault → Bool → List Output
left_of fault true = []
left_of fault false = OutputFault fault ∷ []

step_fault : (blocks : List (List ℕ)) (found : List ℕ) (ends : Bool) (fault : BodyFault) → outputs_of (Refuses fault) ≡ OutputFault fault ∷ []
    → concat blocks ≡ found
    → outputs_of (answer_with blocks ends (Some fault)) ++ left_of fault (is_refusal (answer_with blocks ends (Some fault)))
    ≡ byte_outputs found ++ (end_outputs ends ++ OutputFault fault ∷ [])
step_fault [] found false fault tells joined = append-nil (outputs_of (Refuses fault)) ∙ (tells ∙ ap (λ t. byte_outputs t ++ OutputFault fault ∷ []) joined)
step_fault [] found true fault tells joined = ap (λ t. byte_outputs t ++ OutputEnd ∷ OutputFault fault ∷ []) joined
step_fault (block ∷ blocks) found ends fault tells joined =
    append_assoc (byte_outputs (block ++ concat blocks)) (end_outputs ends) (OutputFault fault ∷ [])
    ∙ ap (λ t. byte_outputs t ++ (end_outputs ends ++ OutputFault fault ∷ [])) joined

rest_past_end : (refused told : Bool) (more : List ℕ) → rest_from refused PastTheEnd (told || true) more ≡ left_of PastEnd refused
rest_past_end true told more = refl
rest_past_end false told more = rw (past_end_data more, past_end more, or_true told) refl

rest_broken : (refused told : Bool) (more : List ℕ) → rest_from refused Broken told more ≡ left_of BadChunk refused
rest_broken true told more = refl
rest_broken false told more = rw (broken_data more, broken_stays more) refl

step_past_end : (blocks : List (List ℕ)) (found : List ℕ) (told : Bool) (more : List ℕ) → concat blocks ≡ found
    → outputs_of (answer_with blocks (not told) (Some PastEnd))
    ++ rest_from (is_refusal (answer_with blocks (not told) (Some PastEnd))) PastTheEnd (told || true) more
    ≡ byte_outputs (found ++ data_of PastTheEnd more) ++
    (end_outputs (has_ended (after PastTheEnd more) && not told) ++ fault_outputs (fault_at (after PastTheEnd more)))
step_past_end blocks found told more joined =
    let a = answer_with blocks (not told) (Some PastEnd) in
    ap (λ t. outputs_of a ++ t) (rest_past_end (is_refusal a) told more)
    ∙ (step_fault blocks found (not told) PastEnd refl joined ∙ rw (past_end_data more, past_end more, append-nil found) refl)

step_broken : (blocks : List (List ℕ)) (found : List ℕ) (told : Bool) (more : List ℕ) → concat blocks ≡ found
    → outputs_of (answer_with blocks false (Some BadChunk)) ++ rest_from (is_refusal (answer_with blocks false (Some BadChunk))) Broken (told || false) more
    ≡ byte_outputs (found ++ data_of Broken more) ++ (end_outputs (has_ended (after Broken more) && not told) ++ fault_outputs (fault_at (after Broken more)))
step_broken blocks found told more joined =
    let a = answer_with blocks false (Some BadChunk) in
    ap (λ t. outputs_of a ++ t) (rest_broken (is_refusal a) (told || false) more)
    ∙ (step_fault blocks found false BadChunk refl joined ∙ rw (broken_data more, broken_stays more, append-nil found) refl)

-- what a feed answers at this place, and what is left, make all
step_at : (blocks : List (List ℕ)) (found : List ℕ) (place : Place) (told : Bool) (more : List ℕ) → concat blocks ≡ found
    → outputs_of (answer_with blocks (has_ended place && not told) (fault_at place))
    ++ rest_from (is_refusal (answer_with blocks (has_ended place && not told) (fault_at place))) place (told || has_ended place) more
    ≡ byte_outputs (found ++ data_of place more) ++ (end_outputs (has_ended (after place more) && not told) ++ fault_outputs (fault_at (after place more)))
step_at blocks found InPlain told more joined = step_none blocks found InPlain told more joined
step_at blocks found (InSized left) told more joined = step_none blocks found (InSized left) told more joined
step_at blocks found (InLine held) told more joined = step_none blocks found (InLine held) told more joined
step_at blocks found (InChunk left) told more joined = step_none blocks found (InChunk left) told more joined
step_at blocks found AfterReturn told more joined = step_none blocks found AfterReturn told more joined
step_at blocks found (AtTrailer left) told more joined = step_none blocks found (AtTrailer left) told more joined
step_at blocks found (AfterTrailerReturn left) told more joined = step_none blocks found (AfterTrailerReturn left) told more joined
step_at blocks found (InTrailer left) told more joined = step_none blocks found (InTrailer left) told more joined
step_at blocks found AtEnd told more joined = step_none blocks found AtEnd told more joined
step_at blocks found PastTheEnd told more joined = step_past_end blocks found told more joined
step_at blocks found Broken told more joined = step_broken blocks found told more joined

-- ---- all feeds

abbrev rest_of : Feeding → List ℕ → List Output
rest_of body bytes = rest_from body.has_failed body.place body.is_end_told bytes

step_failed : (body : Feeding) (piece more : List ℕ) → body.has_failed ≡ true
    → outputs_of (answer_to body piece) ++ rest_of (after_feed body piece) more ≡ rest_of body (piece ++ more)
unfolding answer_to after_feed
step_failed body piece more failed = rw failed refl

step_sound : Joined → (body : Feeding) (piece more : List ℕ) → body.has_failed ≡ false
    → outputs_of (answer_to body piece) ++ rest_of (after_feed body piece) more ≡ rest_of body (piece ++ more)
unfolding answer_to after_feed
step_sound joined body piece more sound =
    rw (sound, after-append body.place piece more, data_of-append body.place piece more)
    (step_at (blocks_of (data_of body.place piece)) (data_of body.place piece) (after body.place piece) body.is_end_told more
    (joined (data_of body.place piece)))

step : Joined → (body : Feeding) (piece more : List ℕ)
    → outputs_of (answer_to body piece) ++ rest_of (after_feed body piece) more ≡ rest_of body (piece ++ more)
step joined body piece more =
    ⊎_elim (λ (h : body.has_failed ≡ true). step_failed body piece more h) (λ (h : body.has_failed ≡ false). step_sound joined body piece more h)
    (cases_Bool body.has_failed)

-- a body whose empty feed answers all that is left; if it has a fault, the end was answered
abbrev Settles : Feeding → Type 0
Settles body = outputs_of (answer_to body []) ≡ rest_of body []

settles_last : (place : Place) (told : Bool) → fault_at place ≡ None
    → outputs_of (answer_with [] (has_ended place && not told) (fault_at place)) ≡ rest_from false place told []
settles_last place told h = rw h (sym (append-nil (end_outputs (has_ended place && not told))))

settles_ended : (place : Place) (told : Bool) → outputs_of (answer_with [] (has_ended place && not (told || has_ended place)) (fault_at place))
    ≡ rest_from false place (told || has_ended place) []
settles_ended InPlain told = refl
settles_ended (InSized zero) told = rw (or_true told) refl
settles_ended (InSized (suc left)) told = refl
settles_ended (InLine held) told = refl
settles_ended (InChunk left) told = refl
settles_ended AfterReturn told = refl
settles_ended (AtTrailer left) told = refl
settles_ended (AfterTrailerReturn left) told = refl
settles_ended (InTrailer left) told = refl
settles_ended AtEnd told = rw (or_true told) refl
settles_ended PastTheEnd told = rw (or_true told) refl
settles_ended Broken told = refl

Settles-unfed : blocks_of [] ≡ [] → (place : Place) → fault_at place ≡ None → Settles (unfed place)
unfolding answer_to
Settles-unfed none place h = rw none (settles_last place false h)

Settles-failed : (body : Feeding) → body.has_failed ≡ true → Settles body
unfolding answer_to
Settles-failed body failed = rw failed refl

Settles-ended : blocks_of [] ≡ [] → (body : Feeding) (place : Place) (told : Bool) → body.has_failed ≡ false → body.place ≡ place
    → body.is_end_told ≡ (told || has_ended place) → Settles body
unfolding answer_to
Settles-ended none body place told sound at end = rw (sound, end, at, none) (settles_ended place told)

Settles-after : blocks_of [] ≡ [] → (body : Feeding) (piece : List ℕ) → Settles body → Settles (after_feed body piece)
unfolding after_feed
Settles-after none body piece h =
    ⊎_elim
    (λ (failed : body.has_failed ≡ true). Settles-failed (after_feed body piece) (rw failed refl))
    (λ (sound : body.has_failed ≡ false).
    ⊎_elim
    (λ (refused : (after_feed body piece).has_failed ≡ true). Settles-failed (after_feed body piece) refused)
    (λ (goes_on : (after_feed body piece).has_failed ≡ false).
    Settles-ended none (after_feed body piece) (after body.place piece) body.is_end_told goes_on (rw sound refl) (rw sound refl))
    (cases_Bool (after_feed body piece).has_failed))
    (cases_Bool body.has_failed)

outputs_at_last : Joined → blocks_of [] ≡ [] → (body : Feeding) (pieces : List (List ℕ)) → Settles body
    → outputs_of_feeds body (pieces ++ [] ∷ []) ≡ rest_of body (concat pieces)
outputs_at_last joined none body [] h = append-nil (outputs_of (answer_to body [])) ∙ h
outputs_at_last joined none body (piece ∷ pieces) h =
    ap (λ t. outputs_of (answer_to body piece) ++ t) (outputs_at_last joined none (after_feed body piece) pieces (Settles-after none body piece h))
    ∙ step joined body piece (concat pieces)

and_true : (b : Bool) → (b && true) ≡ b
and_true true = refl
and_true false = refl

pub cuts : Joined → blocks_of [] ≡ [] → (place : Place) (pieces : List (List ℕ)) → fault_at place ≡ None
    → outputs_of_feeds (unfed place) (pieces ++ [] ∷ []) ≡ outputs_of_bytes place (concat pieces)
cuts joined none place pieces h =
    outputs_at_last joined none (unfed place) pieces (Settles-unfed none place h)
    ∙ ap (λ (e : Bool). byte_outputs (data_of place (concat pieces)) ++ (end_outputs e ++ fault_outputs (fault_at (after place (concat pieces)))))
    (and_true (has_ended (after place (concat pieces))))
