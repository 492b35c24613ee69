-- A woven stream, taken apart, gives the sound and the titles that went into it.
use Rattle.std.proofs.Common.{◌≡◌, ℕ, zero, suc, ◌+◌, ◌-◌, ◌*◌, ◌<◌, ◌≤◌, List, [], ◌∷◌, ◌++◌, length, map, take, drop, get_or, replicate, eqb, codes, Option}
use Rattle.std.proofs.Common.{None, Some, refl, arith, ap, ◌∙◌, sym, append_assoc}
use Rattle.std.specs.List.{suffix_len}
use Rattle.std.specs.Option.{option_to_list}
use Rattle.std.proofs.lemmas.Bool.{eq-eqb, ne_eqb}
use Rattle.std.proofs.lemmas.List.{length-append, length-replicate, get_or-append_right, get_or_append_left, get_or-replicate, take-append-drop, length-take-le}
use Rattle.std.proofs.lemmas.List.{length-drop, map-append, take_at}
use Rattle.std.proofs.Math.Seq.{take-add}
use Rattle.std.proofs.lemmas.List.{append-nil}
use Rattle.std.proofs.lemmas.List.Sums.{suffix_len_is}
use Rattle.radio_icy.specs.Block.{metadata_block, title_text, padded, units_of}
use Rattle.radio_icy.specs.Weaving.{Call}
use Rattle.radio_icy.specs.Stream.{sound_of_calls, titles_of_calls, sent_before, news_at, woven_parts, interval_count, rest_of, IsWoven, titles_sent, interval_sound}
use Rattle.radio_icy.specs.Stream.{AreUntitled}
use Rattle.radio_icy.specs.Unweaving.{StreamItem, SoundByte, WholeText, at_sound, without_padding, new_unweaving, atoms_of_piece}
use Rattle.radio_icy.specs.Bare.{sound_in, texts_in}
use Rattle.radio_icy.proofs.BlockLemmas.{length-title_text}
use Rattle.radio_icy.proofs.ItemsLemmas.{take-without_padding}
use Rattle.radio_icy.proofs.UnweavingLemmas.{heard_to_none, heard_to_text, heard_all_sound}
use Rattle.radio_icy.proofs.BareLemmas.{sound_in-append, texts_in-append, sound_in-map, texts_in-map}

-- zeros after a text that does not end in one are no part of it
without_padding-zeros : (text : List ℕ) (z : ℕ) → 0 < length text → 0 < get_or text (length text - 1) 0 → without_padding (text ++ replicate z 0) ≡ text
without_padding-zeros text z some last =
    let n = length text in
    let all = text ++ replicate z 0 in
    let size : length all ≡ n + z = omega (arith, length-append text (replicate z 0), length-replicate {A = ℕ} z 0) in
    let zeros : suffix_len (λ b. eqb b 0) all ≡ length all - n =
    suffix_len_is (λ b. eqb b 0) all n 0 (omega arith)
    (λ k above below. eq-eqb _ 0 (get_or-append_right text (replicate z 0) n k 0 refl above ∙ get_or-replicate z (k - n) 0 0 (omega arith)))
    (λ here. rw (get_or_append_left text (replicate z 0) 0 (n - 1) (omega arith)) (ne_eqb _ 0 (λ e. omega arith))) in
    sym (take-without_padding n all (omega arith)) ∙ take_at text (replicate z 0) n refl

-- a title's text ends in `;`
last_of : (front mid : List ℕ) (i : ℕ) → i ≡ length front + length mid + 1 → get_or (front ++ (mid ++ 39 ∷ 59 ∷ [])) i 0 ≡ 59
last_of front mid i place =
    let rest : i - length front - length mid ≡ 1 = omega arith in
    get_or-append_right front (mid ++ 39 ∷ 59 ∷ []) (length front) i 0 refl (omega arith)
    ∙ (get_or-append_right mid (39 ∷ 59 ∷ []) (length mid) (i - length front) 0 refl (omega arith)
    ∙ ap (λ (j : ℕ). get_or (39 ∷ 59 ∷ []) j 0) rest)

last-title_text : (title : List ℕ) → get_or (title_text title) (length (title_text title) - 1) 0 ≡ 59
unfolding title_text
last-title_text title = last_of (codes "StreamTitle='") title _ (omega (arith, length-append title (39 ∷ 59 ∷ [])))

without_padding-padded : (title : List ℕ) → without_padding (padded (title_text title)) ≡ title_text title
without_padding-padded title =
    without_padding-zeros (title_text title) _ (omega (arith, length-title_text title)) (omega (arith, last-title_text title))

length-padded : (text : List ℕ) → length (padded text) ≡ 16 * units_of (length text)
length-padded text =
    let n = length text in
    length-append text (replicate (16 * units_of n - n) 0) ∙ omega (arith, length-replicate {A = ℕ} (16 * units_of n - n) 0)

-- the text of a block, as an atom
abbrev pub text_atoms : Option (List ℕ) → List StreamItem
text_atoms None = []
text_atoms (Some title) = WholeText (title_text title) ∷ []

-- one part and its block
heard_part_and_block : (n : ℕ) (news : Option (List ℕ)) (part later : List ℕ) → length part ≡ n
    → atoms_of_piece (at_sound n n) (part ++ (metadata_block news ++ later)) ≡ map (λ b. SoundByte b) part ++ (text_atoms news ++ atoms_of_piece (at_sound n n) later)
unfolding metadata_block
heard_part_and_block n None part later whole = heard_to_none n n part later (sym whole)
heard_part_and_block n (Some title) part later whole =
    let text = title_text title in
    heard_to_text n n (units_of (length text)) part (padded text) later (sym whole) (omega (arith, length-title_text title)) (length-padded text)
    ∙ ap (λ t. map (λ b. SoundByte b) part ++ (WholeText t ∷ atoms_of_piece (at_sound n n) later)) (without_padding-padded title)

-- the atoms of the first k parts
abbrev pub atoms_of_parts : ℕ → List Call → ℕ → List StreamItem
atoms_of_parts n calls zero = []
atoms_of_parts n calls (suc k) = atoms_of_parts n calls k ++ (map (λ b. SoundByte b) (interval_sound n calls k) ++ text_atoms (news_at n calls k))

heard_parts : (n : ℕ) (calls : List Call) (k : ℕ) (more : List ℕ) → n * k ≤ length (sound_of_calls calls)
    → atoms_of_piece (at_sound n n) (woven_parts n calls k ++ more) ≡ atoms_of_parts n calls k ++ atoms_of_piece (at_sound n n) more
heard_parts n calls zero more fits = refl
heard_parts n calls (suc k) more fits =
    let part = interval_sound n calls k in
    let news = news_at n calls k in
    let sound = sound_of_calls calls in
    let step : woven_parts n calls (suc k) ++ more ≡ woven_parts n calls k ++ (part ++ (metadata_block news ++ more)) = simp append_assoc in
    let size : n * suc k ≡ n * k + n = omega arith in
    let whole : length part ≡ n = length-take-le n (drop (n * k) sound) (omega (arith, length-drop (n * k) sound)) in
    ap (atoms_of_piece (at_sound n n)) step
    ∙ (heard_parts n calls k (part ++ (metadata_block news ++ more)) (omega arith)
    ∙ (ap (λ t. atoms_of_parts n calls k ++ t) (heard_part_and_block n news part more whole) ∙ simp append_assoc))

-- all that is read in a woven stream
heard_woven : (n : ℕ) (calls : List Call) (out : List ℕ) → 0 < n → IsWoven n calls out
    → atoms_of_piece (new_unweaving n) out ≡ atoms_of_parts n calls (interval_count n calls) ++ map (λ b. SoundByte b) (rest_of n calls)
heard_woven n calls out some woven =
    let k = interval_count n calls in
    ap (atoms_of_piece (at_sound n n)) woven
    ∙ (heard_parts n calls k (rest_of n calls) (omega arith)
    ∙ ap (λ t. atoms_of_parts n calls k ++ t) (heard_all_sound n n (rest_of n calls) (omega (arith, length-drop (n * k) (sound_of_calls calls)))))

sound_in-text_atoms : (news : Option (List ℕ)) → sound_in (text_atoms news) ≡ []
sound_in-text_atoms None = refl
sound_in-text_atoms (Some title) = refl

texts_in-text_atoms : (news : Option (List ℕ)) → texts_in (text_atoms news) ≡ map title_text (option_to_list news)
texts_in-text_atoms None = refl
texts_in-text_atoms (Some title) = refl

sound_in-parts : (n : ℕ) (calls : List Call) (k : ℕ) → sound_in (atoms_of_parts n calls k) ≡ take (n * k) (sound_of_calls calls)
sound_in-parts n calls zero = let none : n * 0 ≡ 0 = omega arith in rw none refl
sound_in-parts n calls (suc k) =
    let sound = sound_of_calls calls in
    let part = map (λ b. SoundByte b) (interval_sound n calls k) in
    let text = text_atoms (news_at n calls k) in
    let size : n * suc k ≡ n * k + n = omega arith in
    sound_in-append (atoms_of_parts n calls k) (part ++ text)
    ∙ (ap (λ t. t ++ sound_in (part ++ text)) (sound_in-parts n calls k)
    ∙ (ap (λ t. take (n * k) sound ++ t) (sound_in-append part text)
    ∙ (ap (λ t. take (n * k) sound ++ (t ++ sound_in text)) (sound_in-map (interval_sound n calls k))
    ∙ (ap (λ t. take (n * k) sound ++ (interval_sound n calls k ++ t)) (sound_in-text_atoms (news_at n calls k))
    ∙ (ap (λ t. take (n * k) sound ++ t) (append-nil (interval_sound n calls k))
    ∙ (sym (take-add (n * k) n sound) ∙ ap (λ (m : ℕ). take m sound) (sym size)))))))

texts_in-parts : (n : ℕ) (calls : List Call) (k : ℕ) → texts_in (atoms_of_parts n calls k) ≡ map title_text (titles_sent n calls k)
texts_in-parts n calls zero = refl
texts_in-parts n calls (suc k) =
    let part = map (λ b. SoundByte b) (interval_sound n calls k) in
    let text = text_atoms (news_at n calls k) in
    let sent = option_to_list (news_at n calls k) in
    texts_in-append (atoms_of_parts n calls k) (part ++ text)
    ∙ (ap (λ t. t ++ texts_in (part ++ text)) (texts_in-parts n calls k)
    ∙ (ap (λ t. map title_text (titles_sent n calls k) ++ t) (texts_in-append part text)
    ∙ (ap (λ t. map title_text (titles_sent n calls k) ++ (t ++ texts_in text)) (texts_in-map (interval_sound n calls k))
    ∙ (ap (λ t. map title_text (titles_sent n calls k) ++ t) (texts_in-text_atoms (news_at n calls k))
    ∙ sym (map-append title_text (titles_sent n calls k) sent)))))

-- the sound and the texts that are read in a woven stream
pub sound_in-woven : (n : ℕ) (calls : List Call) (out : List ℕ) → 0 < n → IsWoven n calls out → sound_in (atoms_of_piece (new_unweaving n) out) ≡ sound_of_calls calls
sound_in-woven n calls out some woven =
    let k = interval_count n calls in
    ap sound_in (heard_woven n calls out some woven)
    ∙ (sound_in-append (atoms_of_parts n calls k) (map (λ b. SoundByte b) (rest_of n calls))
    ∙ (ap (λ t. t ++ sound_in (map (λ b. SoundByte b) (rest_of n calls))) (sound_in-parts n calls k)
    ∙ (ap (λ t. take (n * k) (sound_of_calls calls) ++ t) (sound_in-map (rest_of n calls))
    ∙ take-append-drop (n * k) (sound_of_calls calls))))

pub texts_in-woven : (n : ℕ) (calls : List Call) (out : List ℕ) → 0 < n → IsWoven n calls out
    → texts_in (atoms_of_piece (new_unweaving n) out) ≡ map title_text (titles_sent n calls (interval_count n calls))
texts_in-woven n calls out some woven =
    let k = interval_count n calls in
    ap texts_in (heard_woven n calls out some woven)
    ∙ (texts_in-append (atoms_of_parts n calls k) (map (λ b. SoundByte b) (rest_of n calls))
    ∙ (ap (λ t. t ++ texts_in (map (λ b. SoundByte b) (rest_of n calls))) (texts_in-parts n calls k)
    ∙ (ap (λ t. map title_text (titles_sent n calls k) ++ t) (texts_in-map (rest_of n calls)) ∙ append-nil (map title_text (titles_sent n calls k)))))

-- if no call has a title, no byte has one
untitled_bytes : (sound : List ℕ) (title : Option (List ℕ)) (titles : List (Option (List ℕ))) (i : ℕ) → title ≡ None
    → ((j : ℕ) → get_or titles j None ≡ None) → get_or (map (λ _. title) sound ++ titles) i None ≡ None
untitled_bytes [] title titles i none later = later i
untitled_bytes (b ∷ sound) title titles zero none later = none
untitled_bytes (b ∷ sound) title titles (suc i) none later = untitled_bytes sound title titles i none later

untitled_calls : (calls : List Call) (i : ℕ) → AreUntitled calls → get_or (titles_of_calls calls) i None ≡ None
untitled_calls [] i untitled = refl
untitled_calls (c ∷ calls) i untitled =
    untitled_bytes c.sound c.title (titles_of_calls calls) i untitled.0 (λ j. untitled_calls calls j untitled.1)

untitled_sent : (n : ℕ) (calls : List Call) (k : ℕ) → AreUntitled calls → sent_before n calls k ≡ None
untitled_sent n calls zero untitled = refl
untitled_sent n calls (suc k) untitled = rw (untitled_calls calls (n * k + (n - 1)) untitled) (untitled_sent n calls k untitled)

-- the block of a part with no title is one zero byte
pub untitled_block : (n : ℕ) (calls : List Call) (k : ℕ) → AreUntitled calls → metadata_block (news_at n calls k) ≡ 0 ∷ []
unfolding metadata_block
untitled_block n calls k untitled = rw (untitled_calls calls (n * k + (n - 1)) untitled) refl
