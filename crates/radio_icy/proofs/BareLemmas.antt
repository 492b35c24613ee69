-- A stream that is taken apart, however it is cut, gives its bare sound and the texts of its blocks.
use Rattle.std.proofs.Common.{◌≡◌, ℕ, zero, suc, ◌+◌, ◌*◌, ◌<◌, ◌≤◌, List, [], ◌∷◌, ◌++◌, length, map, take, drop, get_or, refl, arith, ap, ◌∙◌, sym, ⊎_elim}
use Rattle.std.proofs.Common.{append_assoc}
use Rattle.std.specs.List.{concat}
use Rattle.std.proofs.lemmas.Bool.{lt-ltb, le-ltb, lt-leb, le-leb, ne_eqb, cases_lt}
use Rattle.std.proofs.lemmas.List.{nil_from_length, append-nil, take-append-drop, length-take-le, length-drop, drop_more, drop_all}
use Rattle.radio_icy.specs.Unweaving.{StreamItem, SoundByte, WholeText, Unweaving, at_sound, new_unweaving, after_feeding, heard_by_pieces, after_pieces, atoms_of_piece}
use Rattle.radio_icy.specs.Unweaving.{without_padding, atoms_of_byte, after_fed_byte}
use Rattle.radio_icy.specs.Bare.{bare, bare_within, block_texts, block_texts_within, after_block, text_of_block, sound_in, texts_in}
use Rattle.radio_icy.proofs.UnweavingLemmas.{heard_all_sound, heard_to_part, heard_to_text, heard_to_none}

-- two pieces one after another
pub atoms_of_piece-append : (u : Unweaving) (first second : List ℕ) → atoms_of_piece u (first ++ second) ≡ atoms_of_piece u first ++ atoms_of_piece (after_feeding u first) second
atoms_of_piece-append u [] second = refl
atoms_of_piece-append u (b ∷ first) second =
    ap (λ t. atoms_of_byte u b ++ t) (atoms_of_piece-append (after_fed_byte u b) first second)
    ∙ sym (append_assoc (atoms_of_byte u b) (atoms_of_piece (after_fed_byte u b) first) (atoms_of_piece (after_feeding (after_fed_byte u b) first) second))

pub after_feeding-append : (u : Unweaving) (first second : List ℕ) → after_feeding u (first ++ second) ≡ after_feeding (after_feeding u first) second
after_feeding-append u [] second = refl
after_feeding-append u (b ∷ first) second = after_feeding-append (after_fed_byte u b) first second

-- however a stream is cut
pub heard_by_pieces-concat : (u : Unweaving) (pieces : List (List ℕ)) → heard_by_pieces u pieces ≡ atoms_of_piece u (concat pieces)
heard_by_pieces-concat u [] = refl
heard_by_pieces-concat u (piece ∷ pieces) =
    ap (λ t. atoms_of_piece u piece ++ t) (heard_by_pieces-concat (after_feeding u piece) pieces) ∙ sym (atoms_of_piece-append u piece (concat pieces))

pub after_pieces-concat : (u : Unweaving) (pieces : List (List ℕ)) → after_pieces u pieces ≡ after_feeding u (concat pieces)
after_pieces-concat u [] = refl
after_pieces-concat u (piece ∷ pieces) = after_pieces-concat (after_feeding u piece) pieces ∙ sym (after_feeding-append u piece (concat pieces))

-- the sound and the texts among atoms
pub sound_in-append : (xs ys : List StreamItem) → sound_in (xs ++ ys) ≡ sound_in xs ++ sound_in ys
sound_in-append [] ys = refl
sound_in-append (SoundByte b ∷ xs) ys = ap (λ t. b ∷ t) (sound_in-append xs ys)
sound_in-append (WholeText text ∷ xs) ys = sound_in-append xs ys

pub texts_in-append : (xs ys : List StreamItem) → texts_in (xs ++ ys) ≡ texts_in xs ++ texts_in ys
texts_in-append [] ys = refl
texts_in-append (SoundByte b ∷ xs) ys = texts_in-append xs ys
texts_in-append (WholeText text ∷ xs) ys = ap (λ t. text ∷ t) (texts_in-append xs ys)

pub sound_in-map : (sound : List ℕ) → sound_in (map (λ b. SoundByte b) sound) ≡ sound
sound_in-map [] = refl
sound_in-map (b ∷ sound) = ap (λ t. b ∷ t) (sound_in-map sound)

pub texts_in-map : (sound : List ℕ) → texts_in (map (λ b. SoundByte b) sound) ≡ []
texts_in-map [] = refl
texts_in-map (b ∷ sound) = texts_in-map sound

-- some texts as atoms
abbrev pub as_atoms : List (List ℕ) → List StreamItem
as_atoms texts = map (λ t. WholeText t) texts

pub sound_in-texts : (texts : List (List ℕ)) → sound_in (as_atoms texts) ≡ []
sound_in-texts [] = refl
sound_in-texts (text ∷ texts) = sound_in-texts texts

pub texts_in-texts : (texts : List (List ℕ)) → texts_in (as_atoms texts) ≡ texts
texts_in-texts [] = refl
texts_in-texts (text ∷ texts) = ap (λ t. text ∷ t) (texts_in-texts texts)

-- the text of a block that is cut short, and of a whole one
text_of_block-short : (q : ℕ) (bytes : List ℕ) → 0 < q → length bytes < 16 * q → text_of_block (q ∷ bytes) ≡ []
text_of_block-short q bytes some short = rw (ne_eqb q 0 (λ e. omega arith), lt-ltb (length bytes) (16 * q) short) refl

text_of_block-whole : (q : ℕ) (bytes : List ℕ) → 0 < q → 16 * q ≤ length bytes → text_of_block (q ∷ bytes) ≡ without_padding (take (16 * q) bytes) ∷ []
text_of_block-whole q bytes some long = rw (ne_eqb q 0 (λ e. omega arith), le-ltb (length bytes) (16 * q) long) refl

-- one interval, and what follows it
heard_interval : (n q : ℕ) (front bytes : List ℕ) → length front ≡ n
    → atoms_of_piece (at_sound n n) (front ++ q ∷ bytes) ≡ map (λ b. SoundByte b) front
    ++ (as_atoms (text_of_block (q ∷ bytes)) ++ atoms_of_piece (at_sound n n) (after_block (q ∷ bytes)))
heard_interval n zero front bytes whole = heard_to_none n n front bytes (sym whole)
heard_interval n (suc q) front bytes whole =
    let size = 16 * suc q in
    let sound = map (λ b. SoundByte b) front in
    ⊎_elim
    (λ (short : length bytes < size).
    rw (text_of_block-short (suc q) bytes (omega arith) short, drop_all size bytes (omega arith))
    (heard_to_part n n (suc q) front bytes (sym whole) short ∙ sym (append-nil sound)))
    (λ (long : size ≤ length bytes).
    rw (text_of_block-whole (suc q) bytes (omega arith) long)
    (ap (λ t. atoms_of_piece (at_sound n n) (front ++ suc q ∷ t)) (sym (take-append-drop size bytes))
    ∙ heard_to_text n n (suc q) front (take size bytes) (drop size bytes) (sym whole) (omega arith) (length-take-le size bytes long)))
    (cases_lt (length bytes) size)

-- the part of a stream after its first interval and block is shorter
after_block_fits : (k n : ℕ) (out : List ℕ) → n < length out → length out ≤ suc k → length (after_block (drop n out)) ≤ k
after_block_fits k n out more fits =
    rw (drop_more out n 0 more) (omega (arith, length-drop (16 * get_or out n 0) (drop (n + 1) out), length-drop (n + 1) out))

heard_first : (n : ℕ) (out : List ℕ) → n < length out
    → atoms_of_piece (at_sound n n) out ≡ map (λ b. SoundByte b) (take n out)
    ++ (as_atoms (text_of_block (drop n out)) ++ atoms_of_piece (at_sound n n) (after_block (drop n out)))
heard_first n out more =
    let q = get_or out n 0 in
    let bytes = drop (n + 1) out in
    let split : out ≡ take n out ++ q ∷ bytes = sym (take-append-drop n out) ∙ ap (λ t. take n out ++ t) (drop_more out n 0 more) in
    ap (atoms_of_piece (at_sound n n)) split
    ∙ (heard_interval n q (take n out) bytes (length-take-le n out (omega arith))
    ∙ ap (λ (t : List ℕ). map (λ b. SoundByte b) (take n out) ++ (as_atoms (text_of_block t) ++ atoms_of_piece (at_sound n n) (after_block t)))
    (sym (drop_more out n 0 more)))

-- the sound that is read in a stream with at most k blocks
pub sound_in-atoms_of_piece : (k n : ℕ) (out : List ℕ) → length out ≤ k → sound_in (atoms_of_piece (at_sound n n) out) ≡ bare_within k n out
sound_in-atoms_of_piece zero n out fits = let none : out ≡ [] = nil_from_length out (omega arith) in rw none refl
sound_in-atoms_of_piece (suc k) n out fits =
    ⊎_elim
    (λ (more : n < length out).
    let front = map (λ b. SoundByte b) (take n out) in
    let text = as_atoms (text_of_block (drop n out)) in
    let later = atoms_of_piece (at_sound n n) (after_block (drop n out)) in
    rw (lt-leb (length out) n more)
    (ap sound_in (heard_first n out more)
    ∙ (sound_in-append front (text ++ later)
    ∙ (ap (λ t. t ++ sound_in (text ++ later)) (sound_in-map (take n out))
    ∙ (ap (λ t. take n out ++ t) (sound_in-append text later)
    ∙ (ap (λ t. take n out ++ (t ++ sound_in later)) (sound_in-texts (text_of_block (drop n out)))
    ∙ ap (λ t. take n out ++ t) (sound_in-atoms_of_piece k n (after_block (drop n out)) (after_block_fits k n out more fits))))))))
    (λ (short : length out ≤ n).
    rw (le-leb (length out) n short) (ap sound_in (heard_all_sound n n out short) ∙ sound_in-map out))
    (cases_lt n (length out))

-- the texts that are read in a stream with at most k blocks
pub texts_in-atoms_of_piece : (k n : ℕ) (out : List ℕ) → length out ≤ k → texts_in (atoms_of_piece (at_sound n n) out) ≡ block_texts_within k n out
texts_in-atoms_of_piece zero n out fits = let none : out ≡ [] = nil_from_length out (omega arith) in rw none refl
texts_in-atoms_of_piece (suc k) n out fits =
    ⊎_elim
    (λ (more : n < length out).
    let front = map (λ b. SoundByte b) (take n out) in
    let text = as_atoms (text_of_block (drop n out)) in
    let later = atoms_of_piece (at_sound n n) (after_block (drop n out)) in
    rw (lt-leb (length out) n more)
    (ap texts_in (heard_first n out more)
    ∙ (texts_in-append front (text ++ later)
    ∙ (ap (λ t. t ++ texts_in (text ++ later)) (texts_in-map (take n out))
    ∙ (texts_in-append text later
    ∙ (ap (λ t. t ++ texts_in later) (texts_in-texts (text_of_block (drop n out)))
    ∙ ap (λ t. text_of_block (drop n out) ++ t) (texts_in-atoms_of_piece k n (after_block (drop n out)) (after_block_fits k n out more fits))))))))
    (λ (short : length out ≤ n).
    rw (le-leb (length out) n short) (ap texts_in (heard_all_sound n n out short) ∙ texts_in-map out))
    (cases_lt n (length out))

-- what is read in a stream from its start
pub sound_in-is-bare : (n : ℕ) (out : List ℕ) → sound_in (atoms_of_piece (new_unweaving n) out) ≡ bare n out
unfolding bare
sound_in-is-bare n out = sound_in-atoms_of_piece (length out) n out (omega arith)

pub texts_in-is-block_texts : (n : ℕ) (out : List ℕ) → texts_in (atoms_of_piece (new_unweaving n) out) ≡ block_texts n out
unfolding block_texts
texts_in-is-block_texts n out = texts_in-atoms_of_piece (length out) n out (omega arith)

-- the bare sound of a stream, by the two cases of its definition
pub bare-short : (n : ℕ) (out : List ℕ) → length out ≤ n → bare n out ≡ out
unfolding bare
bare-short n out short = sym (sound_in-atoms_of_piece (length out) n out (omega arith)) ∙ (ap sound_in (heard_all_sound n n out short) ∙ sound_in-map out)

pub bare-long : (n : ℕ) (out : List ℕ) → n < length out → bare n out ≡ take n out ++ bare n (after_block (drop n out))
unfolding bare
bare-long n out more =
    let later = after_block (drop n out) in
    sym (sound_in-atoms_of_piece (length out) n out (omega arith))
    ∙ (sound_in-atoms_of_piece (suc (length out)) n out (omega arith)
    ∙ rw (lt-leb (length out) n more)
    (ap (λ t. take n out ++ t)
    (sym (sound_in-atoms_of_piece (length out) n later (after_block_fits (length out) n out more (omega arith))) ∙ sound_in-atoms_of_piece (length later) n later (omega arith))))
