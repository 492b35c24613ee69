-- How a woven stream is taken apart: a run of sound, a block, a part of a block.
use Rattle.std.proofs.Common.{◌≡◌, ℕ, zero, suc, ◌+◌, ◌-◌, ◌*◌, ◌<◌, ◌≤◌, List, [], ◌∷◌, ◌++◌, length, map, Option, None, Some, refl, arith, ap, ◌∙◌, sym}
use Rattle.std.proofs.Common.{⊎_elim, append_assoc}
use Rattle.std.proofs.Common.{Bor, IfSome, MatchOption}
use Rattle.std.specs.Prelude.{⊤}
use Rattle.std.specs.Option.{option_map, option_copied}
use Rattle.std.proofs.lemmas.Bool.{lt-ltb, le-ltb, cases_lt, ne_eqb}
use Rattle.std.proofs.lemmas.List.{nil_from_length, append-nil}
use Rattle.radio_icy.specs.Unweaving.{StreamItem, SoundByte, WholeText, at_sound, in_block, after_feeding, without_padding, after_length_byte, atoms_of_piece}

-- a run of sound inside the interval
pub heard_sound : (n left m : ℕ) (sound more : List ℕ) → left ≡ length sound + m
    → atoms_of_piece (at_sound n left) (sound ++ more) ≡ map (λ b. SoundByte b) sound ++ atoms_of_piece (at_sound n m) more
heard_sound n left m [] more e = let same : left ≡ m = omega arith in ap (λ (k : ℕ). atoms_of_piece (at_sound n k) more) same
heard_sound n zero m (b ∷ sound) more e = absurd (omega arith)
heard_sound n (suc left) m (b ∷ sound) more e = ap (λ t. SoundByte b ∷ t) (heard_sound n left m sound more (omega arith))

pub after_sound : (n left m : ℕ) (sound more : List ℕ) → left ≡ length sound + m
    → after_feeding (at_sound n left) (sound ++ more) ≡ after_feeding (at_sound n m) more
after_sound n left m [] more e = let same : left ≡ m = omega arith in ap (λ (k : ℕ). after_feeding (at_sound n k) more) same
after_sound n zero m (b ∷ sound) more e = absurd (omega arith)
after_sound n (suc left) m (b ∷ sound) more e = after_sound n left m sound more (omega arith)

-- one byte of a block
heard_inside : (n left b : ℕ) (held more : List ℕ) → 1 < left → atoms_of_piece (in_block n left held) (b ∷ more) ≡ atoms_of_piece (in_block n (left - 1) (held ++ b ∷ [])) more
heard_inside n left b held more h = rw (lt-ltb 1 left h) refl

heard_last : (n left b : ℕ) (held more : List ℕ) → left ≤ 1
    → atoms_of_piece (in_block n left held) (b ∷ more) ≡ WholeText (without_padding (held ++ b ∷ [])) ∷ atoms_of_piece (at_sound n n) more
heard_last n left b held more h = rw (le-ltb 1 left h) refl

after_inside : (n left b : ℕ) (held more : List ℕ) → 1 < left
    → after_feeding (in_block n left held) (b ∷ more) ≡ after_feeding (in_block n (left - 1) (held ++ b ∷ [])) more
after_inside n left b held more h = rw (lt-ltb 1 left h) refl

after_last : (n left b : ℕ) (held more : List ℕ) → left ≤ 1 → after_feeding (in_block n left held) (b ∷ more) ≡ after_feeding (at_sound n n) more
after_last n left b held more h = rw (le-ltb 1 left h) refl

-- the rest of a block
pub heard_block : (n left : ℕ) (held text more : List ℕ) → 0 < left → left ≡ length text
    → atoms_of_piece (in_block n left held) (text ++ more) ≡ WholeText (without_padding (held ++ text)) ∷ atoms_of_piece (at_sound n n) more
heard_block n left held [] more some e = absurd (omega arith)
heard_block n left held (b ∷ text) more some e =
    ⊎_elim
    (λ (h : 1 < left).
    heard_inside n left b held (text ++ more) h
    ∙ (heard_block n (left - 1) (held ++ b ∷ []) text more (omega arith) (omega arith)
    ∙ ap (λ t. WholeText (without_padding t) ∷ atoms_of_piece (at_sound n n) more) (append_assoc held (b ∷ []) text)))
    (λ (h : left ≤ 1).
    let none : text ≡ [] = nil_from_length text (omega arith) in
    rw none (heard_last n left b held more h))
    (cases_lt 1 left)

pub after_block : (n left : ℕ) (held text more : List ℕ) → 0 < left → left ≡ length text
    → after_feeding (in_block n left held) (text ++ more) ≡ after_feeding (at_sound n n) more
after_block n left held [] more some e = absurd (omega arith)
after_block n left held (b ∷ text) more some e =
    ⊎_elim
    (λ (h : 1 < left).
    after_inside n left b held (text ++ more) h
    ∙ after_block n (left - 1) (held ++ b ∷ []) text more (omega arith) (omega arith))
    (λ (h : left ≤ 1).
    let none : text ≡ [] = nil_from_length text (omega arith) in
    rw none (after_last n left b held more h))
    (cases_lt 1 left)

-- a part of a block that does not end it
pub heard_part : (n left : ℕ) (held part : List ℕ) → length part < left → atoms_of_piece (in_block n left held) part ≡ []
heard_part n left held [] short = refl
heard_part n left held (b ∷ part) short = heard_inside n left b held part (omega arith) ∙ heard_part n (left - 1) (held ++ b ∷ []) part (omega arith)

pub after_part : (n left : ℕ) (held part : List ℕ) → length part < left
    → after_feeding (in_block n left held) part ≡ in_block n (left - length part) (held ++ part)
after_part n left held [] short =
    let same : left ≡ left - 0 = omega arith in
    ap (λ (k : ℕ). in_block n k held) same ∙ ap (λ t. in_block n (left - 0) t) (sym (append-nil held))
after_part n left held (b ∷ part) short =
    let same : left - 1 - length part ≡ left - length (b ∷ part) = omega arith in
    after_inside n left b held part (omega arith)
    ∙ (after_part n (left - 1) (held ++ b ∷ []) part (omega arith)
    ∙ (ap (λ (k : ℕ). in_block n k ((held ++ b ∷ []) ++ part)) same
    ∙ ap (λ t. in_block n (left - length (b ∷ part)) t) (append_assoc held (b ∷ []) part)))

-- a length byte that announces text
pub length_byte_some : (n q : ℕ) → 0 < q → after_length_byte n q ≡ in_block n (16 * q) []
length_byte_some n q some = rw (ne_eqb q 0 (λ e. omega arith)) refl

-- a piece with no length byte in it
pub heard_all_sound : (n left : ℕ) (sound : List ℕ) → length sound ≤ left → atoms_of_piece (at_sound n left) sound ≡ map (λ b. SoundByte b) sound
heard_all_sound n left sound fits =
    ap (atoms_of_piece (at_sound n left)) (sym (append-nil sound))
    ∙ (heard_sound n left (left - length sound) sound [] (omega arith) ∙ append-nil (map (λ b. SoundByte b) sound))

pub after_all_sound : (n left : ℕ) (sound : List ℕ) → length sound ≤ left → at_sound n (left - length sound) ≡ after_feeding (at_sound n left) sound
after_all_sound n left sound fits =
    sym (ap (after_feeding (at_sound n left)) (sym (append-nil sound)) ∙ after_sound n left (left - length sound) sound [] (omega arith))

-- a piece that ends inside a block
pub heard_to_part : (n left q : ℕ) (sound block : List ℕ) → left ≡ length sound → length block < 16 * q
    → atoms_of_piece (at_sound n left) (sound ++ q ∷ block) ≡ map (λ b. SoundByte b) sound
heard_to_part n left q sound block whole short =
    heard_sound n left 0 sound (q ∷ block) (omega arith)
    ∙ (ap (λ u. map (λ b. SoundByte b) sound ++ atoms_of_piece u block) (length_byte_some n q (omega arith))
    ∙ (ap (λ t. map (λ b. SoundByte b) sound ++ t) (heard_part n (16 * q) [] block short) ∙ append-nil (map (λ b. SoundByte b) sound)))

pub after_to_part : (n left q : ℕ) (sound block : List ℕ) → left ≡ length sound → length block < 16 * q
    → in_block n (16 * q - length block) block ≡ after_feeding (at_sound n left) (sound ++ q ∷ block)
after_to_part n left q sound block whole short =
    sym (after_sound n left 0 sound (q ∷ block) (omega arith)
    ∙ (ap (λ u. after_feeding u block) (length_byte_some n q (omega arith)) ∙ after_part n (16 * q) [] block short))

-- an interval with the text after it
pub heard_to_text : (n left q : ℕ) (sound text later : List ℕ) → left ≡ length sound → 0 < q → length text ≡ 16 * q
    → atoms_of_piece (at_sound n left) (sound ++ q ∷ (text ++ later)) ≡ map (λ b. SoundByte b) sound ++ (WholeText (without_padding text) ∷ atoms_of_piece (at_sound n n) later)
heard_to_text n left q sound text later whole some size =
    heard_sound n left 0 sound (q ∷ (text ++ later)) (omega arith)
    ∙ (ap (λ u. map (λ b. SoundByte b) sound ++ atoms_of_piece u (text ++ later)) (length_byte_some n q some)
    ∙ ap (λ t. map (λ b. SoundByte b) sound ++ t) (heard_block n (16 * q) [] text later (omega arith) (omega arith)))

pub after_to_text : (n left q : ℕ) (sound text later : List ℕ) → left ≡ length sound → 0 < q → length text ≡ 16 * q
    → after_feeding (at_sound n left) (sound ++ q ∷ (text ++ later)) ≡ after_feeding (at_sound n n) later
after_to_text n left q sound text later whole some size =
    after_sound n left 0 sound (q ∷ (text ++ later)) (omega arith)
    ∙ (ap (λ u. after_feeding u (text ++ later)) (length_byte_some n q some) ∙ after_block n (16 * q) [] text later (omega arith) (omega arith))

-- an interval with no text after it
pub heard_to_none : (n left : ℕ) (sound later : List ℕ) → left ≡ length sound
    → atoms_of_piece (at_sound n left) (sound ++ 0 ∷ later) ≡ map (λ b. SoundByte b) sound ++ atoms_of_piece (at_sound n n) later
heard_to_none n left sound later whole = heard_sound n left 0 sound (0 ∷ later) (omega arith)

pub after_to_none : (n left : ℕ) (sound later : List ℕ) → left ≡ length sound
    → after_feeding (at_sound n left) (sound ++ 0 ∷ later) ≡ after_feeding (at_sound n n) later
after_to_none n left sound later whole = after_sound n left 0 sound (0 ∷ later) (omega arith)

-- the items so far and those of the rest, after one turn of the loop over intervals
pub turn_to_text : (items sound new new' rest later total : List StreamItem) (text : StreamItem) → new ≡ items ++ sound → new' ≡ new ++ text ∷ []
    → rest ≡ sound ++ text ∷ later → items ++ rest ≡ total → new' ++ later ≡ total
turn_to_text items sound new new' rest later total text first second turn whole = rw (second, first, ← whole, turn) (simp append_assoc)

pub turn_to_none : (items sound new rest later total : List StreamItem) → new ≡ items ++ sound → rest ≡ sound ++ later → items ++ rest ≡ total → new ++ later ≡ total
turn_to_none items sound new rest later total first turn whole = rw (first, ← whole, turn) (simp append_assoc)

pub turn_to_end : (items sound new rest total : List StreamItem) → new ≡ items ++ sound → rest ≡ sound → items ++ rest ≡ total → new ≡ total
turn_to_end items sound new rest total first turn whole = rw (first, ← whole, turn) refl

-- there is a copy if there is a text
pub begun_kept : {X : Type 0} (P : Type 0) (f : X → List ℕ) (copy : Option X) (text : Option (Bor (List ℕ))) → option_map f copy ≡ option_copied text
    → IfSome text (λ _. P) → MatchOption copy ⊤ (λ _. P)
begun_kept P f None text same h = tt
begun_kept P f (Some x) None same h = absurd (cc)
begun_kept P f (Some x) (Some t) same h = h
