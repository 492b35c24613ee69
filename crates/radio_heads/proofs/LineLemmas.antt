-- Lines of text, one after another: where they end, and that no empty line stands before the last.
use Rattle.std.proofs.Common.{◌≡◌, ℕ, zero, suc, ◌+◌, ◌-◌, ◌<◌, ◌≤◌, true, List, [], ◌∷◌, ◌++◌, length, refl, sym, ap, ◌∙◌, arith, append_assoc, length-append}
use Rattle.std.specs.Prelude.{slice_index, All}
use Rattle.std.specs.List.{flat_map}
use Rattle.std.proofs.lemmas.Bool.{false≢true}
use Rattle.std.proofs.lemmas.List.{get_or-append-add}
use Rattle.std.proofs.lemmas.List.Elements.{All-head, All-tail}
use Rattle.httparse.specs.Ascii.{line_feed, carriage_return, colon}
use Rattle.httparse.specs.Grammar.{AllPass, LineEnd, crlf, lf, print_end, Field, print_field}
use Rattle.radio_heads.specs.Search.{is_text}

-- ---- text

-- the text of a line: not empty, and without CR and LF
pub record IsLineText (text : List ℕ) : Type 0 where
  pub some : 0 < length text
  pub clean : AllPass is_text text

pub first_text : (text more : List ℕ) → IsLineText text → is_text (slice_index (text ++ more) 0) ≡ true
first_text [] more h = absurd (omega (arith, h.some))
first_text (b ∷ text) more h = All-head (λ c. is_text c ≡ true) b text h.clean

-- ---- breaks

-- each LF among the first n bytes is followed by text
abbrev pub HasNoBreak : List ℕ → ℕ → Type 0
HasNoBreak bytes n = (k : ℕ) → k < n → slice_index bytes k ≡ line_feed → is_text (slice_index bytes (suc k)) ≡ true

pub HasNoBreak-cons : (b : ℕ) (bytes : List ℕ) (n m : ℕ) → m ≤ n + 1 → (b ≡ line_feed → is_text (slice_index bytes 0) ≡ true)
    → HasNoBreak bytes n → HasNoBreak (b ∷ bytes) m
HasNoBreak-cons b bytes n m le here rest zero lt e = here e
HasNoBreak-cons b bytes n m le here rest (suc k) lt e = rest k (omega arith) e

-- a byte of text is no LF
pub text_no_feed : (b : ℕ) → is_text b ≡ true → b ≡ line_feed → ⊥
text_no_feed b t e = false≢true (ap is_text (sym e) ∙ t)

pub HasNoBreak-text : (text bytes : List ℕ) (n m : ℕ) → m ≤ length text + n → AllPass is_text text
    → HasNoBreak bytes n → HasNoBreak (text ++ bytes) m
HasNoBreak-text [] bytes n m le clean rest = λ k lt e. rest k (omega arith) e
HasNoBreak-text (b ∷ text) bytes n m le clean rest =
    HasNoBreak-cons b (text ++ bytes) (length text + n) m (omega arith)
    (λ e. absurd (text_no_feed b (All-head (λ c. is_text c ≡ true) b text clean) e))
    (HasNoBreak-text text bytes n (length text + n) (omega arith) (All-tail (λ c. is_text c ≡ true) b text clean) rest)

pub HasNoBreak-end : (end : LineEnd) (bytes : List ℕ) (n m : ℕ) → m ≤ length (print_end end) + n
    → is_text (slice_index bytes 0) ≡ true → HasNoBreak bytes n → HasNoBreak (print_end end ++ bytes) m
HasNoBreak-end crlf bytes n m le first rest =
    HasNoBreak-cons carriage_return (line_feed ∷ bytes) (n + 1) m (omega arith) (λ e. absurd (omega (arith, e)))
    (HasNoBreak-cons line_feed bytes n (n + 1) (omega arith) (λ _. first) rest)
HasNoBreak-end lf bytes n m le first rest = HasNoBreak-cons line_feed bytes n m (omega arith) (λ _. first) rest

-- ---- lines

-- the text of a header line
abbrev pub field_text : Field → List ℕ
field_text f = f.name ++ colon ∷ f.raw

-- a line, the field lines after it, and what follows
abbrev pub lines_text : List ℕ → LineEnd → List Field → List ℕ → List ℕ
lines_text text end [] tail = text ++ (print_end end ++ tail)
lines_text text end (f ∷ fields) tail = text ++ (print_end end ++ lines_text (field_text f) f.end fields tail)

-- how many bytes these lines have
abbrev pub lines_length : List ℕ → LineEnd → List Field → ℕ
lines_length text end [] = length text + length (print_end end)
lines_length text end (f ∷ fields) = length text + (length (print_end end) + lines_length (field_text f) f.end fields)

pub lines_text_is : (text : List ℕ) (end : LineEnd) (fields : List Field) (tail : List ℕ)
    → lines_text text end fields tail ≡ text ++ (print_end end ++ (flat_map print_field fields ++ tail))
lines_text_is text end [] tail = refl
lines_text_is text end (f ∷ fields) tail =
    ap (λ (more : List ℕ). text ++ (print_end end ++ more))
    (lines_text_is (field_text f) f.end fields tail
    ∙ sym (append_assoc (field_text f) (print_end f.end) (flat_map print_field fields ++ tail))
    ∙ sym (append_assoc (print_field f) (flat_map print_field fields) tail))

pub lines_length_is : (text : List ℕ) (end : LineEnd) (fields : List Field)
    → lines_length text end fields ≡ length text + (length (print_end end) + length (flat_map print_field fields))
lines_length_is text end [] = omega arith
lines_length_is text end (f ∷ fields) =
    omega (
      arith,
      lines_length_is (field_text f) f.end fields,
      length-append (print_field f) (flat_map print_field fields),
      length-append (field_text f) (print_end f.end),
    )

-- the first line and each field line has a text
pub record AreLines (text : List ℕ) (fields : List Field) : Type 0 where
  pub first : IsLineText text
  pub others : All (λ f. IsLineText (field_text f)) fields

pub AreLines-tail : (text : List ℕ) (f : Field) (fields : List Field) → AreLines text (f ∷ fields) → AreLines (field_text f) fields
AreLines-tail text f fields h = record {
  first = All-head (λ g. IsLineText (field_text g)) f fields h.others;
  others = All-tail (λ g. IsLineText (field_text g)) f fields h.others;
}

pub lines_length-low : (text : List ℕ) (end : LineEnd) (fields : List Field) → AreLines text fields → 1 < lines_length text end fields
lines_length-low text crlf [] h = omega (arith, h.first.some)
lines_length-low text lf [] h = omega (arith, h.first.some)
lines_length-low text end (f ∷ fields) h =
    omega (arith, lines_length-low (field_text f) f.end fields (AreLines-tail text f fields h))

-- the lines begin with text
pub lines_begin : (text : List ℕ) (end : LineEnd) (fields : List Field) (tail : List ℕ) → AreLines text fields
    → is_text (slice_index (lines_text text end fields tail) 0) ≡ true
lines_begin text end [] tail h = first_text text _ h.first
lines_begin text end (f ∷ fields) tail h = first_text text _ h.first

-- what follows the lines
pub lines_tail : (text : List ℕ) (end : LineEnd) (fields : List Field) (tail : List ℕ) (k : ℕ)
    → slice_index (lines_text text end fields tail) (lines_length text end fields + k) ≡ slice_index tail k
lines_tail text end [] tail k =
    let place : length text + length (print_end end) + k ≡ length text + (length (print_end end) + k) = omega arith in
    ap (slice_index (text ++ (print_end end ++ tail))) place
    ∙ get_or-append-add text (print_end end ++ tail) (length (print_end end) + k) 0
    ∙ get_or-append-add (print_end end) tail k 0
lines_tail text end (f ∷ fields) tail k =
    let more = lines_text (field_text f) f.end fields tail in
    let size = lines_length (field_text f) f.end fields in
    let place : length text + (length (print_end end) + size) + k ≡ length text + (length (print_end end) + (size + k)) = omega arith in
    ap (slice_index (text ++ (print_end end ++ more))) place
    ∙ get_or-append-add text (print_end end ++ more) (length (print_end end) + (size + k)) 0
    ∙ get_or-append-add (print_end end) more (size + k) 0
    ∙ lines_tail (field_text f) f.end fields tail k

-- the lines end with an LF
pub lines_end : (text : List ℕ) (end : LineEnd) (fields : List Field) (tail : List ℕ) → AreLines text fields
    → slice_index (lines_text text end fields tail) (lines_length text end fields - 1) ≡ line_feed
lines_end text crlf [] tail h =
    let place : length text + 2 - 1 ≡ length text + 1 = omega arith in
    ap (slice_index (text ++ (print_end crlf ++ tail))) place
    ∙ get_or-append-add text (print_end crlf ++ tail) 1 0
lines_end text lf [] tail h =
    let place : length text + 1 - 1 ≡ length text + 0 = omega arith in
    ap (slice_index (text ++ (print_end lf ++ tail))) place
    ∙ get_or-append-add text (print_end lf ++ tail) 0 0
lines_end text end (f ∷ fields) tail h =
    let more = lines_text (field_text f) f.end fields tail in
    let size = lines_length (field_text f) f.end fields in
    let low = lines_length-low (field_text f) f.end fields (AreLines-tail text f fields h) in
    let place : length text + (length (print_end end) + size) - 1 ≡ length text + (length (print_end end) + (size - 1)) = omega arith in
    ap (slice_index (text ++ (print_end end ++ more))) place
    ∙ get_or-append-add text (print_end end ++ more) (length (print_end end) + (size - 1)) 0
    ∙ get_or-append-add (print_end end) more (size - 1) 0
    ∙ lines_end (field_text f) f.end fields tail (AreLines-tail text f fields h)

-- and before that LF each LF is followed by text
pub lines_unbroken : (text : List ℕ) (end : LineEnd) (fields : List Field) (tail : List ℕ) → AreLines text fields
    → HasNoBreak (lines_text text end fields tail) (lines_length text end fields - 1)
lines_unbroken text crlf [] tail h =
    HasNoBreak-text text _ 1 _ (omega arith) h.first.clean
    (HasNoBreak-cons carriage_return (line_feed ∷ tail) 0 1 (omega arith) (λ e. absurd (omega (arith, e))) (λ k lt. absurd (omega arith)))
lines_unbroken text lf [] tail h =
    HasNoBreak-text text _ 0 _ (omega arith) h.first.clean (λ k lt. absurd (omega arith))
lines_unbroken text end (f ∷ fields) tail h =
    let more = AreLines-tail text f fields h in
    let low = lines_length-low (field_text f) f.end fields more in
    HasNoBreak-text text _ (length (print_end end) + (lines_length (field_text f) f.end fields - 1)) _ (omega arith) h.first.clean
    (HasNoBreak-end end _ (lines_length (field_text f) f.end fields - 1) _ (omega arith) (lines_begin (field_text f) f.end fields tail more)
    (lines_unbroken (field_text f) f.end fields tail more))
