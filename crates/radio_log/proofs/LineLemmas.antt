-- Lines and their words.
use Rattle.std.proofs.Common.{◌≡◌, ◌≢◌, ℕ, ◌/◌, ◌%◌, ◌<◌, Bool, true, false, List, [], ◌∷◌, ◌++◌, Some, refl, sym, ap, ◌∙◌, arith, append_assoc}
use Rattle.std.specs.Prelude.{map, codes, ◌&&◌, ◌||◌, ◌==◌, nat_le}
use Rattle.std.specs.List.{AllByRecursion, flat_map, list_all}
use Rattle.std.proofs.lemmas.Bool.{false≢true}
use Rattle.std.proofs.lemmas.Bool.Decides.{nat_tests}
use Rattle.std.proofs.lemmas.List.Folds.{flat_map-map}
use Rattle.httpdate.specs.Text.{two_digits, four_digits}
use Rattle.radio_texts.specs.Cuts.{cut, fields_at}
use Rattle.radio_log.specs.declared.facts.Fact.{Fact}
use Rattle.radio_log.specs.declared.facts.Fact.TheVariants.{Started, Ended, ClientEnded, SourceUp, SourceGone, RelayUp, RelayGone, RelayFailed, MountUp, MountGone, Title, Command, Warning, Fault, Lost}
use Rattle.radio_log.specs.declared.moment.Moment.{Moment}
use Rattle.radio_log.specs.declared.notes.Note.{Note}
use Rattle.radio_log.specs.Moments.{day_text, time_text, moment_text}
use Rattle.radio_log.specs.Shown.{shown_value}
use Rattle.radio_log.specs.Lines.{Field, spaced, fields_of, fact_text, body, field_word, fact_kind, note_line}
use Rattle.radio_log.specs.Laws.{IsText, IsMoment, IsPrintable, read_word}
use Rattle.radio_log.proofs.ShownLemmas.{IsVisible, Each-append, Each-weaker, shown_visible, decoded_shown}
use Rattle.radio_log.proofs.WordLemmas.{Lacks, cut_at, words_read}

-- a byte of a name: a small letter or `-`
abbrev pub is_name_byte : ℕ → Bool
is_name_byte b = (nat_le 97 b && nat_le b 122) || (b == 45)

abbrev pub is_name : List ℕ → Bool
is_name text = list_all is_name_byte text

abbrev pub has_name : Field → Bool
has_name field = is_name field.0

kinds_are_names : (fact : Fact) → is_name (fact_kind fact) ≡ true
kinds_are_names (Started version address) = refl
kinds_are_names (Ended why) = refl
kinds_are_names (ClientEnded c) = refl
kinds_are_names (SourceUp s) = refl
kinds_are_names (SourceGone s) = refl
kinds_are_names (RelayUp r) = refl
kinds_are_names (RelayGone r) = refl
kinds_are_names (RelayFailed r) = refl
kinds_are_names (MountUp mount) = refl
kinds_are_names (MountGone mount why) = refl
kinds_are_names (Title t) = refl
kinds_are_names (Command c) = refl
kinds_are_names (Warning w) = refl
kinds_are_names (Fault f) = refl
kinds_are_names (Lost lines) = refl

fields_have_names : (fact : Fact) → list_all has_name (fields_of fact) ≡ true
fields_have_names (Started version address) = refl
fields_have_names (Ended why) = refl
fields_have_names (ClientEnded c) = refl
fields_have_names (SourceUp s) = refl
fields_have_names (SourceGone s) = refl
fields_have_names (RelayUp r) = refl
fields_have_names (RelayGone r) = refl
fields_have_names (RelayFailed r) = refl
fields_have_names (MountUp mount) = refl
fields_have_names (MountGone mount why) = refl
fields_have_names (Title t) = refl
fields_have_names (Command c) = refl
fields_have_names (Warning w) = refl
fields_have_names (Fault f) = refl
fields_have_names (Lost lines) = refl

both : (x y : Bool) → (x && y) ≡ true → (x ≡ true) × (y ≡ true)
both true y h = (refl, h)
both false y h = absurd (false≢true h)

-- the same as facts on each element
from_test : {X : Type 0} (test : X → Bool) (xs : List X) → list_all test xs ≡ true → AllByRecursion (λ x. test x ≡ true) xs
from_test test [] h = tt
from_test test (x ∷ xs) h = let halves = both (test x) (list_all test xs) h in (halves.0, from_test test xs halves.1)

abbrev pub IsNameByte : ℕ → Type 0
IsNameByte b = is_name_byte b ≡ true

name_byte_visible : (b : ℕ) → IsNameByte b → IsVisible b
name_byte_visible b h = (grind (arith, nat_tests), grind (arith, nat_tests))

name_byte_apart : (b : ℕ) → IsNameByte b → b ≢ 61
name_byte_apart b h e = grind (arith, nat_tests)

name_visible : (name : List ℕ) → is_name name ≡ true → AllByRecursion IsVisible name
name_visible name h = Each-weaker IsNameByte IsVisible name_byte_visible name (from_test is_name_byte name h)

name_lacks : (name : List ℕ) → is_name name ≡ true → Lacks 61 name
name_lacks name h = Each-weaker IsNameByte (λ b. b ≢ 61) name_byte_apart name (from_test is_name_byte name h)

pub visible_lacks : (c : ℕ) → c < 33 → (text : List ℕ) → AllByRecursion IsVisible text → Lacks c text
visible_lacks c low text h = Each-weaker IsVisible (λ b. b ≢ c) (λ b v e. omega (arith, v.0, e)) text h

-- words

word_visible : (field : Field) → has_name field ≡ true → AllByRecursion IsVisible (field_word field)
unfolding field_word
word_visible field named =
    Each-append IsVisible (field.0 ++ codes "=") (shown_value field.1)
    (Each-append IsVisible field.0 (codes "=") (name_visible field.0 named) ((omega arith, omega arith), tt))
    (shown_visible field.1)

words_visible : (fields : List Field) → AllByRecursion (λ (field : Field). has_name field ≡ true) fields → AllByRecursion (AllByRecursion IsVisible) (map field_word fields)
words_visible [] h = tt
words_visible (field ∷ fields) h = (word_visible field h.0, words_visible fields h.1)

word_read : (field : Field) → has_name field ≡ true → IsText field.1 → read_word (field_word field) ≡ Some field
unfolding field_word
word_read field named bytes =
    let place = append_assoc field.0 (codes "=") (shown_value field.1) in
    let found = ap (cut 61) place ∙ cut_at 61 field.0 (shown_value field.1) (name_lacks field.0 named) in
    rw (found, decoded_shown field.1 bytes) refl

pub fields_read : (fields : List Field) → AllByRecursion (λ (field : Field). has_name field ≡ true) fields → AllByRecursion (λ (field : Field). IsText field.1) fields
    → map read_word (map field_word fields) ≡ map (λ (field : Field). Some field) fields
fields_read [] h k = refl
fields_read (field ∷ fields) h k = rw (word_read field h.0 k.0) (ap (λ fs. Some field ∷ fs) (fields_read fields h.1 k.1))

-- moments

two_visible : (n : ℕ) → n < 100 → AllByRecursion IsVisible (two_digits n)
two_visible n small = ((omega arith, omega arith), ((omega arith, omega arith), tt))

four_visible : (n : ℕ) → n < 10000 → AllByRecursion IsVisible (four_digits n)
four_visible n small = Each-append IsVisible (two_digits (n / 100)) (two_digits (n % 100)) (two_visible (n / 100) (omega arith)) (two_visible (n % 100) (omega arith))

parted : (xs ys : List ℕ) (b : ℕ) → AllByRecursion IsVisible xs → IsVisible b → AllByRecursion IsVisible ys → AllByRecursion IsVisible (xs ++ (b ∷ []) ++ ys)
parted xs ys b h v k = Each-append IsVisible (xs ++ b ∷ []) ys (Each-append IsVisible xs (b ∷ []) h (v, tt)) k

day_visible : (m : Moment) → IsMoment m → AllByRecursion IsVisible (day_text m)
unfolding day_text
day_visible m h =
    let front = parted (four_digits m.year) (two_digits m.month) 45 (four_visible m.year (omega arith)) (omega arith, omega arith) (two_visible m.month (omega arith)) in
    let short : m.day < 100 = grind (arith, nat_tests) in
    parted (four_digits m.year ++ codes "-" ++ two_digits m.month) (two_digits m.day) 45 front (omega arith, omega arith) (two_visible m.day short)

time_visible : (m : Moment) → IsMoment m → AllByRecursion IsVisible (time_text m)
unfolding time_text
time_visible m h =
    let front = parted (two_digits m.hour) (two_digits m.minute) 58 (two_visible m.hour (omega arith)) (omega arith, omega arith) (two_visible m.minute (omega arith)) in
    parted (two_digits m.hour ++ codes ":" ++ two_digits m.minute) (two_digits m.second) 58 front (omega arith, omega arith) (two_visible m.second (omega arith))

pub moment_visible : (m : Moment) → IsMoment m → AllByRecursion IsVisible (moment_text m)
unfolding moment_text
moment_visible m h =
    Each-append IsVisible (day_text m ++ codes "T" ++ time_text m) (codes "Z")
    (parted (day_text m) (time_text m) 84 (day_visible m h) (omega arith, omega arith) (time_visible m h)) ((omega arith, omega arith), tt)

-- bodies

-- the kind and the fields of a fact
abbrev pub words_of : Fact → List (List ℕ)
words_of fact = fact_kind fact ∷ map field_word (fields_of fact)

fact_in_words : (fact : Fact) → fact_text fact ≡ flat_map spaced (words_of fact)
fact_in_words fact = ap (λ (text : List ℕ). spaced (fact_kind fact) ++ text) (sym (flat_map-map spaced field_word (fields_of fact)))

fact_visible : (fact : Fact) → AllByRecursion (AllByRecursion IsVisible) (words_of fact)
fact_visible fact =
    (name_visible (fact_kind fact) (kinds_are_names fact), words_visible (fields_of fact) (from_test has_name (fields_of fact) (fields_have_names fact)))

pub fields_named : (fact : Fact) → AllByRecursion (λ (field : Field). has_name field ≡ true) (fields_of fact)
fields_named fact = from_test has_name (fields_of fact) (fields_have_names fact)

pub body_read : (note : Note) → IsMoment note.moment
    → fields_at 32 (body note) ≡ moment_text note.moment ∷ fact_kind note.fact ∷ map field_word (fields_of note.fact)
body_read note h =
    let lacks = Each-weaker (AllByRecursion IsVisible) (Lacks 32) (visible_lacks 32 (omega arith)) (words_of note.fact) (fact_visible note.fact) in
    ap (λ (text : List ℕ). fields_at 32 (moment_text note.moment ++ text)) (fact_in_words note.fact)
    ∙ words_read (moment_text note.moment) (words_of note.fact) (visible_lacks 32 (omega arith) (moment_text note.moment) (moment_visible note.moment h)) lacks

-- printable bytes

visible_printable : (b : ℕ) → IsVisible b → IsPrintable b
visible_printable b v = (omega (arith, v.0), v.1)

spaced_printable : (words : List (List ℕ)) → AllByRecursion (AllByRecursion IsVisible) words → AllByRecursion IsPrintable (flat_map spaced words)
unfolding spaced
spaced_printable [] h = tt
spaced_printable (text ∷ words) h =
    ((omega arith, omega arith), Each-append IsPrintable text (flat_map spaced words) (Each-weaker IsVisible IsPrintable visible_printable text h.0) (spaced_printable words h.1))

pub body_printable : (note : Note) → IsMoment note.moment → AllByRecursion IsPrintable (body note)
body_printable note h =
    rw (fact_in_words note.fact)
    (Each-append IsPrintable (moment_text note.moment) (flat_map spaced (words_of note.fact))
    (Each-weaker IsVisible IsPrintable visible_printable (moment_text note.moment) (moment_visible note.moment h))
    (spaced_printable (words_of note.fact) (fact_visible note.fact)))

printable_apart : (b : ℕ) → IsPrintable b → b ≢ 10
printable_apart b h e = omega (arith, h.0, e)

pub line_ends : (note : Note) (rest : List ℕ) → IsMoment note.moment → cut 10 (note_line note ++ rest) ≡ Some (body note, rest)
unfolding note_line
line_ends note rest h =
    ap (cut 10) (append_assoc (body note) (codes "\n") rest)
    ∙ cut_at 10 (body note) rest (Each-weaker IsPrintable (λ b. b ≢ 10) printable_apart (body note) (body_printable note h))
