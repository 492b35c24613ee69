-- What the definitions of an address list mean.
use Rattle.std.proofs.Common.{◌≡◌, ℕ, ◌+◌, Bool, true, false, List, [], ◌∷◌, ◌++◌, length, Option, None, Some, Result, Ok, Err, refl, sym, ap, subst, ◌∙◌}
use Rattle.std.proofs.Common.{arith}
use Rattle.std.specs.List.{Contains, filter_map, list_any}
use Rattle.std.specs.Option.{option_map, option_and_then}
use Rattle.radio_texts.specs.Cuts.{cut, fields_at}
use Rattle.radio_texts.specs.Numbers.{number_of}
use Rattle.radio_addr.specs.Addresses.{address_of}
use Rattle.radio_addr.specs.Lists.{line_of, lines_after, list_of, part_range, range_from, range_in, range_of, whole_range, width_of, with_line}
use Rattle.radio_addr.specs.Laws.{AreRanges, IsFirstBad, ListsRange, Whole, Part, is_bad, range_on, slash}
use Rattle.radio_addr.specs.declared.address.Address.{Address}
use Rattle.radio_addr.specs.declared.lines.AddressRange.{AddressRange}
use Rattle.radio_addr.specs.declared.lines.ListLine.{ListLine}
use Rattle.radio_addr.specs.declared.lines.ListLine.TheVariants.{Passed, Listed, Bad}

-- ---- what a line lists

-- a cut is at the first byte of its kind
abbrev pub CutsFirst : Type 0
CutsFirst = (at : ℕ) (text front back : List ℕ)
    → (cut at text ≡ Some (front, back) → (text ≡ front ++ at ∷ back) × (Contains front at → ⊥))
    × ((text ≡ front ++ at ∷ back) × (Contains front at → ⊥) → cut at text ≡ Some (front, back))

abbrev pub CutsNone : Type 0
CutsNone = (at : ℕ) (text : List ℕ) → (cut at text ≡ None → Contains text at → ⊥) × ((Contains text at → ⊥) → cut at text ≡ None)

whole : (text : List ℕ) (range : AddressRange) (o : Option Address) → (Contains text slash → ⊥) → address_of text ≡ o
    → option_map whole_range o ≡ Some range → ListsRange text range
whole text range None none is e = cc
whole text range (Some address) none is e =
    let same : whole_range address ≡ range = cc in
    subst (ListsRange text) same (Whole address none is)

bits_of : (text front digits : List ℕ) (range : AddressRange) (address : Address) (o : Option ℕ) → text ≡ front ++ slash ∷ digits
    → (Contains front slash → ⊥) → address_of front ≡ Some address → number_of 10 (width_of address) digits ≡ o
    → option_map (λ n. range_from address n) o ≡ Some range → ListsRange text range
bits_of text front digits range address None at none is bits e = cc
bits_of text front digits range address (Some n) at none is bits e =
    let same : range_from address n ≡ range = cc in
    subst (ListsRange text) same (Part front digits address n at none is bits)

part : (text front digits : List ℕ) (range : AddressRange) (o : Option Address) → text ≡ front ++ slash ∷ digits → (Contains front slash → ⊥)
    → address_of front ≡ o → option_and_then (λ address. part_range address digits) o ≡ Some range → ListsRange text range
part text front digits range None at none is e = cc
part text front digits range (Some address) at none is e =
    bits_of text front digits range address (number_of 10 (width_of address) digits) at none is refl e

either : CutsFirst → CutsNone → (text : List ℕ) (range : AddressRange) (o : Option (List ℕ × List ℕ)) → cut slash text ≡ o
    → range_in text o ≡ Some range → ListsRange text range
either first none text range None is e = whole text range (address_of text) ((none slash text).0 is) refl e
either first none text range (Some parts) is e =
    let found = (first slash text parts.0 parts.1).0 is in
    part text parts.0 parts.1 range (address_of parts.0) found.0 found.1 refl e

written : CutsFirst → CutsNone → (text : List ℕ) (range : AddressRange) → ListsRange text range → range_of text ≡ Some range
unfolding range_of
written first none text _ (Whole address no_slash is) =
    rw ((none slash text).1 no_slash) (ap (option_map whole_range) is)
written first none text _ (Part front digits address n at no_slash is bits) =
    rw ((first slash text front digits).1 (at, no_slash))
    (ap (option_and_then (λ a. part_range a digits)) is ∙ ap (option_map (λ m. range_from address m)) bits)

read : CutsFirst → CutsNone → (text : List ℕ) (range : AddressRange) → range_of text ≡ Some range → ListsRange text range
unfolding range_of
read first none text range e = either first none text range (cut slash text) refl e

pub range_of-lists : CutsFirst → CutsNone → (text : List ℕ) (range : AddressRange)
    → (range_of text ≡ Some range → ListsRange text range) × (ListsRange text range → range_of text ≡ Some range)
range_of-lists first none text range = (read first none text range, written first none text range)

-- ---- the first bad line, after so many others

record FirstBad (k : ℕ) (lines : List (List ℕ)) (n : ℕ) : Type 0 where
  before : List (List ℕ)
  line : List ℕ
  after : List (List ℕ)
  are_lines : lines ≡ before ++ line ∷ after
  none_before : list_any is_bad before ≡ false
  bad : is_bad line ≡ true
  counted : n ≡ k + length before + 1

-- what is said of lines that were read, or of the first bad one
abbrev Says : ℕ → List (List ℕ) → Result (List AddressRange) ℕ → Type 0
Says k lines (Ok ranges) = AreRanges lines ranges
Says k lines (Err n) = FirstBad k lines n

says_bad : (k : ℕ) (line : List ℕ) (lines : List (List ℕ)) → line_of line ≡ Bad → FirstBad k (line ∷ lines) (k + 1)
says_bad k line lines is = record {
  before = [];
  line = line;
  after = lines;
  are_lines = refl;
  none_before = refl;
  bad = rw is refl;
  counted = omega arith;
}

later_bad : (k n : ℕ) (line : List ℕ) (lines : List (List ℕ)) → is_bad line ≡ false → FirstBad (k + 1) lines n → FirstBad k (line ∷ lines) n
later_bad k n line lines good f = record {
  before = line ∷ f.before;
  line = f.line;
  after = f.after;
  are_lines = ap (λ ls. line ∷ ls) f.are_lines;
  none_before = rw good f.none_before;
  bad = f.bad;
  counted = omega (arith, f.counted);
}

says_more : (k : ℕ) (line : List ℕ) (lines : List (List ℕ)) (l : ListLine) (later : Result (List AddressRange) ℕ) → line_of line ≡ l
    → Says (k + 1) lines later → Says k (line ∷ lines) (with_line k l later)
says_more k line lines Passed (Ok ranges) is says = record { none_bad = rw is says.none_bad; listed = rw is says.listed }
says_more k line lines Passed (Err n) is says = later_bad k n line lines (rw is refl) says
says_more k line lines (Listed range) (Ok ranges) is says = record { none_bad = rw is says.none_bad; listed = rw is (ap (λ rs. range ∷ rs) says.listed) }
says_more k line lines (Listed range) (Err n) is says = later_bad k n line lines (rw is refl) says
says_more k line lines Bad (Ok ranges) is says = says_bad k line lines is
says_more k line lines Bad (Err n) is says = says_bad k line lines is

says_all : (k : ℕ) (lines : List (List ℕ)) → Says k lines (lines_after k lines)
says_all k [] = record { none_bad = refl; listed = refl }
says_all k (line ∷ lines) = says_more k line lines (line_of line) (lines_after (k + 1) lines) refl (says_all (k + 1) lines)

-- what is said of them tells what they are
bad_is : (line : List ℕ) (l : ListLine) → line_of line ≡ l → is_bad line ≡ true → l ≡ Bad
bad_is line Passed is bad = let no : is_bad line ≡ false = rw is refl in cc
bad_is line (Listed range) is bad = let no : is_bad line ≡ false = rw is refl in cc
bad_is line Bad is bad = refl

good_any : (line : List ℕ) (lines : List (List ℕ)) (b : Bool) → is_bad line ≡ b → list_any is_bad (line ∷ lines) ≡ false
    → (b ≡ false) × (list_any is_bad lines ≡ false)
good_any line lines true is none = let no : list_any is_bad (line ∷ lines) ≡ true = rw is refl in cc
good_any line lines false is none = (refl, rw is at none)

told : (k : ℕ) (line : List ℕ) (lines after : List (List ℕ)) (l : ListLine) (n : ℕ) → line_of line ≡ l → is_bad line ≡ false
    → lines_after (k + 1) lines ≡ Err n → with_line k l (lines_after (k + 1) lines) ≡ Err n
told k line lines after Passed n is good e = e
told k line lines after (Listed range) n is good e = rw e refl
told k line lines after Bad n is good e = let no : is_bad line ≡ true = rw is refl in cc

bad_told : (k : ℕ) (before : List (List ℕ)) (line : List ℕ) (after : List (List ℕ)) (n : ℕ) → list_any is_bad before ≡ false → is_bad line ≡ true
    → n ≡ k + length before + 1 → lines_after k (before ++ line ∷ after) ≡ Err n
bad_told k [] line after n none bad counted =
    let is : line_of line ≡ Bad = bad_is line (line_of line) refl bad in
    let same : k + 1 ≡ n = omega arith in
    rw is (ap (λ (m : ℕ). Err m) same)
bad_told k (first ∷ before) line after n none bad counted =
    let good = good_any first before (is_bad first) refl none in
    told k first (before ++ line ∷ after) after (line_of first) n refl good.0
    (bad_told (k + 1) before line after n good.1 bad (omega arith))

listed_told : (k : ℕ) (line : List ℕ) (lines : List (List ℕ)) (l : ListLine) → line_of line ≡ l → is_bad line ≡ false
    → lines_after (k + 1) lines ≡ Ok (filter_map range_on lines) → with_line k l (lines_after (k + 1) lines) ≡ Ok (filter_map range_on (line ∷ lines))
listed_told k line lines Passed is good e = rw (is, e) refl
listed_told k line lines (Listed range) is good e = rw (is, e) refl
listed_told k line lines Bad is good e = let no : is_bad line ≡ true = rw is refl in cc

ranges_told : (k : ℕ) (lines : List (List ℕ)) → list_any is_bad lines ≡ false → lines_after k lines ≡ Ok (filter_map range_on lines)
ranges_told k [] none = refl
ranges_told k (line ∷ lines) none =
    let good = good_any line lines (is_bad line) refl none in
    listed_told k line lines (line_of line) refl good.0 (ranges_told (k + 1) lines good.1)

pub list_of-fault : (text : List ℕ) (n : ℕ)
    → (list_of text ≡ Err n → IsFirstBad (fields_at 10 text) n) × (IsFirstBad (fields_at 10 text) n → list_of text ≡ Err n)
list_of-fault text n = (
  λ e. let f : FirstBad 0 (fields_at 10 text) n = rw e at (says_all 0 (fields_at 10 text)) in record {
    before = f.before;
    line = f.line;
    after = f.after;
    are_lines = f.are_lines;
    none_before = f.none_before;
    bad = f.bad;
    counted = omega (arith, f.counted);
  },
  λ f. ap (lines_after 0) f.are_lines ∙ bad_told 0 f.before f.line f.after n f.none_before f.bad (omega (arith, f.counted)),
)

pub list_of-ranges : (text : List ℕ) (ranges : List AddressRange)
    → (list_of text ≡ Ok ranges → AreRanges (fields_at 10 text) ranges) × (AreRanges (fields_at 10 text) ranges → list_of text ≡ Ok ranges)
list_of-ranges text ranges = (
  λ e. rw e at (says_all 0 (fields_at 10 text)),
  λ r. ranges_told 0 (fields_at 10 text) r.none_bad ∙ ap (λ (rs : List AddressRange). Ok rs) (sym r.listed),
)
