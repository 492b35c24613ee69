-- A chunk line read from the left is the chunk line of `httparse`.
use Rattle.std.proofs.Common.{◌≡◌, ℕ, zero, suc, ◌+◌, ◌*◌, ◌<◌, ◌≤◌, Bool, true, false, eqb, nat_lt, ◌&&◌, if◌then◌else◌, codes, subst, List, [], ◌∷◌, ◌++◌}
use Rattle.std.proofs.Common.{length, ap, sym, ◌∙◌, refl, arith, append_assoc, append-nil, Option, Some, None}
use Rattle.std.specs.Char.{is_ascii_hexdigit, digit_value}
use Rattle.std.specs.Str.Parse.{digits_value_after}
use Rattle.std.proofs.lemmas.List.Elements.{All-head, All-tail, All-cons}
use Rattle.std.proofs.lemmas.Bool.{lt-ltb, ne_eqb, false≢true}
use Rattle.std.proofs.lemmas.Bool.Decides.{nat_tests}
use Rattle.httparse.specs.Ascii.{carriage_return, line_feed, semicolon, crlf_bytes}
use Rattle.httparse.specs.Grammar.{is_ows, is_extension_byte, AllPass, IsExtension, print_extension, ChunkLine, print_chunk_line, chunk_size, ReadsChunkLine}
use Rattle.httparse.specs.Grammar.{HasNoChunkLine, NeverHasChunkLine, MayBecomeChunkLine}
use Rattle.radio_source.specs.declared.chunk_line.LineReading.{LineReading}
use Rattle.radio_source.specs.declared.chunk_line.LineReading.TheVariants.{Unfinished, Whole, Refused}
use Rattle.radio_source.specs.ChunkLine.{chunk_line_end, extension_in, padding_in, digits_in, chunk_line_in}

-- ---- what is printed is read

read_extension : (size : ℕ) (text rest : List ℕ) → AllPass is_extension_byte text → extension_in size (text ++ (crlf_bytes ++ rest)) ≡ Whole size
read_extension size [] rest all = refl
read_extension size (b ∷ text) rest all =
    rw (All-head (λ v. is_extension_byte v ≡ true) b text all) (read_extension size text rest (All-tail (λ v. is_extension_byte v ≡ true) b text all))

read_tail : (size : ℕ) (e : Option (List ℕ)) (rest : List ℕ) → IsExtension e → padding_in size (print_extension e ++ (crlf_bytes ++ rest)) ≡ Whole size
read_tail size None rest valid = refl
read_tail size (Some text) rest valid = read_extension size text rest valid

read_padding : (size : ℕ) (pad : List ℕ) (e : Option (List ℕ)) (rest : List ℕ) → AllPass is_ows pad → IsExtension e
    → padding_in size (pad ++ (print_extension e ++ (crlf_bytes ++ rest))) ≡ Whole size
read_padding size [] e rest all valid = read_tail size e rest valid
read_padding size (b ∷ pad) e rest all valid =
    rw (All-head (λ v. is_ows v ≡ true) b pad all) (read_padding size pad e rest (All-tail (λ v. is_ows v ≡ true) b pad all) valid)

ows_is_no_digit : (b : ℕ) → is_ows b ≡ true → is_ascii_hexdigit b ≡ false
ows_is_no_digit b ows = grind (arith, nat_tests)

-- past the digits
after_digits : (count size b : ℕ) (rest : List ℕ) → 0 < count → is_ascii_hexdigit b ≡ false → digits_in count size (b ∷ rest) ≡ padding_in size (b ∷ rest)
after_digits count size b rest some none = rw (none, ne_eqb count 0 (λ e. omega arith)) refl

read_after_digits : (count size : ℕ) (pad : List ℕ) (e : Option (List ℕ)) (rest : List ℕ) → 0 < count → AllPass is_ows pad → IsExtension e
    → digits_in count size (pad ++ (print_extension e ++ (crlf_bytes ++ rest))) ≡ Whole size
read_after_digits count size [] None rest some all valid = after_digits count size 13 (10 ∷ rest) some refl
read_after_digits count size [] (Some text) rest some all valid =
    after_digits count size 59 (text ++ (crlf_bytes ++ rest)) some refl ∙ read_extension size text rest valid
read_after_digits count size (b ∷ pad) e rest some all valid =
    let ows = All-head (λ v. is_ows v ≡ true) b pad all in
    after_digits count size b (pad ++ (print_extension e ++ (crlf_bytes ++ rest))) some (ows_is_no_digit b ows) ∙ read_padding size (b ∷ pad) e rest all valid

read_digits : (count size : ℕ) (digits pad : List ℕ) (e : Option (List ℕ)) (rest : List ℕ) → AllPass is_ascii_hexdigit digits → length digits + count ≤ 16
    → 0 < length digits + count → AllPass is_ows pad → IsExtension e
    → digits_in count size (digits ++ (pad ++ (print_extension e ++ (crlf_bytes ++ rest)))) ≡ Whole (digits_value_after 16 size digits)
read_digits count size [] pad e rest all few some ows valid = read_after_digits count size pad e rest (omega (arith, some)) ows valid
read_digits count size (b ∷ digits) pad e rest all few some ows valid =
    rw (All-head (λ v. is_ascii_hexdigit v ≡ true) b digits all, lt-ltb count 16 (omega arith))
    (read_digits (count + 1) (size * 16 + digit_value b) digits pad e rest (All-tail (λ v. is_ascii_hexdigit v ≡ true) b digits all) (omega arith)
    (omega arith) ows valid)

pub print_chunk_line-append : (l : ChunkLine) (rest : List ℕ)
    → print_chunk_line l ++ rest ≡ l.digits ++ (l.pad ++ (print_extension l.extension ++ (crlf_bytes ++ rest)))
unfolding print_chunk_line
print_chunk_line-append l rest = simp append_assoc

-- a chunk line at the front is read
pub reads_whole : (bytes : List ℕ) (l : ChunkLine) (rest : List ℕ) → ReadsChunkLine bytes l rest → chunk_line_in bytes ≡ Whole (chunk_size l)
unfolding chunk_line_in
reads_whole bytes l rest x =
    ap (digits_in 0 0) (x.1 ∙ print_chunk_line-append l rest)
    ∙ read_digits 0 0 l.digits l.pad l.extension rest x.0.digits.2 (omega (arith, x.0.digits.1)) (omega (arith, x.0.digits.0)) x.0.pad x.0.extension

-- ---- what is read is printed

-- a test in a reading
by_test : (test : Bool) (F : LineReading → Type 0) (x y : LineReading) → (test ≡ true → F x) → (test ≡ false → F y) → F (if test then x else y)
by_test true F x y yes_case no_case = yes_case refl
by_test false F x y yes_case no_case = no_case refl

-- P of the size, of what would complete the bytes, and of what they have behind
abbrev pub Shows : (ℕ → List ℕ → List ℕ → Type 0) → LineReading → Type 0
Shows P Unfinished = (size : ℕ) × (more : List ℕ) × P size more []
Shows P (Whole size) = (rest : List ℕ) × P size [] rest
Shows P Refused = Unit {0}

Shows-map : (P Q : ℕ → List ℕ → List ℕ → Type 0) → ((size : ℕ) (more rest : List ℕ) → P size more rest → Q size more rest) → (r : LineReading) → Shows P r
    → Shows Q r
Shows-map P Q step Unfinished h = (h.0, h.1, step h.0 h.1 [] h.2)
Shows-map P Q step (Whole size) h = (h.0, step size [] h.0 h.1)
Shows-map P Q step Refused h = tt

-- the size of a line, and at most two bytes that complete it
abbrev IsNear : ℕ → ℕ → List ℕ → Type 0
IsNear size v more = (v ≡ size) × (length more ≤ 2)

none_is_near : length {A = ℕ} [] ≤ 2
none_is_near = omega arith

-- the end of a line of this size
abbrev HasEnd : ℕ → List ℕ → ℕ → List ℕ → List ℕ → Type 0
HasEnd size bytes v more rest = IsNear size v more × (bytes ++ more ≡ crlf_bytes ++ rest)

and_first : (a b : Bool) → (a && b) ≡ true → a ≡ true
and_first true b h = refl
and_first false b h = h

and_second : (a b : Bool) → (a && b) ≡ true → b ≡ true
and_second true b h = h
and_second false b h = absurd (false≢true h)

below_test : (a b : ℕ) → nat_lt a b ≡ true → a + 1 ≤ b
below_test a b h = grind (arith, nat_tests)

not_zero : (n : ℕ) → eqb n 0 ≡ false → 0 < n
not_zero n h = grind (arith, nat_tests)

is_equal : (b n : ℕ) → eqb b n ≡ true → b ≡ n
is_equal b n h = grind (arith, nat_tests)

shows_end : (size : ℕ) (bytes : List ℕ) → Shows (HasEnd size bytes) (chunk_line_end size bytes)
shows_end size [] = (size, crlf_bytes, ((refl, omega arith), refl))
shows_end size (b ∷ []) =
    by_test (eqb b carriage_return) (Shows (HasEnd size (b ∷ []))) Unfinished Refused
    (λ (h : eqb b carriage_return ≡ true). (size, line_feed ∷ [], ((refl, omega arith), ap (λ (c : ℕ). c ∷ line_feed ∷ []) (is_equal b carriage_return h))))
    (λ _. tt)
shows_end size (b ∷ c ∷ rest) =
    by_test (eqb b carriage_return && eqb c line_feed) (Shows (HasEnd size (b ∷ c ∷ rest))) (Whole size) Refused
    (λ (h : (eqb b carriage_return && eqb c line_feed) ≡ true).
    let first : b ≡ carriage_return = is_equal b carriage_return (and_first _ _ h) in
    let second : c ≡ line_feed = is_equal c line_feed (and_second _ _ h) in
    (rest, ((refl, none_is_near), append-nil (b ∷ c ∷ rest) ∙ (ap (λ (x : ℕ). x ∷ c ∷ rest) first ∙ ap (λ (x : ℕ). carriage_return ∷ x ∷ rest) second))))
    (λ _. tt)

-- the rest of an extension, and the end
abbrev HasText : ℕ → List ℕ → ℕ → List ℕ → List ℕ → Type 0
HasText size bytes v more rest = IsNear size v more × ((text : List ℕ) × AllPass is_extension_byte text × (bytes ++ more ≡ text ++ (crlf_bytes ++ rest)))

shows_extension : (size : ℕ) (bytes : List ℕ) → Shows (HasText size bytes) (extension_in size bytes)
shows_extension size [] = (size, crlf_bytes, ((refl, omega arith), ([], (λ k d h. absurd (omega arith)), refl)))
shows_extension size (b ∷ bytes) =
    by_test (is_extension_byte b) (Shows (HasText size (b ∷ bytes))) (extension_in size bytes) (chunk_line_end size (b ∷ bytes))
    (λ (h : is_extension_byte b ≡ true).
    Shows-map (HasText size bytes) (HasText size (b ∷ bytes))
    (λ v more rest (x : HasText size bytes v more rest).
    (x.0, (b ∷ x.1.0, All-cons (λ v. is_extension_byte v ≡ true) b x.1.0 h x.1.1, ap (λ t. b ∷ t) x.1.2)))
    (extension_in size bytes) (shows_extension size bytes))
    (λ _. Shows-map (HasEnd size (b ∷ bytes)) (HasText size (b ∷ bytes))
    (λ v more rest (x : HasEnd size (b ∷ bytes) v more rest). (x.0, ([], (λ k d h. absurd (omega arith)), x.1)))
    (chunk_line_end size (b ∷ bytes)) (shows_end size (b ∷ bytes)))

-- the rest of the padding, and what follows
abbrev HasTail : ℕ → List ℕ → ℕ → List ℕ → List ℕ → Type 0
HasTail size bytes v more rest =
    IsNear size v more × ((pad : List ℕ) × (e : Option (List ℕ)) × AllPass is_ows pad × IsExtension e
    × (bytes ++ more ≡ pad ++ (print_extension e ++ (crlf_bytes ++ rest))))

shows_padding : (size : ℕ) (bytes : List ℕ) → Shows (HasTail size bytes) (padding_in size bytes)
shows_padding size [] = (size, crlf_bytes, ((refl, omega arith), ([], None, (λ k d h. absurd (omega arith)), tt, refl)))
shows_padding size (b ∷ bytes) =
    by_test (is_ows b) (Shows (HasTail size (b ∷ bytes))) (padding_in size bytes)
    (if eqb b semicolon then extension_in size bytes else chunk_line_end size (b ∷ bytes))
    (λ (h : is_ows b ≡ true).
    Shows-map (HasTail size bytes) (HasTail size (b ∷ bytes))
    (λ v more rest (x : HasTail size bytes v more rest).
    (x.0, (b ∷ x.1.0, x.1.1, All-cons (λ v. is_ows v ≡ true) b x.1.0 h x.1.2, x.1.3, ap (λ t. b ∷ t) x.1.4)))
    (padding_in size bytes) (shows_padding size bytes))
    (λ _. by_test (eqb b semicolon) (Shows (HasTail size (b ∷ bytes))) (extension_in size bytes) (chunk_line_end size (b ∷ bytes))
    (λ (h : eqb b semicolon ≡ true).
    Shows-map (HasText size bytes) (HasTail size (b ∷ bytes))
    (λ v more rest (x : HasText size bytes v more rest). (
      x.0,
      (
        [],
        Some x.1.0,
        (λ k d h. absurd (omega arith)),
        x.1.1,
        ap (λ (c : ℕ). c ∷ (bytes ++ more)) (is_equal b semicolon h) ∙ ap (λ t. semicolon ∷ t) x.1.2,
      ),
    ))
    (extension_in size bytes) (shows_extension size bytes))
    (λ _. Shows-map (HasEnd size (b ∷ bytes)) (HasTail size (b ∷ bytes))
    (λ v more rest (x : HasEnd size (b ∷ bytes) v more rest). (x.0, ([], None, (λ k d h. absurd (omega arith)), tt, x.1)))
    (chunk_line_end size (b ∷ bytes)) (shows_end size (b ∷ bytes))))

-- the rest of the digits, and what follows
record HasDigits (count size : ℕ) (bytes : List ℕ) (v : ℕ) (more rest : List ℕ) : Type 0 where
  digits : List ℕ
  pad : List ℕ
  e : Option (List ℕ)
  all : AllPass is_ascii_hexdigit digits
  few : length digits + count ≤ 16
  some : 0 < length digits + count
  ows : AllPass is_ows pad
  valid : IsExtension e
  value : v ≡ digits_value_after 16 size digits
  near : length more ≤ 3
  reads : bytes ++ more ≡ digits ++ (pad ++ (print_extension e ++ (crlf_bytes ++ rest)))

shows_digits : (count size : ℕ) (bytes : List ℕ) → count ≤ 16 → Shows (HasDigits count size bytes) (digits_in count size bytes)
shows_digits zero size [] fits = (
  _,
  codes "0\r\n",
  record {
    digits = codes "0";
    pad = [];
    e = None;
    all = All-cons (λ v. is_ascii_hexdigit v ≡ true) 48 [] refl (λ k d h. absurd (omega arith));
    few = omega arith;
    some = omega arith;
    ows = λ k d h. absurd (omega arith);
    valid = tt;
    value = refl;
    near = omega arith;
    reads = refl;
  },
)
shows_digits (suc count) size [] fits = (
  _,
  crlf_bytes,
  record {
    digits = [];
    pad = [];
    e = None;
    all = λ k d h. absurd (omega arith);
    few = omega arith;
    some = omega arith;
    ows = λ k d h. absurd (omega arith);
    valid = tt;
    value = refl;
    near = omega arith;
    reads = refl;
  },
)
shows_digits count size (b ∷ bytes) fits =
    by_test (is_ascii_hexdigit b) (Shows (HasDigits count size (b ∷ bytes)))
    (if nat_lt count 16 then digits_in (count + 1) (size * 16 + digit_value b) bytes else Refused)
    (if eqb count 0 then Refused else padding_in size (b ∷ bytes))
    (λ (h : is_ascii_hexdigit b ≡ true).
    by_test (nat_lt count 16) (Shows (HasDigits count size (b ∷ bytes))) (digits_in (count + 1) (size * 16 + digit_value b) bytes) Refused
    (λ (less : nat_lt count 16 ≡ true).
    let room : count + 1 ≤ 16 = below_test count 16 less in
    Shows-map (HasDigits (count + 1) (size * 16 + digit_value b) bytes) (HasDigits count size (b ∷ bytes))
    (λ v more rest (x : HasDigits (count + 1) (size * 16 + digit_value b) bytes v more rest). record {
      digits = b ∷ x.digits;
      pad = x.pad;
      e = x.e;
      all = All-cons (λ v. is_ascii_hexdigit v ≡ true) b x.digits h x.all;
      few = omega (arith, x.few);
      some = omega arith;
      ows = x.ows;
      valid = x.valid;
      value = x.value;
      near = x.near;
      reads = ap (λ t. b ∷ t) x.reads;
    })
    (digits_in (count + 1) (size * 16 + digit_value b) bytes) (shows_digits (count + 1) (size * 16 + digit_value b) bytes room))
    (λ _. tt))
    (λ _. by_test (eqb count 0) (Shows (HasDigits count size (b ∷ bytes))) Refused (padding_in size (b ∷ bytes))
    (λ _. tt)
    (λ (some : eqb count 0 ≡ false).
    Shows-map (HasTail size (b ∷ bytes)) (HasDigits count size (b ∷ bytes))
    (λ v more rest (x : HasTail size (b ∷ bytes) v more rest). record {
      digits = [];
      pad = x.1.0;
      e = x.1.1;
      all = λ k d h. absurd (omega arith);
      few = omega arith;
      some = omega (arith, not_zero count some);
      ows = x.1.2;
      valid = x.1.3;
      value = x.0.0;
      near = omega (arith, x.0.1);
      reads = x.1.4;
    })
    (padding_in size (b ∷ bytes)) (shows_padding size (b ∷ bytes))))

-- a chunk line at the front of the bytes with what would complete them
abbrev pub HasLine : List ℕ → ℕ → List ℕ → List ℕ → Type 0
HasLine bytes v more rest = (l : ChunkLine) × ReadsChunkLine (bytes ++ more) l rest × (chunk_size l ≡ v) × (length more ≤ 3)

pub shows_line : (bytes : List ℕ) → Shows (HasLine bytes) (chunk_line_in bytes)
unfolding chunk_line_in
shows_line bytes =
    Shows-map (HasDigits 0 0 bytes) (HasLine bytes)
    (λ v more rest (x : HasDigits 0 0 bytes v more rest).
    let l : ChunkLine = record { digits = x.digits; pad = x.pad; extension = x.e } in (
      l,
      (
        record { digits = (omega (arith, x.some), omega (arith, x.few), x.all); pad = x.ows; extension = x.valid },
        x.reads ∙ sym (print_chunk_line-append l rest),
      ),
      sym x.value,
      x.near,
    ))
    (digits_in 0 0 bytes) (shows_digits 0 0 bytes (omega arith))

-- ---- what is refused stays so

pub unlike : {size : ℕ} → Unfinished ≡ Whole size → ⊥
unlike e = cc

refused_unlike : {size : ℕ} → Refused ≡ Whole size → ⊥
refused_unlike e = cc

refused_end : (size : ℕ) (bytes more : List ℕ) → chunk_line_end size bytes ≡ Refused → chunk_line_end size (bytes ++ more) ≡ Refused
refused_end size [] more h = absurd (cc)
refused_end size (b ∷ []) [] h = h
refused_end size (b ∷ []) (c ∷ more) h =
    by_test (eqb b carriage_return) (λ r. r ≡ Refused → chunk_line_end size (b ∷ c ∷ more) ≡ Refused) Unfinished Refused
    (λ _ (e : Unfinished ≡ Refused). absurd (cc))
    (λ (t : eqb b carriage_return ≡ false) _. rw t refl) h
refused_end size (b ∷ c ∷ rest) more h = h

refused_extension : (size : ℕ) (bytes more : List ℕ) → extension_in size bytes ≡ Refused → extension_in size (bytes ++ more) ≡ Refused
refused_extension size [] more h = absurd (cc)
refused_extension size (b ∷ bytes) more h =
    by_test (is_extension_byte b) (λ r. r ≡ Refused → extension_in size (b ∷ (bytes ++ more)) ≡ Refused) (extension_in size bytes) (chunk_line_end size (b ∷ bytes))
    (λ (t : is_extension_byte b ≡ true) (e : extension_in size bytes ≡ Refused). rw t (refused_extension size bytes more e))
    (λ (t : is_extension_byte b ≡ false) (e : chunk_line_end size (b ∷ bytes) ≡ Refused). rw t (refused_end size (b ∷ bytes) more e)) h

refused_padding : (size : ℕ) (bytes more : List ℕ) → padding_in size bytes ≡ Refused → padding_in size (bytes ++ more) ≡ Refused
refused_padding size [] more h = absurd (cc)
refused_padding size (b ∷ bytes) more h =
    by_test (is_ows b) (λ r. r ≡ Refused → padding_in size (b ∷ (bytes ++ more)) ≡ Refused) (padding_in size bytes)
    (if eqb b semicolon then extension_in size bytes else chunk_line_end size (b ∷ bytes))
    (λ (t : is_ows b ≡ true) (e : padding_in size bytes ≡ Refused). rw t (refused_padding size bytes more e))
    (λ (t : is_ows b ≡ false).
    by_test (eqb b semicolon) (λ r. r ≡ Refused → padding_in size (b ∷ (bytes ++ more)) ≡ Refused) (extension_in size bytes) (chunk_line_end size (b ∷ bytes))
    (λ (s : eqb b semicolon ≡ true) (e : extension_in size bytes ≡ Refused). rw (t, s) (refused_extension size bytes more e))
    (λ (s : eqb b semicolon ≡ false) (e : chunk_line_end size (b ∷ bytes) ≡ Refused). rw (t, s) (refused_end size (b ∷ bytes) more e))) h

refused_digits : (count size : ℕ) (bytes more : List ℕ) → digits_in count size bytes ≡ Refused → digits_in count size (bytes ++ more) ≡ Refused
refused_digits count size [] more h = absurd (cc)
refused_digits count size (b ∷ bytes) more h =
    by_test (is_ascii_hexdigit b) (λ r. r ≡ Refused → digits_in count size (b ∷ (bytes ++ more)) ≡ Refused)
    (if nat_lt count 16 then digits_in (count + 1) (size * 16 + digit_value b) bytes else Refused)
    (if eqb count 0 then Refused else padding_in size (b ∷ bytes))
    (λ (t : is_ascii_hexdigit b ≡ true).
    by_test (nat_lt count 16) (λ r. r ≡ Refused → digits_in count size (b ∷ (bytes ++ more)) ≡ Refused)
    (digits_in (count + 1) (size * 16 + digit_value b) bytes) Refused
    (λ (s : nat_lt count 16 ≡ true) (e : digits_in (count + 1) (size * 16 + digit_value b) bytes ≡ Refused).
    rw (t, s) (refused_digits (count + 1) (size * 16 + digit_value b) bytes more e))
    (λ (s : nat_lt count 16 ≡ false) _. rw (t, s) refl))
    (λ (t : is_ascii_hexdigit b ≡ false).
    by_test (eqb count 0) (λ r. r ≡ Refused → digits_in count size (b ∷ (bytes ++ more)) ≡ Refused) Refused (padding_in size (b ∷ bytes))
    (λ (s : eqb count 0 ≡ true) _. rw (t, s) refl)
    (λ (s : eqb count 0 ≡ false) (e : padding_in size (b ∷ bytes) ≡ Refused). rw (t, s) (refused_padding size (b ∷ bytes) more e))) h

pub refused_stays : (bytes more : List ℕ) → chunk_line_in bytes ≡ Refused → chunk_line_in (bytes ++ more) ≡ Refused
unfolding chunk_line_in
refused_stays bytes more h = refused_digits 0 0 bytes more h

-- ---- the three readings, as `httparse` says them

pub whole_is_line : (bytes : List ℕ) (size : ℕ) → chunk_line_in bytes ≡ Whole size → (l : ChunkLine) × (rest : List ℕ) × ReadsChunkLine bytes l rest
    × (chunk_size l ≡ size)
whole_is_line bytes size h =
    let x : Shows (HasLine bytes) (Whole size) = subst (Shows (HasLine bytes)) h (shows_line bytes) in
    (x.1.0, x.0, subst (λ (b : List ℕ). ReadsChunkLine b x.1.0 x.0) (append-nil bytes) x.1.1, x.1.2)

pub whole_has_line : (bytes : List ℕ) (size : ℕ) → chunk_line_in bytes ≡ Whole size → ¬ (HasNoChunkLine bytes)
whole_has_line bytes size h none = let x = whole_is_line bytes size h in none x.0 x.1 x.2

pub unfinished_has_none : (bytes : List ℕ) → chunk_line_in bytes ≡ Unfinished → HasNoChunkLine bytes
unfinished_has_none bytes h l rest x = absurd (unlike (sym h ∙ reads_whole bytes l rest x))

pub unfinished_may : (bytes : List ℕ) → chunk_line_in bytes ≡ Unfinished → MayBecomeChunkLine bytes
unfinished_may bytes h = let x : Shows (HasLine bytes) Unfinished = subst (Shows (HasLine bytes)) h (shows_line bytes) in (x.1, x.2.0, x.2.1)

-- at most three bytes complete it
pub unfinished_is_near : (bytes : List ℕ) → chunk_line_in bytes ≡ Unfinished → (more : List ℕ) × (l : ChunkLine) × ReadsChunkLine (bytes ++ more) l []
    × (length more ≤ 3)
unfinished_is_near bytes h = let x : Shows (HasLine bytes) Unfinished = subst (Shows (HasLine bytes)) h (shows_line bytes) in (x.1, x.2.0, x.2.1, x.2.3)

pub refused_never : (bytes : List ℕ) → chunk_line_in bytes ≡ Refused → NeverHasChunkLine bytes
refused_never bytes h more l rest x = absurd (refused_unlike (sym (refused_stays bytes more h) ∙ reads_whole (bytes ++ more) l rest x))

-- which of the three it is
partial_from : (bytes : List ℕ) → HasNoChunkLine bytes → MayBecomeChunkLine bytes → (r : LineReading) → chunk_line_in bytes ≡ r → r ≡ Unfinished
partial_from bytes none may Unfinished h = refl
partial_from bytes none may (Whole size) h = absurd (whole_has_line bytes size h none)
partial_from bytes none may Refused h = absurd (refused_never bytes h may.0 may.1 [] may.2)

pub reads_partial : (bytes : List ℕ) → HasNoChunkLine bytes → MayBecomeChunkLine bytes → chunk_line_in bytes ≡ Unfinished
reads_partial bytes none may = partial_from bytes none may (chunk_line_in bytes) refl

never_from : (bytes : List ℕ) → NeverHasChunkLine bytes → (r : LineReading) → chunk_line_in bytes ≡ r → r ≡ Refused
never_from bytes never Unfinished h = let x = unfinished_may bytes h in absurd (never x.0 x.1 [] x.2)
never_from bytes never (Whole size) h =
    let x = whole_is_line bytes size h in
    absurd (never [] x.0 x.1 (subst (λ (b : List ℕ). ReadsChunkLine b x.0 x.1) (sym (append-nil bytes)) x.2))
never_from bytes never Refused h = refl

pub reads_never : (bytes : List ℕ) → NeverHasChunkLine bytes → chunk_line_in bytes ≡ Refused
reads_never bytes never = never_from bytes never (chunk_line_in bytes) refl
