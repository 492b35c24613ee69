-- The text of a transcript is that of one list of lines alone.
use Rattle.std.proofs.Common.{◌≡◌, ◌≢◌, ℕ, ◌+◌, ◌/◌, ◌%◌, ◌^◌, ◌<◌, ◌≤◌, Bool, true, false, cond, nat_lt, ◌==◌, List, [], ◌∷◌, ◌++◌, Option, Some, None, refl}
use Rattle.std.proofs.Common.{sym, ap, ◌∙◌, subst, arith, append_assoc}
use Rattle.std.specs.Prelude.{if◌then◌else◌}
use Rattle.radio_script.proofs.Words.{flat_map, AllByRecursion, option_map, digit_char, digit_value, AllDigits, nat_tests, Between, is_unescaped, escape_of, escaped, hex_value_of, unescaped_from, unescaped, has_feed}
use Rattle.std.specs.Fmt.{decimal}
use Rattle.std.proofs.lemmas.Fmt.{decimal_injective, decimal_is_IsNumeral}
use Rattle.radio_script.specs.TranscriptLines.{out_line, shut_line}
use Rattle.radio_script.specs.Given.{TranscriptLine, out, shut, line_text, transcript_text, IsLine, AreLines}
use Rattle.radio_script.proofs.DeviceLemmas.{or_false}
use Rattle.radio_script.proofs.EscapeLemmas.{read_by_return, unescaped_escaped}

-- The text lacks the byte.
abbrev pub Lacks : ℕ → List ℕ → Type 0
Lacks b text = AllByRecursion (λ c. c ≢ b) text

-- the texts before and after the first byte of this kind
cut_same : (s : ℕ) (xs ys rest more : List ℕ) → Lacks s xs → Lacks s ys → xs ++ s ∷ rest ≡ ys ++ s ∷ more → (xs ≡ ys) × (rest ≡ more)
cut_same s [] [] rest more h k e = (refl, cc)
cut_same s [] (y ∷ ys) rest more h k e = let same : y ≡ s = cc in absurd (k.0 same)
cut_same s (x ∷ xs) [] rest more h k e = let same : x ≡ s = cc in absurd (h.0 same)
cut_same s (x ∷ xs) (y ∷ ys) rest more h k e =
    let first : x ≡ y = cc in
    let others : xs ++ s ∷ rest ≡ ys ++ s ∷ more = cc in
    let same = cut_same s xs ys rest more h.1 k.1 others in
    let whole = same.0 in
    (cc, same.1)

Lacks-append : (b : ℕ) (xs ys : List ℕ) → Lacks b xs → Lacks b ys → Lacks b (xs ++ ys)
Lacks-append b [] ys h k = k
Lacks-append b (x ∷ xs) ys h k = (h.0, Lacks-append b xs ys h.1 k)

Lacks-if : (t : Bool) (xs ys : List ℕ) → Lacks 10 xs → (t ≡ false → Lacks 10 ys) → Lacks 10 (if t then xs else ys)
Lacks-if true xs ys h k = h
Lacks-if false xs ys h k = k refl

-- no digit is a space

digits_lack : (ds : List ℕ) → AllDigits 10 ds → Lacks 32 ds
digits_lack [] h = tt
digits_lack (d ∷ ds) h = ((λ e. omega (arith, subst (λ x. digit_value x < 10) e h.0)), digits_lack ds h.1)

-- no escape contains a line feed

not_feed : (b : ℕ) → (b == 10) ≡ false → b ≢ 10
not_feed b f e = let same : (b == 10) ≡ true = ap (λ x. x == 10) e in cc

glyph_by : (d : ℕ) (t : Bool) → nat_lt d 10 ≡ t → cond t (48 + d) (87 + d) ≢ 10
glyph_by d true e f = omega (arith, f)
glyph_by d false e f = omega (arith, f)

glyph_not_feed : (d : ℕ) → digit_char d ≢ 10
glyph_not_feed d = glyph_by d (nat_lt d 10) refl

escape_lacks : (b : ℕ) → Lacks 10 (escape_of b)
escape_lacks b =
    Lacks-if (b == 13) _ _ (not_feed 92 refl, (not_feed 114 refl, tt)) (λ e13.
    Lacks-if (b == 10) _ _ (not_feed 92 refl, (not_feed 110 refl, tt)) (λ e10.
    Lacks-if (b == 92) _ _ (not_feed 92 refl, (not_feed 92 refl, tt)) (λ e92.
    Lacks-if (is_unescaped b) _ _ (not_feed b e10, tt) (λ other.
    (not_feed 92 refl, (not_feed 120 refl, (glyph_not_feed (b / 16), (glyph_not_feed (b % 16), tt))))))))

escaped_lacks : (bytes : List ℕ) → Lacks 10 (escaped bytes)
unfolding escaped
escaped_lacks [] = tt
escaped_lacks (b ∷ bytes) = Lacks-append 10 (escape_of b) (flat_map escape_of bytes) (escape_lacks b) (escaped_lacks bytes)

-- a number that is no byte is not read back

hex_large : (d : ℕ) → 16 ≤ d → hex_value_of (digit_char d) ≡ None
hex_large d large =
    let is : digit_char d ≡ 87 + d = grind (arith, nat_tests) in
    let full : nat_lt (digit_value (87 + d)) 16 ≡ false = grind (arith, nat_tests) in
    rw (is, full) refl

read_large : (b : ℕ) (rest : List ℕ) → 256 ≤ b → unescaped_from Between (escape_of b ++ rest) ≡ None
read_large b rest large =
    let e13 : (b == 13) ≡ false = grind (arith, nat_tests) in
    let e10 : (b == 10) ≡ false = grind (arith, nat_tests) in
    let e92 : (b == 92) ≡ false = grind (arith, nat_tests) in
    let plain : is_unescaped b ≡ false = grind (arith, nat_tests) in
    rw (e13, e10, plain, e92, hex_large (b / 16) (omega arith)) refl

-- the rest of a list to whose front a byte was added
front_of : (b : ℕ) (o : Option (List ℕ)) (cs : List ℕ) → option_map (λ bytes. b ∷ bytes) o ≡ Some cs → (ds : List ℕ) × (o ≡ Some ds) × (b ∷ ds ≡ cs)
front_of b None cs e = cc
front_of b (Some ds) cs e = (ds, refl, cc)

read_one : (b : ℕ) (bytes cs : List ℕ) (t : Bool) → nat_lt b 256 ≡ t → unescaped_from Between (escape_of b ++ flat_map escape_of bytes) ≡ Some cs
    → ((ds : List ℕ) → unescaped_from Between (flat_map escape_of bytes) ≡ Some ds → bytes ≡ ds) → b ∷ bytes ≡ cs
read_one b bytes cs true small e others =
    let byte : b < 256 = grind (arith, nat_tests) in
    let f = front_of b (unescaped_from Between (flat_map escape_of bytes)) cs (sym (read_by_return b (flat_map escape_of bytes) byte (b == 13) refl) ∙ e) in
    ap (λ (xs : List ℕ). b ∷ xs) (others f.0 f.1) ∙ f.2
read_one b bytes cs false large e others =
    let above : 256 ≤ b = grind (arith, nat_tests) in
    let none = read_large b (flat_map escape_of bytes) above in
    cc

read_same : (bytes cs : List ℕ) → unescaped_from Between (flat_map escape_of bytes) ≡ Some cs → bytes ≡ cs
read_same [] cs e = cc
read_same (b ∷ bytes) cs e = read_one b bytes cs (nat_lt b 256) refl e (λ ds f. read_same bytes ds f)

escaped_same : (bytes cs : List ℕ) → AllByRecursion (λ b. b < 256) cs → escaped bytes ≡ escaped cs → bytes ≡ cs
unfolding unescaped escaped
escaped_same bytes cs h e = read_same bytes cs (ap (unescaped_from Between) e ∙ unescaped_escaped cs h)

-- a label and a text, followed by a line feed

labelled_then : (label : ℕ) (text rest : List ℕ) → ((decimal label ++ (32 ∷ text)) ++ (10 ∷ [])) ++ rest ≡ decimal label ++ (32 ∷ (text ++ (10 ∷ rest)))
labelled_then label text rest =
    append_assoc (decimal label ++ (32 ∷ text)) (10 ∷ []) rest ∙ append_assoc (decimal label) (32 ∷ text) (10 ∷ rest)

decimal_lacks : (label : ℕ) → label < 2 ^ 32 → Lacks 32 (decimal label)
decimal_lacks label small = digits_lack (decimal label) (decimal_is_IsNumeral label (omega arith)).0.1

labelled_same : (label other : ℕ) (text more rest tail : List ℕ) → label < 2 ^ 32 → other < 2 ^ 32 → Lacks 10 text → Lacks 10 more
    → decimal label ++ (32 ∷ (text ++ (10 ∷ rest))) ≡ decimal other ++ (32 ∷ (more ++ (10 ∷ tail))) → (label ≡ other) × (text ≡ more) × (rest ≡ tail)
labelled_same label other text more rest tail small little lacks lacking e =
    let front = cut_same 32 (decimal label) (decimal other) (text ++ 10 ∷ rest) (more ++ 10 ∷ tail) (decimal_lacks label small)
    (decimal_lacks other little) e in
    let back = cut_same 10 text more rest tail lacks lacking front.1 in
    (decimal_injective label other (omega arith) (omega arith) front.0, back.0, back.1)

word_lacks : (word : List ℕ) → has_feed word ≡ false → Lacks 10 word
word_lacks [] h = tt
word_lacks (b ∷ word) h =
    let parts = or_false (b == 10) (has_feed word) h in
    (not_feed b parts.0, word_lacks word parts.1)

-- What the reading of a line needs: a label of 32 bits, and a word without a line feed.
abbrev pub IsTold : TranscriptLine → Type 0
IsTold (out label bytes) = label < 2 ^ 32
IsTold (shut label word) = (label < 2 ^ 32) × (has_feed word ≡ false)

out_then : (label : ℕ) (bytes rest : List ℕ) → out_line label bytes ++ rest ≡ 111 ∷ 117 ∷ 116 ∷ 32 ∷ (decimal label ++ (32 ∷ (escaped bytes ++ (10 ∷ rest))))
unfolding out_line
out_then label bytes rest = ap (λ (xs : List ℕ). 111 ∷ 117 ∷ 116 ∷ 32 ∷ xs) (labelled_then label (escaped bytes) rest)

shut_then : (label : ℕ) (word rest : List ℕ) → shut_line label word ++ rest ≡ 115 ∷ 104 ∷ 117 ∷ 116 ∷ 32 ∷ (decimal label ++ (32 ∷ (word ++ (10 ∷ rest))))
unfolding shut_line
shut_then label word rest = ap (λ (xs : List ℕ). 115 ∷ 104 ∷ 117 ∷ 116 ∷ 32 ∷ xs) (labelled_then label word rest)

-- an `out` line is no `shut` line
out_not_shut : (xs ys : List ℕ) → 111 ∷ xs ≢ 115 ∷ ys
out_not_shut xs ys e = let first : ◌≡◌ {A = ℕ} 111 115 = cc in omega (arith, first)

-- two lines with the text after them
line_same : (line other : TranscriptLine) (rest tail : List ℕ) → IsTold line → IsLine other → line_text line ++ rest ≡ line_text other ++ tail
    → (line ≡ other) × (rest ≡ tail)
line_same (out label bytes) (out other cs) rest tail h k e =
    let is = sym (out_then label bytes rest) ∙ e ∙ out_then other cs tail in
    let behind : decimal label ++ (32 ∷ (escaped bytes ++ (10 ∷ rest))) ≡ decimal other ++ (32 ∷ (escaped cs ++ (10 ∷ tail))) = cc in
    let same = labelled_same label other (escaped bytes) (escaped cs) rest tail h k.0 (escaped_lacks bytes) (escaped_lacks cs) behind in
    let his = same.0 in
    let told = escaped_same bytes cs k.1 same.1 in
    (cc, same.2)
line_same (shut label word) (shut other name) rest tail h k e =
    let is = sym (shut_then label word rest) ∙ e ∙ shut_then other name tail in
    let behind : decimal label ++ (32 ∷ (word ++ (10 ∷ rest))) ≡ decimal other ++ (32 ∷ (name ++ (10 ∷ tail))) = cc in
    let same = labelled_same label other word name rest tail h.0 k.0 (word_lacks word h.1) (word_lacks name k.1) behind in
    let his = same.0 in
    let told = same.1 in
    (cc, same.2)
line_same (out label bytes) (shut other name) rest tail h k e =
    absurd (out_not_shut _ _ (sym (out_then label bytes rest) ∙ e ∙ shut_then other name tail))
line_same (shut label word) (out other cs) rest tail h k e =
    absurd (out_not_shut _ _ (sym (sym (shut_then label word rest) ∙ e ∙ out_then other cs tail)))

line_some : (line : TranscriptLine) (rest : List ℕ) → line_text line ++ rest ≢ []
line_some (out label bytes) rest e = let is = sym (out_then label bytes rest) ∙ e in cc
line_some (shut label word) rest e = let is = sym (shut_then label word rest) ∙ e in cc

-- the lines that are read from a transcript are those that were written
pub read_as_told : (lines others : List TranscriptLine) → AllByRecursion IsTold lines → AreLines others → transcript_text lines ≡ transcript_text others → lines ≡ others
read_as_told [] [] h k e = refl
read_as_told [] (other ∷ others) h k e = absurd (line_some other (transcript_text others) (sym e))
read_as_told (line ∷ lines) [] h k e = absurd (line_some line (transcript_text lines) e)
read_as_told (line ∷ lines) (other ∷ others) h k e =
    let same = line_same line other (transcript_text lines) (transcript_text others) h.0 k.0 e in
    let first = same.0 in
    let rest = read_as_told lines others h.1 k.1 same.1 in
    cc

told_line : (line : TranscriptLine) → IsLine line → IsTold line
told_line (out label bytes) h = h.0
told_line (shut label word) h = h

lines_as_written : (lines : List TranscriptLine) → AreLines lines → AllByRecursion IsTold lines
lines_as_written [] h = tt
lines_as_written (line ∷ lines) h = (told_line line h.0, lines_as_written lines h.1)

pub read_one_way : (lines others : List TranscriptLine) → AreLines lines → AreLines others → transcript_text lines ≡ transcript_text others → lines ≡ others
read_one_way lines others h k e = read_as_told lines others (lines_as_written lines h) k e
