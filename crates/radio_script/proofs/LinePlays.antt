-- The playing of one line.
use Rattle.std.proofs.Common.{◌≡◌, ℕ, ◌+◌, ◌≤◌, ◌<◌, Bool, false, true, nat_lt, ◌||◌, List, [], ◌∷◌, ◌++◌, length, Option, None, Some, Ok, Err, refl, sym, ap, ◌∙◌}
use Rattle.std.proofs.Common.{subst, arith, append-nil, append_assoc, length-append, take}
use Rattle.radio_script.proofs.Words.{nat_tests, length-take, take_min, StartsWith, Appends, Consumes, IsAtEnd, Appends-nil, max_line, max_lines, PlayFault, Read, Write, Line, TooMuch, OutOfMemory, has_feed}
use Rattle.radio_script.proofs.Words.{script_lines, Conduct, IfKnown, Writes, IsPlayed, IsPlayedBefore, Plays, YieldsText, IsAtFault, AnswersLine, PlaysLine, IsLineResult}
use Rattle.radio_script.specs.declared.reading.LineRead.TheVariants.{Whole, Last, Nothing, TooLong}
use Rattle.radio_script.specs.Reading.{ReadsLine}
use Rattle.radio_script.proofs.FeedLemmas.{script_lines-line, script_lines-last, script_lines-long, IsOneLine-no_feed, IsOneLine-push}
use Rattle.radio_script.proofs.TranscriptLemmas.{no_lines, answered_last, at_fault, too_much}

too_long : (a : Bool) (n : ℕ) → max_line < n → (a || nat_lt max_line n) ≡ true
too_long true n h = refl
too_long false n h = grind (arith, nat_tests)

-- nothing was written
pub writes_nothing : (a : Option (List ℕ)) (n : ℕ) (P : List ℕ → ℕ → Type 0) → P [] 0 → Writes a a n n P
writes_nothing a n P h = record { written = []; most_calls = 0; appends = Appends-nil a; called = omega arith; holds = h }

pub writes_so : (a b : Option (List ℕ)) (m n : ℕ) (P Q : List ℕ → ℕ → Type 0) → ((w : List ℕ) (t : ℕ) → P w t → Q w t) → Writes a b m n P → Writes a b m n Q
writes_so a b m n P Q f w =
    record { written = w.written; most_calls = w.most_calls; appends = w.appends; called = w.called; holds = f w.written w.most_calls w.holds }

-- the bytes that the reader had are those that it gave and those that it has left
pub known_by : (a b : Option (List ℕ)) (bytes : List ℕ) (Q : List ℕ → List ℕ → Type 0) → Consumes a b bytes
    → ((script left : List ℕ) → script ≡ bytes ++ left → Q script left) → IfKnown a b Q
known_by None b bytes Q c f = tt
known_by (Some script) None bytes Q c f = absurd c
known_by (Some script) (Some left) bytes Q c f = f script left c

-- the same at the reader's end
pub known_at_end : (a b : Option (List ℕ)) (bytes : List ℕ) (Q : List ℕ → List ℕ → Type 0) → Consumes a b bytes → IsAtEnd b → Q bytes [] → IfKnown a b Q
known_at_end None b bytes Q c e q = tt
known_at_end (Some script) None bytes Q c e q = absurd c
known_at_end (Some script) (Some left) bytes Q c e q =
    let all : bytes ≡ script = sym (append-nil bytes) ∙ ap (λ l. bytes ++ l) (sym e) ∙ sym c in
    subst (λ x. Q x left) all (subst (λ x. Q bytes x) (sym e) q)

-- a line that was not performed: nothing is written
pub unwritten : {P : Type 0} (performs : Conduct P) (p : P) (number : ℕ) (line text : List ℕ) (fault : PlayFault) (q : P)
    → IsLineResult performs p number line (Err fault) text q → AnswersLine performs p number line (Err fault) [] 0 q
unwritten performs p number line text Read q h = absurd h
unwritten performs p number line text Write q h = absurd h
unwritten performs p number line text (Line n) q h = (h, refl, refl)
unwritten performs p number line text TooMuch q h = absurd h
unwritten performs p number line text OutOfMemory q h = (refl, refl)

-- a text starts with each of its fronts
front_starts : (n : ℕ) (text : List ℕ) → StartsWith text (take n text)
front_starts n text = ap (λ k. take k text) (length-take n text) ∙ take_min n text

-- a line that was performed, and whose text was written whole
pub written_whole : {P : Type 0} (performs : Conduct P) (p : P) (number : ℕ) (line text bytes : List ℕ) (q : P) (a b : Option (List ℕ)) (m n : ℕ)
    → bytes ≡ text → IsLineResult performs p number line (Ok tt) text q → Appends a b bytes → n ≤ m + length bytes
    → Writes a b m n (λ written most_calls. AnswersLine performs p number line (Ok tt) written most_calls q)
written_whole performs p number line text bytes q a b m n e performed appends called =
    record {
      written = bytes;
      most_calls = length bytes;
      appends = appends;
      called = called;
      holds = (subst (λ t. YieldsText performs p number line t q) (sym e) performed, omega arith);
    }

-- a line that was performed, and whose text was written in part
pub written_in_part : {P : Type 0} (performs : Conduct P) (p : P) (number : ℕ) (line text bytes : List ℕ) (q : P) (a b : Option (List ℕ)) (m n : ℕ)
    → bytes ≡ text → IsLineResult performs p number line (Ok tt) text q → ((k : ℕ) × Appends a b (take k bytes)) → n ≤ m + length bytes
    → Writes a b m n (λ written most_calls. AnswersLine performs p number line (Err Write) written most_calls q)
written_in_part performs p number line text bytes q a b m n e performed front called =
    record {
      written = take front.0 bytes;
      most_calls = length bytes;
      appends = front.1;
      called = called;
      holds = record {
        text = bytes;
        answer = subst (λ t. YieldsText performs p number line t q) (sym e) performed;
        front = front_starts front.0 bytes;
        in_calls = omega arith;
      };
    }

-- none of the script was played
pub before_all : {P : Type 0} (performs : Conduct P) (p : P) (number : ℕ) (script : List ℕ) → IsPlayedBefore performs p number script script [] 0 p
before_all performs p number script =
    record { lines = []; parts = refl; whole = tt; played = record { transcript = no_lines performs p number; in_calls = omega arith } }

none_before : {P : Type 0} (performs : Conduct P) (p : P) (number : ℕ) (script written : List ℕ) (most_calls : ℕ)
    → (written ≡ []) × (most_calls ≡ 0) → IsPlayedBefore performs p number script script written most_calls p
none_before performs p number script written most_calls h =
    subst (λ w. IsPlayedBefore performs p number script script w most_calls p) (sym h.0)
    (subst (λ t. IsPlayedBefore performs p number script script [] t p) (sym h.1) (before_all performs p number script))

-- more bytes than a line may have, without a line feed
long_part : {P : Type 0} (performs : Conduct P) (p : P) (number : ℕ) (part left : List ℕ) → has_feed part ≡ false → max_line < length part
    → Plays performs p number (part ++ left) left (Err TooMuch) [] 0 p
long_part performs p number part left one long =
    let first = script_lines-long part left one (omega arith) in
    let over : (nat_lt max_lines number || nat_lt max_line (length (part ++ first.more))) ≡ true =
    too_long (nat_lt max_lines number) (length (part ++ first.more)) (omega (arith, length-append part first.more)) in
    record {
      transcript = rw first.is (too_much performs p number (part ++ first.more) first.others over);
      in_calls = omega arith;
    }

-- The playing of a script, if nothing of its first line was answered.
pub refused_at_once : {P : Type 0} (performs : Conduct P) (p : P) (number : ℕ) (line : List ℕ) (lines : List (List ℕ)) (script written : List ℕ)
    (most_calls : ℕ) (fault : PlayFault) (q : P)
    → script_lines script ≡ line ∷ lines → IsAtFault performs p number line fault q → (written ≡ []) × (most_calls ≡ 0)
    → IsPlayed performs p number script (Some fault) written most_calls q
refused_at_once performs p number line lines script written most_calls fault q e h nothing =
    record {
      transcript = rw (e, nothing.0) (at_fault performs p number line lines fault q h);
      in_calls = omega (arith, nothing.1);
    }

-- the last line, answered
pub last_answered : {P : Type 0} (performs : Conduct P) (p : P) (number : ℕ) (line written : List ℕ) (most_calls : ℕ) (q : P)
    → has_feed line ≡ false → 0 < length line → YieldsText performs p number line written q × (most_calls ≤ length written)
    → Plays performs p number line [] (Ok tt) written most_calls q
last_answered performs p number line written most_calls q one some h =
    (refl, record { transcript = rw (script_lines-last line one some) (answered_last performs p number line written q h.0); in_calls = h.1 })

-- the last line, if it was not answered whole
pub last_failed : {P : Type 0} (performs : Conduct P) (p : P) (number : ℕ) (line written : List ℕ) (most_calls : ℕ) (fault : PlayFault) (q : P)
    → has_feed line ≡ false → 0 < length line → AnswersLine performs p number line (Err fault) written most_calls q
    → Plays performs p number line [] (Err fault) written most_calls q
last_failed performs p number line written most_calls Read q one some h = absurd h
last_failed performs p number line written most_calls Write q one some h =
    record {
      lines = [];
      line = line;
      parts = sym (append-nil line);
      whole = tt;
      one_line = IsOneLine-no_feed line one;
      between = p;
      before = [];
      text = h.text;
      front = written;
      answered = no_lines performs p number;
      transcript = rw (script_lines-last line one some) (answered_last performs p number line h.text q h.answer);
      cut = h.front;
      is_written = refl;
      in_calls = h.in_calls;
    }
last_failed performs p number line written most_calls (Line n) q one some h =
    refused_at_once performs p number line [] line written most_calls (Line n) q (script_lines-last line one some) h.0 (h.1, h.2)
last_failed performs p number line written most_calls TooMuch q one some h = absurd h
last_failed performs p number line written most_calls OutOfMemory q one some h = (
  line,
  p,
  IsOneLine-no_feed line one,
  subst (λ x. IsPlayedBefore performs p number line x written most_calls p) (sym (append-nil line)) (none_before performs p number line written most_calls h),
)

-- a line with its line feed, if it was not answered whole
pub whole_failed : {P : Type 0} (performs : Conduct P) (p : P) (number : ℕ) (line left written : List ℕ) (most_calls : ℕ) (fault : PlayFault) (q : P)
    → has_feed line ≡ false → AnswersLine performs p number line (Err fault) written most_calls q
    → Plays performs p number (line ++ 10 ∷ left) left (Err fault) written most_calls q
whole_failed performs p number line left written most_calls Read q one h = absurd h
whole_failed performs p number line left written most_calls Write q one h =
    record {
      lines = [];
      line = line ++ 10 ∷ [];
      parts = sym (append_assoc line (10 ∷ []) left);
      whole = tt;
      one_line = IsOneLine-push line one;
      between = p;
      before = [];
      text = h.text;
      front = written;
      answered = no_lines performs p number;
      transcript = rw (script_lines-line line [] one) (answered_last performs p number line h.text q h.answer);
      cut = h.front;
      is_written = refl;
      in_calls = h.in_calls;
    }
whole_failed performs p number line left written most_calls (Line n) q one h =
    refused_at_once performs p number line (script_lines left) (line ++ 10 ∷ left) written most_calls (Line n) q (script_lines-line line left one) h.0 (h.1, h.2)
whole_failed performs p number line left written most_calls TooMuch q one h = absurd h
whole_failed performs p number line left written most_calls OutOfMemory q one h = (
  line ++ 10 ∷ [],
  p,
  IsOneLine-push line one,
  subst (λ x. IsPlayedBefore performs p number (line ++ 10 ∷ left) x written most_calls p) (sym (append_assoc line (10 ∷ []) left))
      (none_before performs p number (line ++ 10 ∷ left) written most_calls h),
)

-- The playing, if the reading of a line failed.
pub reading_failed : {P : Type 0} (performs : Conduct P) (p : P) (number : ℕ) (a b : Option (List ℕ)) (fault : PlayFault) (line : List ℕ)
    → ReadsLine a b (Err fault) line → IfKnown a b (λ script left. Plays performs p number script left (Err fault) [] 0 p)
reading_failed performs p number a b Read line r =
    known_by a b r.0 (λ script left. Plays performs p number script left (Err Read) [] 0 p) r.1
    (λ script left e. (r.0, r.2, subst (λ x. IsPlayedBefore performs p number script x [] 0 p) e (before_all performs p number script)))
reading_failed performs p number a b Write line r = absurd r
reading_failed performs p number a b (Line n) line r = absurd r
reading_failed performs p number a b TooMuch line r = absurd r
reading_failed performs p number a b OutOfMemory line r =
    known_by a b r.0 (λ script left. Plays performs p number script left (Err OutOfMemory) [] 0 p) r.1
    (λ script left e. (
      r.0,
      p,
      IsOneLine-no_feed r.0 r.2,
      subst (λ x. IsPlayedBefore performs p number script x [] 0 p) e (before_all performs p number script),
    ))

pub nothing_left : {P : Type 0} (performs : Conduct P) (p : P) (number : ℕ) (a b : Option (List ℕ)) (line : List ℕ)
    → ReadsLine a b (Ok Nothing) line → IfKnown a b (λ script left. Plays performs p number script left (Ok tt) [] 0 p)
nothing_left performs p number a b line r =
    known_at_end a b [] (λ script left. Plays performs p number script left (Ok tt) [] 0 p) r.0 r.1
    (refl, record { transcript = no_lines performs p number; in_calls = omega arith })

-- a line that has too many bytes
pub long_line : {P : Type 0} (performs : Conduct P) (p : P) (number : ℕ) (a b : Option (List ℕ)) (line : List ℕ)
    → ReadsLine a b (Ok TooLong) line → IfKnown a b (λ script left. Plays performs p number script left (Err TooMuch) [] 0 p)
long_line performs p number a b line r =
    known_by a b r.0 (λ script left. Plays performs p number script left (Err TooMuch) [] 0 p) r.1
    (λ script left e. subst (λ x. Plays performs p number x left (Err TooMuch) [] 0 p) (sym e) (long_part performs p number r.0 left r.2 r.3))

-- The same, with a writer that took nothing.
known_unwritten : (a b c : Option (List ℕ)) (n : ℕ) (Q : List ℕ → List ℕ → List ℕ → ℕ → Type 0)
    → IfKnown a b (λ script left. Q script left [] 0) → IfKnown a b (λ script left. Writes c c n n (λ written most_calls. Q script left written most_calls))
known_unwritten None b c n Q h = tt
known_unwritten (Some script) None c n Q h = h
known_unwritten (Some script) (Some left) c n Q h = writes_nothing c n (Q script left) h

pub line_failed : {P : Type 0} (performs : Conduct P) (p : P) (number : ℕ) (a b c : Option (List ℕ)) (n : ℕ) (fault : PlayFault) (line : List ℕ)
    → ReadsLine a b (Err fault) line
    → IfKnown a b (λ script left. Writes c c n n (λ written most_calls. PlaysLine performs p number script left (Err fault) written most_calls p))
line_failed performs p number a b c n fault line r =
    known_unwritten a b c n (λ script left written most_calls. PlaysLine performs p number script left (Err fault) written most_calls p)
    (reading_failed performs p number a b fault line r)

pub line_at_end : {P : Type 0} (performs : Conduct P) (p : P) (number : ℕ) (a b c : Option (List ℕ)) (n : ℕ) (line : List ℕ)
    → ReadsLine a b (Ok Nothing) line
    → IfKnown a b (λ script left. Writes c c n n (λ written most_calls. PlaysLine performs p number script left (Ok false) written most_calls p))
line_at_end performs p number a b c n line r =
    known_unwritten a b c n (λ script left written most_calls. PlaysLine performs p number script left (Ok false) written most_calls p)
    (nothing_left performs p number a b line r)

pub line_too_long : {P : Type 0} (performs : Conduct P) (p : P) (number : ℕ) (a b c : Option (List ℕ)) (n : ℕ) (line : List ℕ)
    → ReadsLine a b (Ok TooLong) line
    → IfKnown a b (λ script left. Writes c c n n (λ written most_calls. PlaysLine performs p number script left (Err TooMuch) written most_calls p))
line_too_long performs p number a b c n line r =
    known_unwritten a b c n (λ script left written most_calls. PlaysLine performs p number script left (Err TooMuch) written most_calls p)
    (long_line performs p number a b line r)

pub line_last : {P : Type 0} (performs : Conduct P) (p : P) (number : ℕ) (a b c d : Option (List ℕ)) (m n : ℕ) (read line : List ℕ) (q : P)
    → line ≡ read → ReadsLine a b (Ok Last) read → Writes c d m n (λ written most_calls. AnswersLine performs p number line (Ok tt) written most_calls q)
    → IfKnown a b (λ script left. Writes c d m n (λ written most_calls. PlaysLine performs p number script left (Ok false) written most_calls q))
line_last performs p number a b c d m n read line q e reads w =
    let r : ReadsLine a b (Ok Last) line = subst (λ x. ReadsLine a b (Ok Last) x) (sym e) reads in
    known_at_end a b line
    (λ script left. Writes c d m n (λ written most_calls. PlaysLine performs p number script left (Ok false) written most_calls q)) r.0 r.1
    (writes_so c d m n _ _ (λ written most_calls h. last_answered performs p number line written most_calls q r.2 r.3 h) w)

pub line_last_failed : {P : Type 0} (performs : Conduct P) (p : P) (number : ℕ) (a b c d : Option (List ℕ)) (m n : ℕ) (read line : List ℕ)
    (fault : PlayFault) (q : P)
    → line ≡ read → ReadsLine a b (Ok Last) read → Writes c d m n (λ written most_calls. AnswersLine performs p number line (Err fault) written most_calls q)
    → IfKnown a b (λ script left. Writes c d m n (λ written most_calls. PlaysLine performs p number script left (Err fault) written most_calls q))
line_last_failed performs p number a b c d m n read line fault q e reads w =
    let r : ReadsLine a b (Ok Last) line = subst (λ x. ReadsLine a b (Ok Last) x) (sym e) reads in
    known_at_end a b line
    (λ script left. Writes c d m n (λ written most_calls. PlaysLine performs p number script left (Err fault) written most_calls q)) r.0 r.1
    (writes_so c d m n _ _ (λ written most_calls h. last_failed performs p number line written most_calls fault q r.2 r.3 h) w)

pub line_whole_failed : {P : Type 0} (performs : Conduct P) (p : P) (number : ℕ) (a b c d : Option (List ℕ)) (m n : ℕ) (read line : List ℕ)
    (fault : PlayFault) (q : P)
    → line ≡ read → ReadsLine a b (Ok Whole) read → Writes c d m n (λ written most_calls. AnswersLine performs p number line (Err fault) written most_calls q)
    → IfKnown a b (λ script left. Writes c d m n (λ written most_calls. PlaysLine performs p number script left (Err fault) written most_calls q))
line_whole_failed performs p number a b c d m n read line fault q e reads w =
    let r : ReadsLine a b (Ok Whole) line = subst (λ x. ReadsLine a b (Ok Whole) x) (sym e) reads in
    known_by a b (line ++ 10 ∷ [])
    (λ script left. Writes c d m n (λ written most_calls. PlaysLine performs p number script left (Err fault) written most_calls q)) r.0
    (λ script left parts.
    let whole : line ++ 10 ∷ left ≡ script = sym (parts ∙ append_assoc line (10 ∷ []) left) in
    writes_so c d m n _ _ (λ written most_calls h.
    subst (λ x. Plays performs p number x left (Err fault) written most_calls q) whole
    (whole_failed performs p number line left written most_calls fault q r.1 h)) w)
