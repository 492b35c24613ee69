-- How the playing of a script goes on, line after line.
use Rattle.std.proofs.Common.{◌≡◌, ◌≢◌, ℕ, ◌+◌, ◌≤◌, ◌<◌, Bool, true, List, [], ◌∷◌, ◌++◌, length, Option, None, Some, Result, Ok, Err, refl, sym, ap, ◌∙◌}
use Rattle.std.proofs.Common.{subst, arith, append_assoc, length-append, nat_lt, ◌||◌}
use Rattle.radio_script.proofs.Words.{nat_tests, Appends-trans, max_line, max_lines, PlayFault, Read, Write, Line, TooMuch, OutOfMemory, script_lines, Conduct, IsTranscript, EndsThere, IfKnown, Writes, IsLines, IsPlayed}
use Rattle.radio_script.proofs.Words.{IsPlayedBefore, IsCutOff, Plays, IsLinePlayed, PlaysLine}
use Rattle.radio_script.proofs.FeedLemmas.{script_lines-line, script_lines-cons, IsLines-push, IsLines-append}
use Rattle.radio_script.proofs.TranscriptLemmas.{no_lines, answered, too_much}
use Rattle.radio_script.proofs.LinePlays.{writes_nothing, before_all}

-- The whole lines before the remaining script were played from the performer old to new. What the remaining lines yield is what
-- the script yields after the bytes written so far.
pub record Leads {P : Type 0} (performs : Conduct P) (old : P) (first : ℕ) (script : List ℕ) (new : P) (number : ℕ) (left written : List ℕ)
    (most_calls : ℕ) : Type 0 where
  pub front : List ℕ
  pub parts : script ≡ front ++ left
  pub whole : IsLines front
  pub in_calls : most_calls ≤ length written
  pub leads : (tail text : List ℕ) (fault : Option PlayFault) (last : P) → IsTranscript performs new number (script_lines tail) text fault last
      → IsTranscript performs old first (script_lines (front ++ tail)) (written ++ text) fault last

-- before the first line
pub Leads-none : {P : Type 0} (performs : Conduct P) (p : P) (first : ℕ) (script : List ℕ) → Leads performs p first script p first script [] 0
Leads-none performs p first script =
    record { front = []; parts = refl; whole = tt; in_calls = omega arith; leads = λ tail text fault last t. t }

-- one line more
pub Leads-more : {P : Type 0} (performs : Conduct P) (old : P) (first : ℕ) (script : List ℕ) (new : P) (number : ℕ) (before written : List ℕ) (most_calls : ℕ)
    (left more : List ℕ) (more_calls : ℕ) (next : P)
    → Leads performs old first script new number before written most_calls → IsLinePlayed performs new number before left more more_calls next
    → Leads performs old first script next (number + 1) left (written ++ more) (most_calls + more_calls)
Leads-more performs old first script new number before written most_calls left more more_calls next l p =
    let line = p.line in
    record {
      front = l.front ++ (line ++ 10 ∷ []);
      parts = l.parts ∙ ap (λ x. l.front ++ x) (p.parts ∙ sym (append_assoc line (10 ∷ []) left)) ∙ sym (append_assoc l.front (line ++ 10 ∷ []) left);
      whole = IsLines-append l.front (line ++ 10 ∷ []) l.whole (IsLines-push line);
      in_calls = omega (arith, l.in_calls, p.in_calls, length-append written more);
      leads = λ tail text fault last t.
          let here = subst (λ x. IsTranscript performs new number x (more ++ text) fault last) (sym (script_lines-line line tail p.one_line))
          (answered performs new number line more next (script_lines tail) text fault last p.answer t) in
          let all = l.leads (line ++ 10 ∷ tail) (more ++ text) fault last here in
          let regrouped : l.front ++ (line ++ 10 ∷ tail) ≡ l.front ++ (line ++ 10 ∷ []) ++ tail =
          ap (λ x. l.front ++ x) (sym (append_assoc line (10 ∷ []) tail)) ∙ sym (append_assoc l.front (line ++ 10 ∷ []) tail) in
          subst (λ x. IsTranscript performs old first (script_lines x) (written ++ more ++ text) fault last) regrouped
          (subst (λ x. IsTranscript performs old first (script_lines (l.front ++ (line ++ 10 ∷ tail))) x fault last) (sym (append_assoc written more text)) all);
    }

-- what was played after the lines so far, counted from the first line
played : {P : Type 0} (performs : Conduct P) (old : P) (first : ℕ) (script : List ℕ) (new : P) (number : ℕ) (before written : List ℕ) (most_calls : ℕ)
    (more : List ℕ) (more_calls : ℕ) (fault : Option PlayFault) (last : P)
    → Leads performs old first script new number before written most_calls → IsPlayed performs new number before fault more more_calls last
    → IsPlayed performs old first script fault (written ++ more) (most_calls + more_calls) last
played performs old first script new number before written most_calls more more_calls fault last l p =
    record {
      transcript = subst (λ x. IsTranscript performs old first (script_lines x) (written ++ more) fault last) (sym l.parts)
          (l.leads before more fault last p.transcript);
      in_calls = omega (arith, l.in_calls, p.in_calls, length-append written more);
    }

played_before : {P : Type 0} (performs : Conduct P) (old : P) (first : ℕ) (script : List ℕ) (new : P) (number : ℕ) (before written : List ℕ) (most_calls : ℕ)
    (rest more : List ℕ) (more_calls : ℕ) (last : P)
    → Leads performs old first script new number before written most_calls → IsPlayedBefore performs new number before rest more more_calls last
    → IsPlayedBefore performs old first script rest (written ++ more) (most_calls + more_calls) last
played_before performs old first script new number before written most_calls rest more more_calls last l p =
    record {
      lines = l.front ++ p.lines;
      parts = l.parts ∙ ap (λ x. l.front ++ x) p.parts ∙ sym (append_assoc l.front p.lines rest);
      whole = IsLines-append l.front p.lines l.whole p.whole;
      played = record {
        transcript = l.leads p.lines more None last p.played.transcript;
        in_calls = omega (arith, l.in_calls, p.played.in_calls, length-append written more);
      };
    }

cut_off : {P : Type 0} (performs : Conduct P) (old : P) (first : ℕ) (script : List ℕ) (new : P) (number : ℕ) (before written : List ℕ) (most_calls : ℕ)
    (left more : List ℕ) (more_calls : ℕ) (last : P)
    → Leads performs old first script new number before written most_calls → IsCutOff performs new number before left more more_calls last
    → IsCutOff performs old first script left (written ++ more) (most_calls + more_calls) last
cut_off performs old first script new number before written most_calls left more more_calls last l p =
    let all = l.leads (p.lines ++ p.line) (p.before ++ p.text) None last p.transcript in
    record {
      lines = l.front ++ p.lines;
      line = p.line;
      parts = l.parts ∙ ap (λ x. l.front ++ x) p.parts ∙ sym (append_assoc l.front (p.lines ++ p.line) left)
          ∙ ap (λ x. x ++ left) (sym (append_assoc l.front p.lines p.line));
      whole = IsLines-append l.front p.lines l.whole p.whole;
      one_line = p.one_line;
      between = p.between;
      before = written ++ p.before;
      text = p.text;
      front = p.front;
      answered = l.leads p.lines p.before None p.between p.answered;
      transcript = subst (λ x. IsTranscript performs old first (script_lines x) (written ++ p.before ++ p.text) None last)
          (sym (append_assoc l.front p.lines p.line))
          (subst (λ x. IsTranscript performs old first (script_lines (l.front ++ (p.lines ++ p.line))) x None last)
          (sym (append_assoc written p.before p.text)) all);
      cut = p.cut;
      is_written = ap (λ x. written ++ x) p.is_written ∙ sym (append_assoc written p.before p.front);
      in_calls = omega (
        arith,
        l.in_calls,
        p.in_calls,
        length-append written p.before,
        length-append (written ++ p.before) p.text,
        length-append p.before p.text,
      );
    }

-- the end of the playing after the lines so far
pub ends : {P : Type 0} (performs : Conduct P) (old : P) (first : ℕ) (script : List ℕ) (new : P) (number : ℕ) (before written : List ℕ) (most_calls : ℕ)
    (left more : List ℕ) (more_calls : ℕ) (result : Result (Unit {0}) PlayFault) (last : P)
    → Leads performs old first script new number before written most_calls → Plays performs new number before left result more more_calls last
    → Plays performs old first script left result (written ++ more) (most_calls + more_calls) last
ends performs old first script new number before written most_calls left more more_calls (Ok u) last l p =
    (p.0, played performs old first script new number before written most_calls more more_calls None last l p.1)
ends performs old first script new number before written most_calls left more more_calls (Err Read) last l p =
    (p.0, p.1, played_before performs old first script new number before written most_calls (p.0 ++ left) more more_calls last l p.2)
ends performs old first script new number before written most_calls left more more_calls (Err Write) last l p =
    cut_off performs old first script new number before written most_calls left more more_calls last l p
ends performs old first script new number before written most_calls left more more_calls (Err (Line n)) last l p =
    played performs old first script new number before written most_calls more more_calls (Some (Line n)) last l p
ends performs old first script new number before written most_calls left more more_calls (Err TooMuch) last l p =
    played performs old first script new number before written most_calls more more_calls (Some TooMuch) last l p
ends performs old first script new number before written most_calls left more more_calls (Err OutOfMemory) last l p =
    (p.0, p.1, p.2, played_before performs old first script new number before written most_calls (p.0 ++ left) more more_calls p.1 l p.3)

known_then : (a b c : Option (List ℕ)) (P Q R : List ℕ → List ℕ → Type 0) → ((x y z : List ℕ) → P x y → Q y z → R x z)
    → IfKnown a b P → IfKnown b c Q → IfKnown a c R
known_then None b c P Q R f p q = tt
known_then (Some x) None c P Q R f p q = absurd p
known_then (Some x) (Some y) None P Q R f p q = absurd q
known_then (Some x) (Some y) (Some z) P Q R f p q = f x y z p q

writes_then : (a b c : Option (List ℕ)) (m n o : ℕ) (P Q R : List ℕ → ℕ → Type 0)
    → ((written : List ℕ) (most_calls : ℕ) (more : List ℕ) (more_calls : ℕ) → P written most_calls → Q more more_calls
    → R (written ++ more) (most_calls + more_calls))
    → Writes a b m n P → Writes b c n o Q → Writes a c m o R
writes_then a b c m n o P Q R f p q =
    record {
      written = p.written ++ q.written;
      most_calls = p.most_calls + q.most_calls;
      appends = Appends-trans a b c p.written q.written p.appends q.appends;
      called = omega (arith, p.called, q.called);
      holds = f p.written p.most_calls q.written q.most_calls p.holds q.holds;
    }

-- The reader gave the lines before this number. They were played from the performer old to new.
abbrev pub IsSoFar : {P : Type 0} → Conduct P → P → P → ℕ → Option (List ℕ) → Option (List ℕ) → Option (List ℕ) → Option (List ℕ) → ℕ → ℕ → Type 0
IsSoFar performs old new number a b c d m n =
    IfKnown a b (λ script left. Writes c d m n (λ written most_calls. Leads performs old 1 script new number left written most_calls))

pub IsSoFar-none : {P : Type 0} (performs : Conduct P) (p : P) (a c : Option (List ℕ)) (n : ℕ) → IsSoFar performs p p 1 a a c c n n
IsSoFar-none performs p None c n = tt
IsSoFar-none performs p (Some script) c n =
    writes_nothing c n (λ written most_calls. Leads performs p 1 script p 1 script written most_calls) (Leads-none performs p 1 script)

pub IsSoFar-more : {P : Type 0} (performs : Conduct P) (old new next : P) (number : ℕ) (a b c d e f : Option (List ℕ)) (m n o : ℕ)
    → IsSoFar performs old new number a b d e m n
    → IfKnown b c (λ before left. Writes e f n o (λ written most_calls. PlaysLine performs new number before left (Ok true) written most_calls next))
    → IsSoFar performs old next (number + 1) a c d f m o
IsSoFar-more performs old new next number a b c d e f m n o so_far line =
    known_then a b c _ _ (λ script left. Writes d f m o (λ written most_calls. Leads performs old 1 script next (number + 1) left written most_calls))
    (λ script before left w v. writes_then d e f m n o _ _ (λ written most_calls. Leads performs old 1 script next (number + 1) left written most_calls)
    (λ written most_calls more more_calls l p. Leads-more performs old 1 script new number before written most_calls left more more_calls next l p) w v)
    so_far line

pub IsSoFar-ends : {P : Type 0} (performs : Conduct P) (old new last : P) (number : ℕ) (result : Result (Unit {0}) PlayFault)
    (a b c d e f : Option (List ℕ)) (m n o : ℕ)
    → IsSoFar performs old new number a b d e m n
    → IfKnown b c (λ before left. Writes e f n o (λ written most_calls. Plays performs new number before left result written most_calls last))
    → IfKnown a c (λ script left. Writes d f m o (λ written most_calls. Plays performs old 1 script left result written most_calls last))
IsSoFar-ends performs old new last number result a b c d e f m n o so_far line =
    known_then a b c _ _ (λ script left. Writes d f m o (λ written most_calls. Plays performs old 1 script left result written most_calls last))
    (λ script before left w v. writes_then d e f m n o _ _ (λ written most_calls. Plays performs old 1 script left result written most_calls last)
    (λ written most_calls more more_calls l p. ends performs old 1 script new number before written most_calls left more more_calls result last l p) w v)
    so_far line

past_last : (number : ℕ) (b : Bool) → max_lines < number → (nat_lt max_lines number || b) ≡ true
past_last number b over =
    let past : nat_lt max_lines number ≡ true = grind (arith, nat_tests) in
    rw past refl

none_left : (before : List ℕ) (result : Result (Unit {0}) PlayFault) → EndsThere (Some before) None result → ⊥
none_left before (Ok u) h = h
none_left before (Err Read) h = h
none_left before (Err Write) h = h
none_left before (Err (Line n)) h = h
none_left before (Err TooMuch) h = h
none_left before (Err OutOfMemory) h = h

-- After the last line that a script may have, the reader is called once more.
looked : {P : Type 0} (performs : Conduct P) (p : P) (number : ℕ) (before left : List ℕ) (result : Result (Unit {0}) PlayFault) → max_lines < number
    → EndsThere (Some before) (Some left) result → Plays performs p number before left result [] 0 p
looked performs p number before left (Ok u) over h = (
  h.1,
  record {
    transcript = subst (λ x. IsTranscript performs p number (script_lines x) [] None p) (sym h.0)
        (no_lines performs p number);
    in_calls = omega arith;
  },
)
looked performs p number before left (Err Read) over h =
    ([], refl, subst (λ x. IsPlayedBefore performs p number before x [] 0 p) h (before_all performs p number before))
looked performs p number before left (Err Write) over h = absurd h
looked performs p number before left (Err (Line n)) over h = absurd h
looked performs p number before left (Err TooMuch) over h =
    let first = script_lines-cons h.0 left in
    let past : (nat_lt max_lines number || nat_lt max_line (length first.line)) ≡ true = past_last number (nat_lt max_line (length first.line)) over in
    record {
      transcript = subst (λ x. IsTranscript performs p number (script_lines x) [] (Some TooMuch) p) (sym h.1)
          (rw first.is (too_much performs p number first.line first.others past));
      in_calls = omega arith;
    }
looked performs p number before left (Err OutOfMemory) over h = absurd h

known_once_more : {P : Type 0} (performs : Conduct P) (p : P) (number : ℕ) (b c e : Option (List ℕ)) (n : ℕ) (result : Result (Unit {0}) PlayFault)
    → max_lines < number
    → EndsThere b c result → IfKnown b c (λ before left. Writes e e n n (λ written most_calls. Plays performs p number before left result written most_calls p))
known_once_more performs p number None c e n result over h = tt
known_once_more performs p number (Some before) None e n result over h = absurd (none_left before result h)
known_once_more performs p number (Some before) (Some left) e n result over h =
    writes_nothing e n (λ written most_calls. Plays performs p number before left result written most_calls p)
    (looked performs p number before left result over h)

pub IsSoFar-looked : {P : Type 0} (performs : Conduct P) (old new : P) (number : ℕ) (result : Result (Unit {0}) PlayFault) (a b c d e : Option (List ℕ))
    (m n : ℕ)
    → max_lines < number → IsSoFar performs old new number a b d e m n → EndsThere b c result
    → IfKnown a c (λ script left. Writes d e m n (λ written most_calls. Plays performs old 1 script left result written most_calls new))
IsSoFar-looked performs old new number result a b c d e m n over so_far h =
    IsSoFar-ends performs old new new number result a b c d e e m n n so_far
    (known_once_more performs new number b c e n result over h)

pub Ok-not_Err : {A E : Type 0} (x : A) (e : E) → Ok x ≢ Err e
Ok-not_Err x e h = cc
