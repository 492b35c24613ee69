-- Bytes that lead to the end of a chunked body are one of the grammar.
use Rattle.std.proofs.Common.{◌≡◌, ◌≢◌, ℕ, zero, suc, ◌+◌, ◌-◌, ◌<◌, ◌≤◌, Bool, true, false, eqb, nat_lt, if◌then◌else◌, List, [], ◌∷◌, ◌++◌, length, ap, sym}
use Rattle.std.proofs.Common.{subst, ◌∙◌, refl, arith, ⊎_elim, append_assoc, append-nil, length-append}
use Rattle.std.specs.Prelude.{All}
use Rattle.std.proofs.lemmas.Bool.{cases_Bool, cases_lt, false≢true, eqb-true, eq-eqb, ltb-true}
use Rattle.std.proofs.lemmas.List.Elements.{All-cons}
use Rattle.httparse.specs.Ascii.{crlf_bytes, line_feed, carriage_return}
use Rattle.httparse.specs.Grammar.{ChunkLine, print_chunk_line, chunk_size, ReadsChunkLine, LineEnd, crlf, lf, print_end}
use Rattle.radio_source.specs.declared.chunk_line.LineReading.{LineReading}
use Rattle.radio_source.specs.declared.chunk_line.LineReading.TheVariants.{Unfinished, Whole, Refused}
use Rattle.radio_source.specs.ChunkLine.{chunk_line_in}
use Rattle.radio_source.specs.Place.{Place, InPlain, InSized, InLine, InChunk, AfterReturn, AtTrailer, AfterTrailerReturn, InTrailer, AtEnd, PastTheEnd, Broken}
use Rattle.radio_source.specs.Place.{after_line, in_trailer, after, has_ended}
use Rattle.radio_source.specs.Chunked.{Chunk, IsChunk, IsShortLine, IsTrailer, print_trailers, ChunkedBody, IsBody, print_body}
use Rattle.radio_source.proofs.ChunkLineLemmas.{whole_is_line, reads_whole, unlike}
use Rattle.radio_source.proofs.PlaceLemmas.{after_line_unfinished, after_line_too_long, after_line_refused, after_last_line, after_chunk_line}
use Rattle.radio_source.proofs.ChunkedLemmas.{IsLine, reads_nothing, stays_past, stays_broken}

-- ---- the bytes after each place, if they lead to the end

pub record HasBody (bytes : List ℕ) : Type 0 where
  pub body : ChunkedBody
  pub valid : IsBody body
  pub reads : bytes ≡ print_body body

record HasData (n : ℕ) (bytes : List ℕ) : Type 0 where
  content : List ℕ
  body : ChunkedBody
  valid : IsBody body
  size : length content ≡ n
  reads : bytes ≡ content ++ (crlf_bytes ++ print_body body)

record HasTrailers (left : ℕ) (bytes : List ℕ) : Type 0 where
  lines : List (List ℕ)
  end : LineEnd
  valid : All IsTrailer lines
  fits : length (print_trailers lines) ≤ left
  reads : bytes ≡ print_trailers lines ++ print_end end

record HasTrailerRest (left : ℕ) (bytes : List ℕ) : Type 0 where
  line : List ℕ
  lines : List (List ℕ)
  end : LineEnd
  one : IsLine line
  valid : All IsTrailer lines
  fits : length line + 1 + length (print_trailers lines) ≤ left
  reads : bytes ≡ line ++ line_feed ∷ (print_trailers lines ++ print_end end)

abbrev Ends : Place → List ℕ → Type 0
Ends (InLine held) bytes = HasBody (held ++ bytes)
Ends (InChunk left) bytes = HasData left bytes
Ends AfterReturn bytes = HasData 0 (carriage_return ∷ bytes)
Ends (AtTrailer left) bytes = HasTrailers left bytes
Ends (AfterTrailerReturn left) bytes = HasTrailers left (carriage_return ∷ bytes)
Ends (InTrailer left) bytes = HasTrailerRest left bytes
Ends AtEnd bytes = bytes ≡ []
Ends InPlain bytes = Unit {0}
Ends (InSized left) bytes = Unit {0}
Ends PastTheEnd bytes = Unit {0}
Ends Broken bytes = Unit {0}

-- what is true of each place on the way
abbrev pub IsOnTheWay : Place → Type 0
IsOnTheWay (InLine held) = (chunk_line_in held ≡ Unfinished) × (length held < 256)
IsOnTheWay (InTrailer left) = 0 < left
IsOnTheWay (InChunk left) = Unit {0}
IsOnTheWay AfterReturn = Unit {0}
IsOnTheWay (AtTrailer left) = Unit {0}
IsOnTheWay (AfterTrailerReturn left) = Unit {0}
IsOnTheWay AtEnd = Unit {0}
IsOnTheWay InPlain = ⊥
IsOnTheWay (InSized left) = ⊥
IsOnTheWay PastTheEnd = Unit {0}
IsOnTheWay Broken = Unit {0}

-- the same of all bytes but the first
abbrev Follows : List ℕ → Type 0
Follows bytes = (p : Place) → IsOnTheWay p → after p bytes ≡ AtEnd → Ends p bytes

-- ---- places that never end

not_ended : (p : Place) → has_ended p ≡ false → p ≡ AtEnd → ⊥
not_ended p h e = false≢true (sym h ∙ ap has_ended e)

past_is_not : PastTheEnd ≡ AtEnd → ⊥
past_is_not e = cc

broken_never : (bytes : List ℕ) (p : Place) → p ≡ Broken → after p bytes ≡ AtEnd → ⊥
broken_never bytes p at e = not_ended Broken refl (sym (ap (λ q. after q bytes) at ∙ stays_broken bytes) ∙ e)

end_is_last : (bytes : List ℕ) → after AtEnd bytes ≡ AtEnd → bytes ≡ []
end_is_last [] e = refl
end_is_last (b ∷ bytes) e = absurd (past_is_not (sym (stays_past bytes) ∙ e))

-- ---- chunk lines

-- a list that ends before the last of another lies within what is before that
within : (xs ys zs : List ℕ) (b : ℕ) → xs ++ b ∷ [] ≡ ys ++ zs → 0 < length zs → (front : List ℕ) × (xs ≡ ys ++ front)
within xs [] zs b e some = (xs, refl)
within [] (y ∷ ys) zs b e some = absurd (omega (arith, ap length e, length-append (y ∷ ys) zs))
within (x ∷ xs) (y ∷ ys) zs b e some =
    let first : x ≡ y = cc in
    let others : xs ++ b ∷ [] ≡ ys ++ zs = cc in
    let rest = within xs ys zs b others some in
    (rest.0, ap (λ (c : ℕ). c ∷ xs) first ∙ ap (λ t. y ∷ t) rest.1)

record IsLineOf (bytes : List ℕ) (size : ℕ) : Type 0 where
  line : ChunkLine
  short : IsShortLine line
  reads : bytes ≡ print_chunk_line line
  is_size : chunk_size line ≡ size

line_with : (held : List ℕ) (b size : ℕ) (l : ChunkLine) (rest : List ℕ) → IsOnTheWay (InLine held) → ReadsChunkLine (held ++ b ∷ []) l rest
    → chunk_size l ≡ size → IsLineOf (held ++ b ∷ []) size
line_with held b size l [] way x e =
    let reads : held ++ b ∷ [] ≡ print_chunk_line l = x.1 ∙ append-nil (print_chunk_line l) in
    record { line = l; short = (x.0, omega (arith, way.1, ap length reads, length-append held (b ∷ []))); reads = reads; is_size = e }
line_with held b size l (c ∷ rest) way x e =
    let front = within held (print_chunk_line l) (c ∷ rest) b x.1 (omega arith) in
    absurd (unlike (sym way.0 ∙ reads_whole held l front.0 (x.0, front.1)))

line_of : (held : List ℕ) (b size : ℕ) → IsOnTheWay (InLine held) → chunk_line_in (held ++ b ∷ []) ≡ Whole size → IsLineOf (held ++ b ∷ []) size
line_of held b size way h = let x = whole_is_line (held ++ b ∷ []) size h in line_with held b size x.0 x.1 way x.2 x.3

-- after the last line, and after that of a chunk
last_line : (bytes rest : List ℕ) (size : ℕ) → size ≡ 0 → IsLineOf bytes size → HasTrailers 4096 rest → HasBody (bytes ++ rest)
last_line bytes rest size none x t = record {
  body = record { chunks = []; last = x.line; trailers = t.lines; end = t.end };
  valid = record { chunks = λ k d h. absurd (omega arith); last = x.short; is_last = x.is_size ∙ none; trailers = t.valid; fits = t.fits };
  reads = ap (λ s. s ++ rest) x.reads ∙ ap (λ s. print_chunk_line x.line ++ s) t.reads;
}

one_chunk : (bytes rest : List ℕ) (size : ℕ) → size ≢ 0 → IsLineOf bytes size → HasData size rest → HasBody (bytes ++ rest)
one_chunk bytes rest size some x d =
    let c : Chunk = record { line = x.line; content = d.content } in
    let b = d.body in
    record {
      body = record { chunks = c ∷ b.chunks; last = b.last; trailers = b.trailers; end = b.end };
      valid = record {
        chunks = All-cons IsChunk c b.chunks (x.short, omega (arith, some, d.size), x.is_size ∙ sym d.size) d.valid.chunks;
        last = d.valid.last;
        is_last = d.valid.is_last;
        trailers = d.valid.trailers;
        fits = d.valid.fits;
      };
      reads = ap (λ s. s ++ rest) x.reads ∙ (ap (λ s. print_chunk_line x.line ++ s) d.reads ∙ simp append_assoc);
    }

line_case : (held : List ℕ) (b : ℕ) (bytes : List ℕ) → IsOnTheWay (InLine held) → after (after_line (held ++ b ∷ [])) bytes ≡ AtEnd → Follows bytes
    → (r : LineReading) → chunk_line_in (held ++ b ∷ []) ≡ r → HasBody ((held ++ b ∷ []) ++ bytes)
line_case held b bytes way e later Unfinished h =
    let line = held ++ b ∷ [] in
    ⊎_elim
    (λ (short : length line < 256).
    later (InLine line) (h, short) (ap (λ p. after p bytes) (sym (after_line_unfinished line h short)) ∙ e))
    (λ (long : 256 ≤ length line). absurd (broken_never bytes (after_line line) (after_line_too_long line h long) e))
    (cases_lt (length line) 256)
line_case held b bytes way e later Refused h =
    absurd (broken_never bytes (after_line (held ++ b ∷ [])) (after_line_refused (held ++ b ∷ []) h) e)
line_case held b bytes way e later (Whole size) h =
    let line = held ++ b ∷ [] in
    ⊎_elim
    (λ (t : eqb size 0 ≡ true).
    let none : size ≡ 0 = eqb-true size 0 t in
    last_line line bytes size none (line_of held b size way h)
    (later (AtTrailer 4096) tt (ap (λ p. after p bytes) (sym (after_last_line line size h none)) ∙ e)))
    (λ (t : eqb size 0 ≡ false).
    let some : size ≢ 0 = λ z. false≢true (sym t ∙ ap (λ (n : ℕ). eqb n 0) z) in
    one_chunk line bytes size some (line_of held b size way h)
    (later (InChunk size) tt (ap (λ p. after p bytes) (sym (after_chunk_line line size h some)) ∙ e)))
    (cases_Bool (eqb size 0))

-- ---- a place that depends on a test

by_test : (test : Bool) (x y : Place) (bytes : List ℕ) (G : Type 0) → after (if test then x else y) bytes ≡ AtEnd
    → (test ≡ true → after x bytes ≡ AtEnd → G) → (test ≡ false → after y bytes ≡ AtEnd → G) → G
by_test true x y bytes G e yes_case no_case = yes_case refl e
by_test false x y bytes G e yes_case no_case = no_case refl e

other_byte : (b n : ℕ) → eqb b n ≡ false → b ≢ n
other_byte b n h e = false≢true (sym h ∙ eq-eqb b n e)

-- the LF that ends a line, or one byte more of it
trailer_goes_on : (left n : ℕ) (bytes : List ℕ) → after (in_trailer left n) bytes ≡ AtEnd → Follows bytes → (n < left) × HasTrailerRest (left - n) bytes
trailer_goes_on left n bytes e later =
    by_test (nat_lt n left) (InTrailer (left - n)) Broken bytes ((n < left) × HasTrailerRest (left - n) bytes) e
    (λ (t : nat_lt n left ≡ true) (h : after (InTrailer (left - n)) bytes ≡ AtEnd).
    let less : n < left = ltb-true n left t in
    (less, later (InTrailer (left - n)) (omega arith) h))
    (λ _ (h : after Broken bytes ≡ AtEnd). absurd (broken_never bytes Broken refl h))

more_of_line : (left b : ℕ) (bytes : List ℕ) → b ≢ line_feed → 1 < left → HasTrailerRest (left - 1) bytes → HasTrailerRest left (b ∷ bytes)
more_of_line left b bytes other less x = record {
  line = b ∷ x.line;
  lines = x.lines;
  end = x.end;
  one = All-cons (λ (c : ℕ). c ≢ line_feed) b x.line other x.one;
  valid = x.valid;
  fits = omega (arith, x.fits);
  reads = ap (λ t. b ∷ t) x.reads;
}

-- a whole line, with those after it
as_trailers : (left k : ℕ) (front bytes : List ℕ) → length front ≡ k → k < left → (x : HasTrailerRest (left - k) bytes) → IsTrailer (front ++ x.line)
    → HasTrailers left (front ++ bytes)
as_trailers left k front bytes size less x valid =
    let whole = (front ++ x.line) ++ line_feed ∷ [] in
    record {
      lines = (front ++ x.line) ∷ x.lines;
      end = x.end;
      valid = All-cons IsTrailer (front ++ x.line) x.lines valid x.valid;
      fits = omega (arith, x.fits, length-append whole (print_trailers x.lines), length-append (front ++ x.line) (line_feed ∷ []), length-append front x.line);
      reads = ap (λ t. front ++ t) x.reads ∙ simp append_assoc;
    }

end_of_line : (left : ℕ) (bytes : List ℕ) → 0 < left → HasTrailers (left - 1) bytes → HasTrailerRest left (line_feed ∷ bytes)
end_of_line left bytes some x = record {
  line = [];
  lines = x.lines;
  end = x.end;
  one = λ k d h. absurd (omega arith);
  valid = x.valid;
  fits = omega (arith, x.fits);
  reads = ap (λ t. line_feed ∷ t) x.reads;
}

no_more : (left : ℕ) (end : LineEnd) (bytes : List ℕ) → bytes ≡ print_end end → HasTrailers left bytes
no_more left end bytes e = record { lines = []; end = end; valid = λ k d h. absurd (omega arith); fits = omega arith; reads = e }

not_return_alone : (b : ℕ) (line : List ℕ) → b ≢ carriage_return → b ∷ line ≢ carriage_return ∷ []
not_return_alone b line other e = other (cc)

not_one : (b c : ℕ) (line : List ℕ) → b ∷ c ∷ line ≢ carriage_return ∷ []
not_one b c line e = omega (arith, ap length e)

not_empty : (b : ℕ) (line : List ℕ) → b ∷ line ≢ []
not_empty b line e = omega (arith, ap length e)

-- ---- each place

return_case : (b : ℕ) (bytes : List ℕ) → after (if eqb b line_feed then InLine [] else Broken) bytes ≡ AtEnd → Follows bytes
    → HasData 0 (carriage_return ∷ b ∷ bytes)
return_case b bytes e later =
    by_test (eqb b line_feed) (InLine []) Broken bytes (HasData 0 (carriage_return ∷ b ∷ bytes)) e
    (λ (t : eqb b line_feed ≡ true) (h : after (InLine []) bytes ≡ AtEnd).
    let x = later (InLine []) (reads_nothing, omega arith) h in
    record {
      content = [];
      body = x.body;
      valid = x.valid;
      size = refl;
      reads = ap (λ (c : ℕ). carriage_return ∷ c ∷ bytes) (eqb-true b line_feed t) ∙ ap (λ s. carriage_return ∷ line_feed ∷ s) x.reads;
    })
    (λ _ (h : after Broken bytes ≡ AtEnd). absurd (broken_never bytes Broken refl h))

chunk_end_case : (b : ℕ) (bytes : List ℕ) → after (if eqb b carriage_return then AfterReturn else Broken) bytes ≡ AtEnd → Follows bytes → HasData 0 (b ∷ bytes)
chunk_end_case b bytes e later =
    by_test (eqb b carriage_return) AfterReturn Broken bytes (HasData 0 (b ∷ bytes)) e
    (λ (t : eqb b carriage_return ≡ true) (h : after AfterReturn bytes ≡ AtEnd).
    subst (λ (c : ℕ). HasData 0 (c ∷ bytes)) (sym (eqb-true b carriage_return t)) (later AfterReturn tt h))
    (λ _ (h : after Broken bytes ≡ AtEnd). absurd (broken_never bytes Broken refl h))

chunk_case : (left b : ℕ) (bytes : List ℕ) → HasData left bytes → HasData (suc left) (b ∷ bytes)
chunk_case left b bytes x = record {
  content = b ∷ x.content;
  body = x.body;
  valid = x.valid;
  size = ap suc x.size;
  reads = ap (λ t. b ∷ t) x.reads;
}

trailer_case : (left b : ℕ) (bytes : List ℕ)
    → after (if eqb b line_feed then AtEnd else if eqb b carriage_return then AfterTrailerReturn left else in_trailer left 1) bytes ≡ AtEnd
    → Follows bytes → HasTrailers left (b ∷ bytes)
trailer_case left b bytes e later =
    by_test (eqb b line_feed) AtEnd (if eqb b carriage_return then AfterTrailerReturn left else in_trailer left 1) bytes (HasTrailers left (b ∷ bytes)) e
    (λ (t : eqb b line_feed ≡ true) (h : after AtEnd bytes ≡ AtEnd).
    no_more left lf (b ∷ bytes) (ap (λ (c : ℕ). c ∷ bytes) (eqb-true b line_feed t) ∙ ap (λ s. line_feed ∷ s) (end_is_last bytes h)))
    (λ (t : eqb b line_feed ≡ false) (h : after (if eqb b carriage_return then AfterTrailerReturn left else in_trailer left 1) bytes ≡ AtEnd).
    by_test (eqb b carriage_return) (AfterTrailerReturn left) (in_trailer left 1) bytes (HasTrailers left (b ∷ bytes)) h
    (λ (r : eqb b carriage_return ≡ true) (k : after (AfterTrailerReturn left) bytes ≡ AtEnd).
    subst (λ (c : ℕ). HasTrailers left (c ∷ bytes)) (sym (eqb-true b carriage_return r)) (later (AfterTrailerReturn left) tt k))
    (λ (r : eqb b carriage_return ≡ false) (k : after (in_trailer left 1) bytes ≡ AtEnd).
    let x = trailer_goes_on left 1 bytes k later in
    as_trailers left 1 (b ∷ []) bytes refl x.0 x.1 (
      All-cons (λ (c : ℕ). c ≢ line_feed) b x.1.line (other_byte b line_feed t) x.1.one,
      not_empty b x.1.line,
      not_return_alone b x.1.line (other_byte b carriage_return r),
    )))

after_return_case : (left b : ℕ) (bytes : List ℕ) → after (if eqb b line_feed then AtEnd else in_trailer left 2) bytes ≡ AtEnd → Follows bytes
    → HasTrailers left (carriage_return ∷ b ∷ bytes)
after_return_case left b bytes e later =
    by_test (eqb b line_feed) AtEnd (in_trailer left 2) bytes (HasTrailers left (carriage_return ∷ b ∷ bytes)) e
    (λ (t : eqb b line_feed ≡ true) (h : after AtEnd bytes ≡ AtEnd).
    no_more left crlf (carriage_return ∷ b ∷ bytes)
    (ap (λ (c : ℕ). carriage_return ∷ c ∷ bytes) (eqb-true b line_feed t) ∙ ap (λ s. carriage_return ∷ line_feed ∷ s) (end_is_last bytes h)))
    (λ (t : eqb b line_feed ≡ false) (h : after (in_trailer left 2) bytes ≡ AtEnd).
    let x = trailer_goes_on left 2 bytes h later in
    let no_feed = All-cons (λ (c : ℕ). c ≢ line_feed) b x.1.line (other_byte b line_feed t) x.1.one in
    as_trailers left 2 (carriage_return ∷ b ∷ []) bytes refl x.0 x.1 (
      All-cons (λ (c : ℕ). c ≢ line_feed) carriage_return (b ∷ x.1.line) (λ z. omega arith) no_feed,
      not_empty carriage_return (b ∷ x.1.line),
      not_one carriage_return b x.1.line,
    ))

rest_case : (left b : ℕ) (bytes : List ℕ) → 0 < left → after (if eqb b line_feed then AtTrailer (left - 1) else in_trailer left 1) bytes ≡ AtEnd
    → Follows bytes → HasTrailerRest left (b ∷ bytes)
rest_case left b bytes some e later =
    by_test (eqb b line_feed) (AtTrailer (left - 1)) (in_trailer left 1) bytes (HasTrailerRest left (b ∷ bytes)) e
    (λ (t : eqb b line_feed ≡ true) (h : after (AtTrailer (left - 1)) bytes ≡ AtEnd).
    subst (λ (c : ℕ). HasTrailerRest left (c ∷ bytes)) (sym (eqb-true b line_feed t)) (end_of_line left bytes some (later (AtTrailer (left - 1)) tt h)))
    (λ (t : eqb b line_feed ≡ false) (h : after (in_trailer left 1) bytes ≡ AtEnd).
    let x = trailer_goes_on left 1 bytes h later in more_of_line left b bytes (other_byte b line_feed t) x.0 x.1)

finish : (p : Place) (bytes : List ℕ) → IsOnTheWay p → after p bytes ≡ AtEnd → Ends p bytes
finish AtEnd bytes way e = end_is_last bytes e
finish InPlain bytes way e = tt
finish (InSized left) bytes way e = tt
finish PastTheEnd bytes way e = tt
finish Broken bytes way e = tt
finish (InLine held) [] way e = absurd (not_ended (InLine held) refl e)
finish (InLine held) (b ∷ bytes) way e =
    subst HasBody (append_assoc held (b ∷ []) bytes)
    (line_case held b bytes way e (λ p w h. finish p bytes w h) (chunk_line_in (held ++ b ∷ [])) refl)
finish (InChunk left) [] way e = absurd (not_ended (InChunk left) refl e)
finish (InChunk zero) (b ∷ bytes) way e = chunk_end_case b bytes e (λ p w h. finish p bytes w h)
finish (InChunk (suc left)) (b ∷ bytes) way e = chunk_case left b bytes (finish (InChunk left) bytes tt e)
finish AfterReturn [] way e = absurd (not_ended AfterReturn refl e)
finish AfterReturn (b ∷ bytes) way e = return_case b bytes e (λ p w h. finish p bytes w h)
finish (AtTrailer left) [] way e = absurd (not_ended (AtTrailer left) refl e)
finish (AtTrailer left) (b ∷ bytes) way e = trailer_case left b bytes e (λ p w h. finish p bytes w h)
finish (AfterTrailerReturn left) [] way e = absurd (not_ended (AfterTrailerReturn left) refl e)
finish (AfterTrailerReturn left) (b ∷ bytes) way e = after_return_case left b bytes e (λ p w h. finish p bytes w h)
finish (InTrailer left) [] way e = absurd (not_ended (InTrailer left) refl e)
finish (InTrailer left) (b ∷ bytes) way e = rest_case left b bytes way e (λ p w h. finish p bytes w h)

pub ended_is_body : (bytes : List ℕ) → after (InLine []) bytes ≡ AtEnd → (b : ChunkedBody) × IsBody b × (bytes ≡ print_body b)
ended_is_body bytes e = let x = finish (InLine []) bytes (reads_nothing, omega arith) e in (x.body, x.valid, x.reads)
