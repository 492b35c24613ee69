-- Bytes of a chunked body that are not refused begin one of the grammar.
use Rattle.std.proofs.Common.{◌≡◌, ℕ, zero, suc, ◌+◌, ◌-◌, ◌<◌, ◌≤◌, Bool, true, false, eqb, nat_lt, if◌then◌else◌, codes, List, [], ◌∷◌, ◌++◌, length, ap, sym}
use Rattle.std.proofs.Common.{subst, ◌∙◌, refl, arith, ⊎_elim, append-nil, length-append, Some, None}
use Rattle.std.proofs.lemmas.Bool.{cases_Bool, cases_lt, eqb-true, ltb-true}
use Rattle.httparse.specs.Ascii.{crlf_bytes, line_feed, carriage_return}
use Rattle.httparse.specs.Grammar.{ChunkLine, print_chunk_line, chunk_size, ReadsChunkLine}
use Rattle.radio_source.specs.declared.fault.BodyFault.{BodyFault}
use Rattle.radio_source.specs.declared.chunk_line.LineReading.{LineReading}
use Rattle.radio_source.specs.declared.chunk_line.LineReading.TheVariants.{Unfinished, Whole, Refused}
use Rattle.radio_source.specs.ChunkLine.{chunk_line_in}
use Rattle.radio_source.specs.Place.{Place, InPlain, InSized, InLine, InChunk, AfterReturn, AtTrailer, AfterTrailerReturn, InTrailer, AtEnd, PastTheEnd, Broken}
use Rattle.radio_source.specs.Place.{after_byte, after_line, after_size, in_trailer, after, fault_at}
use Rattle.radio_source.specs.Chunked.{ChunkedBody, IsBody, print_body, HasRoomForItsLine}
use Rattle.radio_source.proofs.ChunkLineLemmas.{unfinished_is_near, reads_whole, unlike}
use Rattle.radio_source.proofs.PlaceLemmas.{after-append, after_line_unfinished, after_line_too_long, after_line_refused, after_line_whole}
use Rattle.radio_source.proofs.ChunkedLemmas.{line_rest, reads_nothing}
use Rattle.radio_source.proofs.WholeLemmas.{IsOnTheWay, ended_is_body}

-- ---- each place on the way leads to places on the way

by_test : (test : Bool) (x y : Place) → (test ≡ true → IsOnTheWay x) → (test ≡ false → IsOnTheWay y) → IsOnTheWay (if test then x else y)
by_test true x y yes_case no_case = yes_case refl
by_test false x y yes_case no_case = no_case refl

size_on : (size : ℕ) → IsOnTheWay (after_size size)
size_on size = by_test (eqb size 0) (AtTrailer 4096) (InChunk size) (λ _. tt) (λ _. tt)

line_on : (line : List ℕ) (r : LineReading) → chunk_line_in line ≡ r → IsOnTheWay (after_line line)
line_on line Refused h = subst IsOnTheWay (sym (after_line_refused line h)) tt
line_on line (Whole size) h = subst IsOnTheWay (sym (after_line_whole line size h)) (size_on size)
line_on line Unfinished h =
    ⊎_elim
    (λ (short : length line < 256). subst IsOnTheWay (sym (after_line_unfinished line h short)) (h, short))
    (λ (long : 256 ≤ length line). subst IsOnTheWay (sym (after_line_too_long line h long)) tt)
    (cases_lt (length line) 256)

trailer_on : (left n : ℕ) → IsOnTheWay (in_trailer left n)
trailer_on left n =
    by_test (nat_lt n left) (InTrailer (left - n)) Broken (λ (t : nat_lt n left ≡ true). let less : n < left = ltb-true n left t in omega arith) (λ _. tt)

byte_on : (p : Place) (b : ℕ) → IsOnTheWay p → IsOnTheWay (after_byte p b)
byte_on (InLine held) b way = line_on (held ++ b ∷ []) (chunk_line_in (held ++ b ∷ [])) refl
byte_on (InChunk zero) b way = by_test (eqb b carriage_return) AfterReturn Broken (λ _. tt) (λ _. tt)
byte_on (InChunk (suc left)) b way = tt
byte_on AfterReturn b way = by_test (eqb b line_feed) (InLine []) Broken (λ _. (reads_nothing, omega arith)) (λ _. tt)
byte_on (AtTrailer left) b way =
    by_test (eqb b line_feed) AtEnd (if eqb b carriage_return then AfterTrailerReturn left else in_trailer left 1) (λ _. tt)
    (λ _. by_test (eqb b carriage_return) (AfterTrailerReturn left) (in_trailer left 1) (λ _. tt) (λ _. trailer_on left 1))
byte_on (AfterTrailerReturn left) b way = by_test (eqb b line_feed) AtEnd (in_trailer left 2) (λ _. tt) (λ _. trailer_on left 2)
byte_on (InTrailer left) b way = by_test (eqb b line_feed) (AtTrailer (left - 1)) (in_trailer left 1) (λ _. tt) (λ _. trailer_on left 1)
byte_on AtEnd b way = tt
byte_on PastTheEnd b way = tt
byte_on Broken b way = tt
byte_on InPlain b way = absurd way
byte_on (InSized left) b way = absurd way

stays_on : (p : Place) (bytes : List ℕ) → IsOnTheWay p → IsOnTheWay (after p bytes)
stays_on p [] way = way
stays_on p (b ∷ bytes) way = stays_on (after_byte p b) bytes (byte_on p b way)

-- ---- each place on the way leads to the end, by some bytes

abbrev CanEnd : Place → Type 0
CanEnd p = (more : List ℕ) × (after p more ≡ AtEnd)

CanEnd-after : (p q : Place) (bytes : List ℕ) → after p bytes ≡ q → CanEnd q → CanEnd p
CanEnd-after p q bytes at x = (bytes ++ x.0, after-append p bytes x.0 ∙ (ap (λ s. after s x.0) at ∙ x.1))

line_can : CanEnd (InLine [])
unfolding after_line chunk_line_in
line_can = (codes "0\r\n\r\n", refl)

chunk_can : (left : ℕ) → CanEnd (InChunk left)
chunk_can zero = (crlf_bytes ++ line_can.0, line_can.1)
chunk_can (suc left) = let x = chunk_can left in (0 ∷ x.0, x.1)

chunk_place : (size : ℕ) → eqb size 0 ≡ false → after_size size ≡ InChunk size
chunk_place size t = rw t refl

size_can : (size : ℕ) → CanEnd (after_size size)
size_can size =
    ⊎_elim
    (λ (t : eqb size 0 ≡ true). subst (λ (n : ℕ). CanEnd (after_size n)) (sym (eqb-true size 0 t)) (line_feed ∷ [], refl))
    (λ (t : eqb size 0 ≡ false). subst CanEnd (sym (chunk_place size t)) (chunk_can size))
    (cases_Bool (eqb size 0))

held_with : (held more : List ℕ) (l : ChunkLine) → chunk_line_in held ≡ Unfinished → length held + 3 ≤ 256 → ReadsChunkLine (held ++ more) l []
    → length more ≤ 3 → CanEnd (InLine held)
held_with held [] l h room x near =
    let whole : ReadsChunkLine held l [] = subst (λ (t : List ℕ). ReadsChunkLine t l []) (append-nil held) x in
    absurd (unlike (sym h ∙ reads_whole held l [] whole))
held_with held (b ∷ rest) l h room x near =
    let reads : held ++ b ∷ rest ≡ print_chunk_line l = x.1 ∙ append-nil (print_chunk_line l) in
    let short : length (print_chunk_line l) ≤ 256 = omega (arith, ap length reads, length-append held (b ∷ rest)) in
    CanEnd-after (InLine held) (after_size (chunk_size l)) (b ∷ rest) (line_rest l (x.0, short) held b rest reads).goes (size_can (chunk_size l))

held_can : (held : List ℕ) → chunk_line_in held ≡ Unfinished → length held + 3 ≤ 256 → CanEnd (InLine held)
held_can held h room = let x = unfinished_is_near held h in held_with held x.0 x.1 h room x.2 x.3

some_fault : {fault : BodyFault} → Some fault ≡ None → ⊥
some_fault e = cc

can_end : (p : Place) → IsOnTheWay p → fault_at p ≡ None → HasRoomForItsLine p → CanEnd p
can_end (InLine held) way sound room = held_can held way.0 room
can_end (InChunk left) way sound room = chunk_can left
can_end AfterReturn way sound room = (line_feed ∷ line_can.0, line_can.1)
can_end (AtTrailer left) way sound room = (line_feed ∷ [], refl)
can_end (AfterTrailerReturn left) way sound room = (line_feed ∷ [], refl)
can_end (InTrailer left) way sound room = (line_feed ∷ line_feed ∷ [], refl)
can_end AtEnd way sound room = ([], refl)
can_end PastTheEnd way sound room = absurd (some_fault sound)
can_end Broken way sound room = absurd (some_fault sound)
can_end InPlain way sound room = absurd way
can_end (InSized left) way sound room = absurd way

pub begins_a_body : (bytes : List ℕ) → fault_at (after (InLine []) bytes) ≡ None → HasRoomForItsLine (after (InLine []) bytes) → (more : List ℕ)
    × (b : ChunkedBody) × IsBody b × (bytes ++ more ≡ print_body b)
begins_a_body bytes sound room =
    let way = stays_on (InLine []) bytes (reads_nothing, omega arith) in
    let x = can_end (after (InLine []) bytes) way sound room in
    let b = ended_is_body (bytes ++ x.0) (after-append (InLine []) bytes x.0 ∙ x.1) in
    (x.0, b.0, b.1, b.2)
