-- Chunked bodies of the grammar, printed and fed.
use Rattle.std.proofs.Common.{◌≡◌, ◌≢◌, ℕ, zero, suc, ◌+◌, ◌-◌, ◌<◌, ◌≤◌, true, false, eqb, List, [], ◌∷◌, ◌++◌, length, ap, sym, subst, ◌∙◌, refl, arith}
use Rattle.std.proofs.Common.{⊎_elim, append_assoc, append-nil, length-append, Some, None}
use Rattle.radio_source.specs.declared.fault.BodyFault.TheVariants.{PastEnd}
use Rattle.std.specs.Prelude.{All, take}
use Rattle.std.proofs.lemmas.Bool.{cases_Bool, false≢true, eqb-true, lt-ltb, ne_eqb}
use Rattle.std.proofs.lemmas.List.Elements.{All-head, All-tail}
use Rattle.httparse.specs.Ascii.{crlf_bytes, line_feed, carriage_return}
use Rattle.httparse.specs.Grammar.{ChunkLine, IsChunkLine, print_chunk_line, chunk_size, ReadsChunkLine, LineEnd, crlf, lf, print_end}
use Rattle.httparse.proofs.ChunkLemmas.{chunk_line_unique, ReadsChunkLine-append}
use Rattle.radio_source.specs.declared.chunk_line.LineReading.TheVariants.{Unfinished}
use Rattle.radio_source.specs.ChunkLine.{chunk_line_in}
use Rattle.radio_source.specs.Place.{Place, InSized, InLine, InChunk, AtTrailer, AfterTrailerReturn, InTrailer, AtEnd, PastTheEnd, Broken, after_byte}
use Rattle.radio_source.specs.Place.{brought_by, after_size, in_trailer, after, data_of, has_ended, fault_at}
use Rattle.radio_source.specs.Chunked.{Chunk, IsChunk, IsShortLine, print_chunk, print_chunks, content_of, IsTrailer, print_trailers, ChunkedBody, IsBody}
use Rattle.radio_source.specs.Chunked.{print_body}
use Rattle.radio_source.proofs.ChunkLineLemmas.{reads_whole, reads_partial, unlike}
use Rattle.radio_source.proofs.PlaceLemmas.{after-append, data_of-append, after_chunk, data_of_chunk, after_line_unfinished, after_line_whole}

-- from a place, these bytes are these data and lead to that place
pub record Leads (place : Place) (bytes found : List ℕ) (last : Place) : Type 0 where
  pub goes : after place bytes ≡ last
  pub brings : data_of place bytes ≡ found

Leads-append : {p q r : Place} {first second found more : List ℕ} → Leads p first found q → Leads q second more r → Leads p (first ++ second) (found ++ more) r
Leads-append {p} {q} {r} {first} {second} {found} {more} h k = record {
  goes = after-append p first second ∙ (ap (λ s. after s second) h.goes ∙ k.goes);
  brings = data_of-append p first second
      ∙ (ap (λ t. t ++ data_of (after p first) second) h.brings ∙ (ap (λ s. found ++ data_of s second) h.goes ∙ ap (λ t. found ++ t) k.brings));
}

Leads-byte : {p q r : Place} {b : ℕ} {bytes found : List ℕ} → after_byte p b ≡ q → brought_by p b ≡ [] → Leads q bytes found r → Leads p (b ∷ bytes) found r
Leads-byte {p} {q} {r} {b} {bytes} {found} at none h = record {
  goes = ap (λ s. after s bytes) at ∙ h.goes;
  brings = ap (λ t. t ++ data_of (after_byte p b) bytes) none ∙ (ap (λ s. data_of s bytes) at ∙ h.brings);
}

computes : {p : Place} {bytes : List ℕ} → Leads p bytes (data_of p bytes) (after p bytes)
computes = record { goes = refl; brings = refl }

false_is_true : false ≡ true → ⊥
false_is_true e = false≢true e

true_is_false : true ≡ false → ⊥
true_is_false e = false≢true (sym e)

past_data : (bytes : List ℕ) → data_of PastTheEnd bytes ≡ []
past_data [] = refl
past_data (b ∷ bytes) = past_data bytes

-- ---- chunk lines

not_nil : (front more : List ℕ) (c : ℕ) → [] ≡ front ++ c ∷ more → ⊥
not_nil front more c e = omega (arith, ap length e, length-append front (c ∷ more))

-- a front of a chunk line is unfinished
part_is_unfinished : (l : ChunkLine) → IsChunkLine l → (front : List ℕ) (c : ℕ) (more : List ℕ) → front ++ c ∷ more ≡ print_chunk_line l
    → chunk_line_in front ≡ Unfinished
part_is_unfinished l valid front c more e =
    let whole : ReadsChunkLine (front ++ c ∷ more) l [] = (valid, e ∙ sym (append-nil (print_chunk_line l))) in
    reads_partial front
    (λ k r (x : ReadsChunkLine front k r).
    let longer : ReadsChunkLine (front ++ c ∷ more) k (r ++ c ∷ more) = ReadsChunkLine-append front k r (c ∷ more) x in
    absurd (not_nil r more c (chunk_line_unique (front ++ c ∷ more) l k [] (r ++ c ∷ more) whole longer).1))
    (c ∷ more, l, whole)

pub line_rest : (l : ChunkLine) → IsShortLine l → (held : List ℕ) (b : ℕ) (rest : List ℕ) → held ++ b ∷ rest ≡ print_chunk_line l
    → Leads (InLine held) (b ∷ rest) [] (after_size (chunk_size l))
line_rest l short held b [] e =
    Leads-byte {p = InLine held} {q = after_size (chunk_size l)}
    (after_line_whole (held ++ b ∷ []) (chunk_size l) (reads_whole (held ++ b ∷ []) l [] (short.0, e ∙ sym (append-nil (print_chunk_line l)))))
    refl computes
line_rest l short held b (c ∷ more) e =
    let longer : (held ++ b ∷ []) ++ c ∷ more ≡ print_chunk_line l = append_assoc held (b ∷ []) (c ∷ more) ∙ e in
    let room : length (held ++ b ∷ []) < 256 = omega (arith, short.1, ap length longer, length-append (held ++ b ∷ []) (c ∷ more)) in
    Leads-byte {p = InLine held} {q = InLine (held ++ b ∷ [])}
    (after_line_unfinished (held ++ b ∷ []) (part_is_unfinished l short.0 (held ++ b ∷ []) c more longer) room)
    refl (line_rest l short (held ++ b ∷ []) c more longer)

pub reads_nothing : chunk_line_in [] ≡ Unfinished
unfolding chunk_line_in
reads_nothing = refl

line_from : (l : ChunkLine) → IsShortLine l → (bytes : List ℕ) → bytes ≡ print_chunk_line l → Leads (InLine []) bytes [] (after_size (chunk_size l))
line_from l short [] e = absurd (unlike (sym reads_nothing ∙ reads_whole [] l [] (short.0, e ∙ sym (append-nil (print_chunk_line l)))))
line_from l short (b ∷ rest) e = line_rest l short [] b rest e

pub line_leads : (l : ChunkLine) → IsShortLine l → Leads (InLine []) (print_chunk_line l) [] (after_size (chunk_size l))
line_leads l short = line_from l short (print_chunk_line l) refl

-- ---- chunks

pub size_some : (size : ℕ) → 0 < size → after_size size ≡ InChunk size
size_some size some = rw (ne_eqb size 0 (λ e. omega arith)) refl

chunk_leads : (c : Chunk) → IsChunk c → Leads (InLine []) (print_chunk c) c.content (InLine [])
chunk_leads c valid =
    let n = length c.content in
    let at : after_size (chunk_size c.line) ≡ InChunk n = ap after_size valid.2 ∙ size_some n valid.1 in
    let line : Leads (InLine []) (print_chunk_line c.line) [] (InChunk n) =
    subst (λ (p : Place). Leads (InLine []) (print_chunk_line c.line) [] p) at (line_leads c.line valid.0) in
    let content : Leads (InChunk n) c.content c.content (InChunk 0) =
    record { goes = after_chunk n 0 c.content (omega arith); brings = data_of_chunk n 0 c.content (omega arith) } in
    let end : Leads (InChunk 0) crlf_bytes [] (InLine []) = computes in
    subst (λ (t : List ℕ). Leads (InLine []) (print_chunk c) t (InLine [])) (append-nil c.content) (Leads-append line (Leads-append content end))

pub chunks_lead : (chunks : List Chunk) → All IsChunk chunks → Leads (InLine []) (print_chunks chunks) (content_of chunks) (InLine [])
chunks_lead [] valid = computes
chunks_lead (c ∷ chunks) valid = Leads-append (chunk_leads c (All-head IsChunk c chunks valid)) (chunks_lead chunks (All-tail IsChunk c chunks valid))

-- chunks, the line of one more, and a front of its data
pub front_leads : (chunks : List Chunk) (line : ChunkLine) (front : List ℕ) → All IsChunk chunks → IsShortLine line → 0 < chunk_size line
    → length front ≤ chunk_size line
    → Leads (InLine []) (print_chunks chunks ++ (print_chunk_line line ++ front)) (content_of chunks ++ front) (InChunk (chunk_size line - length front))
front_leads chunks line front valid short some fits =
    let n = chunk_size line in
    let begun : Leads (InLine []) (print_chunk_line line) [] (InChunk n) =
    subst (λ (p : Place). Leads (InLine []) (print_chunk_line line) [] p) (size_some n some) (line_leads line short) in
    let content : Leads (InChunk n) front front (InChunk (n - length front)) =
    record { goes = after_chunk n (n - length front) front (omega arith); brings = data_of_chunk n (n - length front) front (omega arith) } in
    Leads-append (chunks_lead chunks valid) (Leads-append begun content)

-- ---- trailers

in_trailer-room : (left n : ℕ) → n < left → in_trailer left n ≡ InTrailer (left - n)
in_trailer-room left n h = rw (lt-ltb n left h) refl

abbrev pub IsLine : List ℕ → Type 0
IsLine line = All (λ b. b ≢ line_feed) line

rest_leads : (left : ℕ) (line : List ℕ) → IsLine line → length line < left
    → Leads (InTrailer left) (line ++ line_feed ∷ []) [] (AtTrailer (left - (length line + 1)))
rest_leads left [] valid fits = computes
rest_leads left (b ∷ line) valid fits =
    let other : b ≢ line_feed = All-head (λ (b : ℕ). b ≢ line_feed) b line valid in
    let less : left - 1 - (length line + 1) ≡ left - (length (b ∷ line) + 1) = omega arith in
    let at : after_byte (InTrailer left) b ≡ InTrailer (left - 1) = rw (ne_eqb b line_feed other) (in_trailer-room left 1 (omega arith)) in
    Leads-byte {p = InTrailer left} {q = InTrailer (left - 1)} at refl
    (subst (λ (n : ℕ). Leads (InTrailer (left - 1)) (line ++ line_feed ∷ []) [] (AtTrailer n)) less
    (rest_leads (left - 1) line (All-tail (λ (b : ℕ). b ≢ line_feed) b line valid) (omega arith)))

-- a line whose first byte is no CR
plain_trailer : (left b : ℕ) (line : List ℕ) → IsLine (b ∷ line) → b ≢ carriage_return → length (b ∷ line) + 1 ≤ left
    → Leads (AtTrailer left) (b ∷ (line ++ line_feed ∷ [])) [] (AtTrailer (left - (length (b ∷ line) + 1)))
plain_trailer left b line valid no_return fits =
    let other : b ≢ line_feed = All-head (λ (b : ℕ). b ≢ line_feed) b line valid in
    let less : left - 1 - (length line + 1) ≡ left - (length (b ∷ line) + 1) = omega arith in
    let at : after_byte (AtTrailer left) b ≡ InTrailer (left - 1) =
    rw (ne_eqb b line_feed other, ne_eqb b carriage_return no_return) (in_trailer-room left 1 (omega arith)) in
    Leads-byte {p = AtTrailer left} {q = InTrailer (left - 1)} at refl
    (subst (λ (n : ℕ). Leads (InTrailer (left - 1)) (line ++ line_feed ∷ []) [] (AtTrailer n)) less
    (rest_leads (left - 1) line (All-tail (λ (b : ℕ). b ≢ line_feed) b line valid) (omega arith)))

-- a line that begins with CR
return_trailer : (left c : ℕ) (line : List ℕ) → IsLine (c ∷ line) → length line + 3 ≤ left
    → Leads (AtTrailer left) (carriage_return ∷ c ∷ (line ++ line_feed ∷ [])) [] (AtTrailer (left - (length line + 3)))
return_trailer left c line valid fits =
    let other : c ≢ line_feed = All-head (λ (b : ℕ). b ≢ line_feed) c line valid in
    let less : left - 2 - (length line + 1) ≡ left - (length line + 3) = omega arith in
    let at : after_byte (AfterTrailerReturn left) c ≡ InTrailer (left - 2) = rw (ne_eqb c line_feed other) (in_trailer-room left 2 (omega arith)) in
    Leads-byte {p = AtTrailer left} {q = AfterTrailerReturn left} refl refl
    (Leads-byte {p = AfterTrailerReturn left} {q = InTrailer (left - 2)} at refl
    (subst (λ (n : ℕ). Leads (InTrailer (left - 2)) (line ++ line_feed ∷ []) [] (AtTrailer n)) less
    (rest_leads (left - 2) line (All-tail (λ (b : ℕ). b ≢ line_feed) c line valid) (omega arith))))

trailer_leads : (left : ℕ) (line : List ℕ) → IsTrailer line → length line + 1 ≤ left
    → Leads (AtTrailer left) (line ++ line_feed ∷ []) [] (AtTrailer (left - (length line + 1)))
trailer_leads left [] valid fits = absurd (valid.1 refl)
trailer_leads left (b ∷ []) valid fits =
    plain_trailer left b [] valid.0 (λ (e : b ≡ carriage_return). valid.2 (ap (λ (x : ℕ). x ∷ []) e)) fits
trailer_leads left (b ∷ c ∷ line) valid fits =
    ⊎_elim
    (λ (yes_return : eqb b carriage_return ≡ true).
    let e : b ≡ carriage_return = eqb-true b carriage_return yes_return in
    let size : left - (length line + 3) ≡ left - (length (b ∷ c ∷ line) + 1) = omega arith in
    subst (λ (x : ℕ). Leads (AtTrailer left) (x ∷ c ∷ (line ++ line_feed ∷ [])) [] (AtTrailer (left - (length (b ∷ c ∷ line) + 1)))) (sym e)
    (subst (λ (n : ℕ). Leads (AtTrailer left) (carriage_return ∷ c ∷ (line ++ line_feed ∷ [])) [] (AtTrailer n)) size
    (return_trailer left c line (All-tail (λ (b : ℕ). b ≢ line_feed) b (c ∷ line) valid.0) (omega arith))))
    (λ (no_return : eqb b carriage_return ≡ false).
    plain_trailer left b (c ∷ line) valid.0 (λ (e : b ≡ carriage_return). false_is_true (sym no_return ∙ ap (λ (x : ℕ). eqb x carriage_return) e)) fits)
    (cases_Bool (eqb b carriage_return))

trailers_lead : (left : ℕ) (lines : List (List ℕ)) → All IsTrailer lines → length (print_trailers lines) ≤ left
    → Leads (AtTrailer left) (print_trailers lines) [] (AtTrailer (left - length (print_trailers lines)))
trailers_lead left [] valid fits = let same : left ≡ left - 0 = omega arith in record { goes = ap AtTrailer same; brings = refl }
trailers_lead left (line ∷ lines) valid fits =
    let whole = line ++ line_feed ∷ [] in
    let rest = print_trailers lines in
    let size : length (whole ++ rest) ≡ length line + 1 + length rest = omega (arith, length-append whole rest, length-append line (line_feed ∷ [])) in
    let less : left - (length line + 1) - length rest ≡ left - length (whole ++ rest) = omega (arith, size) in
    subst (λ (n : ℕ). Leads (AtTrailer left) (whole ++ rest) [] (AtTrailer n)) less
    (Leads-append (trailer_leads left line (All-head IsTrailer line lines valid) (omega (arith, size)))
    (trailers_lead (left - (length line + 1)) lines (All-tail IsTrailer line lines valid) (omega (arith, size))))

end_leads : (left : ℕ) (e : LineEnd) → Leads (AtTrailer left) (print_end e) [] AtEnd
end_leads left crlf = computes
end_leads left lf = computes

-- ---- whole bodies

pub body_leads : (b : ChunkedBody) → IsBody b → Leads (InLine []) (print_body b) (content_of b.chunks) AtEnd
body_leads b valid =
    let line : Leads (InLine []) (print_chunk_line b.last) [] (AtTrailer 4096) =
    subst (λ (p : Place). Leads (InLine []) (print_chunk_line b.last) [] p) (ap after_size valid.is_last) (line_leads b.last valid.last) in
    let trailers = trailers_lead 4096 b.trailers valid.trailers valid.fits in
    let end = end_leads (4096 - length (print_trailers b.trailers)) b.end in
    subst (λ (t : List ℕ). Leads (InLine []) (print_body b) t AtEnd) (append-nil (content_of b.chunks))
    (Leads-append (chunks_lead b.chunks valid.chunks) (Leads-append line (Leads-append trailers end)))

pub stays_past : (bytes : List ℕ) → after PastTheEnd bytes ≡ PastTheEnd
stays_past [] = refl
stays_past (b ∷ bytes) = stays_past bytes

pub body_passed : (b : ChunkedBody) (more : List ℕ) → IsBody b → more ≢ [] → after (InLine []) (print_body b ++ more) ≡ PastTheEnd
body_passed b [] valid some = absurd (some refl)
body_passed b (c ∷ more) valid some =
    after-append (InLine []) (print_body b) (c ∷ more) ∙ (ap (λ p. after p (c ∷ more)) (body_leads b valid).goes ∙ stays_past more)

pub stays_broken : (bytes : List ℕ) → after Broken bytes ≡ Broken
stays_broken [] = refl
stays_broken (b ∷ bytes) = stays_broken bytes

ended_is_sound : (rest : List ℕ) → after AtEnd rest ≡ Broken → ⊥
ended_is_sound [] e = true_is_false (ap has_ended e)
ended_is_sound (b ∷ rest) e = true_is_false (ap has_ended (sym (stays_past rest) ∙ e))

pub broken_begins_none : (bytes more rest : List ℕ) (b : ChunkedBody) → after (InLine []) bytes ≡ Broken → IsBody b → bytes ++ more ≢ print_body b ++ rest
broken_begins_none bytes more rest b broken valid same =
    let first : after (InLine []) (bytes ++ more) ≡ Broken = after-append (InLine []) bytes more ∙ (ap (λ p. after p more) broken ∙ stays_broken more) in
    let second : after (InLine []) (print_body b ++ rest) ≡ after AtEnd rest =
    after-append (InLine []) (print_body b) rest ∙ ap (λ p. after p rest) (body_leads b valid).goes in
    ended_is_sound rest (sym second ∙ (ap (after (InLine [])) (sym same) ∙ first))

-- ---- sized bodies

pub sized_data : (n : ℕ) (bytes : List ℕ) → data_of (InSized n) bytes ≡ take n bytes
sized_data zero [] = refl
sized_data (suc n) [] = refl
sized_data zero (b ∷ bytes) = past_data bytes
sized_data (suc n) (b ∷ bytes) = ap (λ t. b ∷ t) (sized_data n bytes)

pub sized_open : (n : ℕ) (bytes : List ℕ) → length bytes < n → (has_ended (after (InSized n) bytes) ≡ false) × (fault_at (after (InSized n) bytes) ≡ None)
sized_open zero bytes h = absurd (omega arith)
sized_open (suc n) [] h = (refl, refl)
sized_open (suc n) (b ∷ bytes) h = sized_open n bytes (omega arith)

pub sized_ended : (n : ℕ) (bytes : List ℕ) → length bytes ≡ n → (has_ended (after (InSized n) bytes) ≡ true) × (fault_at (after (InSized n) bytes) ≡ None)
sized_ended zero [] h = (refl, refl)
sized_ended zero (b ∷ bytes) h = absurd (omega arith)
sized_ended (suc n) [] h = absurd (omega arith)
sized_ended (suc n) (b ∷ bytes) h = sized_ended n bytes (omega arith)

pub sized_passed : (n : ℕ) (bytes : List ℕ) → n < length bytes → (has_ended (after (InSized n) bytes) ≡ true)
    × (fault_at (after (InSized n) bytes) ≡ Some PastEnd)
sized_passed n [] h = absurd (omega arith)
sized_passed zero (b ∷ bytes) h = (ap has_ended (stays_past bytes), ap fault_at (stays_past bytes))
sized_passed (suc n) (b ∷ bytes) h = sized_passed n bytes (omega arith)
