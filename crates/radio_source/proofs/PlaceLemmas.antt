-- Pieces one after another, and runs of data.
use Rattle.std.proofs.Common.{◌≡◌, ◌≢◌, ℕ, zero, suc, ◌+◌, ◌-◌, ◌<◌, ◌≤◌, List, [], ◌∷◌, ◌++◌, length, ap, sym, ◌∙◌, refl, arith, append_assoc}
use Rattle.std.proofs.lemmas.Bool.{lt-ltb, le-ltb, ne_eqb}
use Rattle.radio_source.specs.declared.chunk_line.LineReading.TheVariants.{Unfinished, Whole, Refused}
use Rattle.radio_source.specs.ChunkLine.{chunk_line_in}
use Rattle.radio_source.specs.Place.{after_line, after_size, Place, InPlain, InSized, InLine, InChunk, AfterReturn, AtTrailer, AfterTrailerReturn, InTrailer}
use Rattle.radio_source.specs.Place.{AtEnd, PastTheEnd, Broken, after_byte, brought_by, after, data_of}
use Rattle.radio_source.specs.Position.{data_ahead, past_data}

pub after-append : (place : Place) (first second : List ℕ) → after place (first ++ second) ≡ after (after place first) second
after-append place [] second = refl
after-append place (b ∷ first) second = after-append (after_byte place b) first second

pub data_of-append : (place : Place) (first second : List ℕ) → data_of place (first ++ second) ≡ data_of place first ++ data_of (after place first) second
data_of-append place [] second = refl
data_of-append place (b ∷ first) second =
    ap (λ t. brought_by place b ++ t) (data_of-append (after_byte place b) first second)
    ∙ sym (append_assoc (brought_by place b) (data_of (after_byte place b) first) (data_of (after (after_byte place b) first) second))

-- data without an end
pub after_plain : (bytes : List ℕ) → after InPlain bytes ≡ InPlain
after_plain [] = refl
after_plain (b ∷ bytes) = after_plain bytes

pub data_of_plain : (bytes : List ℕ) → data_of InPlain bytes ≡ bytes
data_of_plain [] = refl
data_of_plain (b ∷ bytes) = ap (λ t. b ∷ t) (data_of_plain bytes)

-- a run of data in a sized body, and in a chunk
pub after_sized : (left m : ℕ) (run : List ℕ) → left ≡ length run + m → after (InSized left) run ≡ InSized m
after_sized left m [] e = let same : left ≡ m = omega arith in ap InSized same
after_sized zero m (b ∷ run) e = absurd (omega arith)
after_sized (suc left) m (b ∷ run) e = after_sized left m run (omega arith)

pub data_of_sized : (left m : ℕ) (run : List ℕ) → left ≡ length run + m → data_of (InSized left) run ≡ run
data_of_sized left m [] e = refl
data_of_sized zero m (b ∷ run) e = absurd (omega arith)
data_of_sized (suc left) m (b ∷ run) e = ap (λ t. b ∷ t) (data_of_sized left m run (omega arith))

pub after_chunk : (left m : ℕ) (run : List ℕ) → left ≡ length run + m → after (InChunk left) run ≡ InChunk m
after_chunk left m [] e = let same : left ≡ m = omega arith in ap InChunk same
after_chunk zero m (b ∷ run) e = absurd (omega arith)
after_chunk (suc left) m (b ∷ run) e = after_chunk left m run (omega arith)

pub data_of_chunk : (left m : ℕ) (run : List ℕ) → left ≡ length run + m → data_of (InChunk left) run ≡ run
data_of_chunk left m [] e = refl
data_of_chunk zero m (b ∷ run) e = absurd (omega arith)
data_of_chunk (suc left) m (b ∷ run) e = ap (λ t. b ∷ t) (data_of_chunk left m run (omega arith))

-- a run of data that lies ahead
run_after : (place : Place) (run : List ℕ) → length run ≤ data_ahead place (length run) → after place run ≡ past_data place (length run)
run_after InPlain run h = after_plain run
run_after (InSized left) run h = after_sized left (left - length run) run (omega arith)
run_after (InLine held) [] h = refl
run_after (InLine held) (b ∷ run) h = absurd (omega arith)
run_after (InChunk left) run h = after_chunk left (left - length run) run (omega arith)
run_after AfterReturn [] h = refl
run_after AfterReturn (b ∷ run) h = absurd (omega arith)
run_after (AtTrailer left) [] h = refl
run_after (AtTrailer left) (b ∷ run) h = absurd (omega arith)
run_after (AfterTrailerReturn left) [] h = refl
run_after (AfterTrailerReturn left) (b ∷ run) h = absurd (omega arith)
run_after (InTrailer left) [] h = refl
run_after (InTrailer left) (b ∷ run) h = absurd (omega arith)
run_after AtEnd [] h = refl
run_after AtEnd (b ∷ run) h = absurd (omega arith)
run_after PastTheEnd [] h = refl
run_after PastTheEnd (b ∷ run) h = absurd (omega arith)
run_after Broken [] h = refl
run_after Broken (b ∷ run) h = absurd (omega arith)

run_data : (place : Place) (run : List ℕ) → length run ≤ data_ahead place (length run) → data_of place run ≡ run
run_data InPlain run h = data_of_plain run
run_data (InSized left) run h = data_of_sized left (left - length run) run (omega arith)
run_data (InChunk left) run h = data_of_chunk left (left - length run) run (omega arith)
run_data place [] h = refl
run_data (InLine held) (b ∷ run) h = absurd (omega arith)
run_data AfterReturn (b ∷ run) h = absurd (omega arith)
run_data (AtTrailer left) (b ∷ run) h = absurd (omega arith)
run_data (AfterTrailerReturn left) (b ∷ run) h = absurd (omega arith)
run_data (InTrailer left) (b ∷ run) h = absurd (omega arith)
run_data AtEnd (b ∷ run) h = absurd (omega arith)
run_data PastTheEnd (b ∷ run) h = absurd (omega arith)
run_data Broken (b ∷ run) h = absurd (omega arith)

-- so many bytes ahead of many are ahead of themselves
ahead_of_itself : (place : Place) (n m : ℕ) → n ≡ data_ahead place m → n ≤ data_ahead place n
ahead_of_itself InPlain n m e = omega arith
ahead_of_itself (InSized left) n m e = omega arith
ahead_of_itself (InLine held) n m e = omega arith
ahead_of_itself (InChunk left) n m e = omega arith
ahead_of_itself AfterReturn n m e = omega arith
ahead_of_itself (AtTrailer left) n m e = omega arith
ahead_of_itself (AfterTrailerReturn left) n m e = omega arith
ahead_of_itself (InTrailer left) n m e = omega arith
ahead_of_itself AtEnd n m e = omega arith
ahead_of_itself PastTheEnd n m e = omega arith
ahead_of_itself Broken n m e = omega arith

pub after_run : (place : Place) (run rest : List ℕ) (m : ℕ) → length run ≡ data_ahead place m
    → after (past_data place (length run)) rest ≡ after place (run ++ rest)
after_run place run rest m e =
    ap (λ p. after p rest) (sym (run_after place run (ahead_of_itself place (length run) m e))) ∙ sym (after-append place run rest)

pub data_of_run : (place : Place) (run rest : List ℕ) (m : ℕ) → length run ≡ data_ahead place m
    → run ++ data_of (past_data place (length run)) rest ≡ data_of place (run ++ rest)
data_of_run place run rest m e =
    let ahead = ahead_of_itself place (length run) m e in
    ap (λ p. run ++ data_of p rest) (sym (run_after place run ahead))
    ∙ (ap (λ t. t ++ data_of (after place run) rest) (sym (run_data place run ahead)) ∙ sym (data_of-append place run rest))

-- a byte with no data ahead
pub brings_nothing : (place : Place) (b n : ℕ) → data_ahead place (suc n) ≡ 0 → brought_by place b ≡ []
brings_nothing InPlain b n e = absurd (omega arith)
brings_nothing (InSized zero) b n e = refl
brings_nothing (InSized (suc left)) b n e = absurd (omega arith)
brings_nothing (InLine held) b n e = refl
brings_nothing (InChunk zero) b n e = refl
brings_nothing (InChunk (suc left)) b n e = absurd (omega arith)
brings_nothing AfterReturn b n e = refl
brings_nothing (AtTrailer left) b n e = refl
brings_nothing (AfterTrailerReturn left) b n e = refl
brings_nothing (InTrailer left) b n e = refl
brings_nothing AtEnd b n e = refl
brings_nothing PastTheEnd b n e = refl
brings_nothing Broken b n e = refl

pub none_of_one : (place : Place) (n : ℕ) → data_ahead place (suc n) ≡ 0 → data_ahead place 1 ≡ 0
none_of_one InPlain n e = absurd (omega arith)
none_of_one (InSized left) n e = omega arith
none_of_one (InLine held) n e = refl
none_of_one (InChunk left) n e = omega arith
none_of_one AfterReturn n e = refl
none_of_one (AtTrailer left) n e = refl
none_of_one (AfterTrailerReturn left) n e = refl
none_of_one (InTrailer left) n e = refl
none_of_one AtEnd n e = refl
none_of_one PastTheEnd n e = refl
none_of_one Broken n e = refl

-- what a reading makes of a chunk line
pub after_line_unfinished : (line : List ℕ) → chunk_line_in line ≡ Unfinished → length line < 256 → after_line line ≡ InLine line
unfolding after_line
after_line_unfinished line h short = rw (h, lt-ltb (length line) 256 short) refl

pub after_line_too_long : (line : List ℕ) → chunk_line_in line ≡ Unfinished → 256 ≤ length line → after_line line ≡ Broken
unfolding after_line
after_line_too_long line h long = rw (h, le-ltb (length line) 256 long) refl

pub after_line_refused : (line : List ℕ) → chunk_line_in line ≡ Refused → after_line line ≡ Broken
unfolding after_line
after_line_refused line h = rw h refl

pub after_line_whole : (line : List ℕ) (size : ℕ) → chunk_line_in line ≡ Whole size → after_line line ≡ after_size size
unfolding after_line
after_line_whole line size h = rw h refl

pub after_last_line : (line : List ℕ) (size : ℕ) → chunk_line_in line ≡ Whole size → size ≡ 0 → after_line line ≡ AtTrailer 4096
after_last_line line size h none = after_line_whole line size h ∙ ap after_size none

pub after_chunk_line : (line : List ℕ) (size : ℕ) → chunk_line_in line ≡ Whole size → size ≢ 0 → after_line line ≡ InChunk size
after_chunk_line line size h some = after_line_whole line size h ∙ rw (ne_eqb size 0 some) refl
