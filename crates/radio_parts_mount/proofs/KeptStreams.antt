-- what is kept of a stream, and of a stream that grows
use Rattle.std.proofs.Common.{◌≡◌, Bool, true, false, ℕ, ◌+◌, ◌-◌, ◌≤◌, Some, List, [], ◌∷◌, ◌++◌, length, take, drop, replicate, refl, ap, sym, ◌∙◌}
use Rattle.std.proofs.Common.{arith, length-append, append_assoc}
use Rattle.radio_parts_mount.proofs.Words.{find, nat_le, unwrap_or, if◌then◌else◌, le-leb, leb-true, length-replicate, length-drop, drop-drop, drop-append-le, drop-append-add, Each, first_start, shortest_starts}
use Rattle.radio_parts_mount.proofs.Words.{kept_from, forgotten, kept_stream, AreRising, WholeStream, end_of, with_block, burst_start, data_at}
use Rattle.radio_parts_mount.proofs.RisingLemmas.{rising_more}

-- the first start of more blocks
first_of_more : (starts : List ℕ) (end later : ℕ) → first_start later (starts ++ end ∷ []) ≡ first_start end starts
first_of_more [] end later = refl
first_of_more (start ∷ starts) end later = refl

first_below : (start end : ℕ) (starts : List ℕ) → start ≤ end → Each (λ next. start ≤ next) starts → start ≤ first_start end starts
first_below start end [] h all = h
first_below start end (next ∷ starts) h all = all.0

-- what holds of the kept starts, by whether the first is kept
by_first : (P : List ℕ → Type 0) (limit end start : ℕ) (starts : List ℕ) (enough : Bool) → nat_le limit (end - first_start end starts) ≡ enough
    → (limit ≤ end - first_start end starts → P (shortest_starts limit end starts)) → P (start ∷ starts)
    → P (if enough then shortest_starts limit end starts else start ∷ starts)
by_first P limit end start starts true e dropped kept = dropped (leb-true limit (end - first_start end starts) e)
by_first P limit end start starts false e dropped kept = kept

kept_rising : (limit end : ℕ) (starts : List ℕ) → AreRising starts end → AreRising (shortest_starts limit end starts) end
kept_rising limit end [] r = tt
kept_rising limit end (start ∷ starts) r =
    by_first (λ (kept : List ℕ). AreRising kept end) limit end start starts (nat_le limit (end - first_start end starts)) refl
    (λ h. kept_rising limit end starts r.2) r

-- the first kept start is within the stream, and no earlier than the first start
kept_first : (limit end : ℕ) (starts : List ℕ) → AreRising starts end
    → (first_start end starts ≤ first_start end (shortest_starts limit end starts)) × (first_start end (shortest_starts limit end starts) ≤ end)
kept_first limit end [] r = (omega arith, omega arith)
kept_first limit end (start ∷ starts) r =
    by_first (λ (kept : List ℕ). (start ≤ first_start end kept) × (first_start end kept ≤ end)) limit end start starts
    (nat_le limit (end - first_start end starts)) refl
    (λ h. let below = first_below start end starts r.0 r.1 in let later = kept_first limit end starts r.2 in (omega (arith, below, later.0), later.1))
    (omega arith, r.0)

pub kept_within : (limit : ℕ) (stream : WholeStream) → AreRising stream.starts (end_of stream) → kept_from limit stream ≤ end_of stream
kept_within limit stream r = (kept_first limit (end_of stream) stream.starts r).1

-- the blocks from it on have enough bytes, where those from the first start on have
kept_enough : (limit end : ℕ) (starts : List ℕ) → limit ≤ end - first_start end starts → limit ≤ end - first_start end (shortest_starts limit end starts)
kept_enough limit end [] h = h
kept_enough limit end (start ∷ starts) h =
    by_first (λ (kept : List ℕ). limit ≤ end - first_start end kept) limit end start starts (nat_le limit (end - first_start end starts)) refl
    (λ enough. kept_enough limit end starts enough) h

-- bytes

pub length-forgotten : (place : ℕ) (bytes : List ℕ) → place ≤ length bytes → length (forgotten place bytes) ≡ length bytes
length-forgotten place bytes h =
    omega (arith, length-append (replicate place 0) (drop place bytes), length-replicate {A = ℕ} place 0, length-drop place bytes, h)

drop_forgotten : (place from : ℕ) (bytes : List ℕ) → from ≤ place → drop place (forgotten from bytes) ≡ drop place bytes
drop_forgotten place from bytes h =
    let size = length-replicate {A = ℕ} from 0 in
    let here : place ≡ length (replicate {A = ℕ} from 0) + (place - from) = omega (arith, size, h) in
    let there : from + (place - from) ≡ place = omega (arith, h) in
    ap (λ (n : ℕ). drop n (forgotten from bytes)) here
    ∙ drop-append-add (replicate from 0) (drop from bytes) (place - from)
    ∙ drop-drop (place - from) from bytes
    ∙ ap (λ (n : ℕ). drop n bytes) there

forgotten_more : (place : ℕ) (bytes block : List ℕ) → place ≤ length bytes → forgotten place bytes ++ block ≡ forgotten place (bytes ++ block)
forgotten_more place bytes block h =
    append_assoc (replicate place 0) (drop place bytes) block ∙ ap (λ (t : List ℕ). replicate place 0 ++ t) (sym (drop-append-le place bytes block h))

-- the end of what is kept is that of the stream
pub kept_end : (limit : ℕ) (stream : WholeStream) → AreRising stream.starts (end_of stream) → end_of (kept_stream limit stream) ≡ end_of stream
kept_end limit stream r = length-forgotten (kept_from limit stream) stream.bytes (kept_within limit stream r)

-- and what stands at a place that is kept is what stands there in the stream
pub kept_data : (limit : ℕ) (stream : WholeStream) (place room : ℕ) → kept_from limit stream ≤ place
    → data_at (kept_stream limit stream) place room ≡ data_at stream place room
kept_data limit stream place room h = ap (take room) (drop_forgotten place (kept_from limit stream) stream.bytes h)

-- where a listener begins

abbrev near : ℕ → ℕ → List ℕ → ℕ
near burst end starts = unwrap_or (find (λ start. nat_le (end - start) burst) starts) end

near_at : (burst end start : ℕ) (starts : List ℕ) (is_near : Bool) → nat_le (end - start) burst ≡ is_near
    → (end - start ≤ burst → near burst end starts ≡ start)
    → near burst end starts ≡ unwrap_or (if is_near then Some start else find (λ s. nat_le (end - s) burst) starts) end
near_at burst end start starts true e same = same (leb-true (end - start) burst e)
near_at burst end start starts false e same = refl

near_here : (burst end start : ℕ) (starts : List ℕ) → end - start ≤ burst → start ≡ first_start end starts → near burst end starts ≡ start
near_here burst end start [] h same = sym same
near_here burst end start (next ∷ starts) h same =
    ap (λ (b : Bool). unwrap_or (if b then Some next else find (λ s. nat_le (end - s) burst) starts) end)
    (le-leb (end - next) burst (omega (arith, h, same))) ∙ sym same

near_kept : (burst limit end : ℕ) (starts : List ℕ) → burst ≤ limit → AreRising starts end
    → near burst end (shortest_starts limit end starts) ≡ near burst end starts
near_kept burst limit end [] h r = refl
near_kept burst limit end (start ∷ starts) h r =
    by_first (λ (kept : List ℕ). near burst end kept ≡ near burst end (start ∷ starts)) limit end start starts
    (nat_le limit (end - first_start end starts)) refl
    (λ enough.
    let below = first_below start end starts r.0 r.1 in
    let first = kept_first limit end starts r.2 in
    near_kept burst limit end starts h r.2
    ∙ near_at burst end start starts (nat_le (end - start) burst) refl
    (λ close. near_here burst end start starts close (omega (arith, below, first.0, first.1, enough, h, close))))
    refl

near_after : (burst end : ℕ) (starts : List ℕ) → AreRising starts end → first_start end starts ≤ near burst end starts
near_after burst end [] r = omega arith
near_after burst end (start ∷ starts) r =
    here (nat_le (end - start) burst) (near_after burst end starts r.2) where
      here : (is_near : Bool) → first_start end starts ≤ near burst end starts
          → start ≤ unwrap_or (if is_near then Some start else find (λ s. nat_le (end - s) burst) starts) end
      here true later = omega arith
      here false later = let below = first_below start end starts r.0 r.1 in omega (arith, below, later)

-- a burst that is no longer than a queue begins in what is kept
pub kept_burst : (limit burst : ℕ) (stream : WholeStream) → burst ≤ limit → AreRising stream.starts (end_of stream)
    → burst_start (kept_stream limit stream) burst ≡ burst_start stream burst
kept_burst limit burst stream h r =
    ap (λ (end : ℕ). near burst end (shortest_starts limit (end_of stream) stream.starts)) (kept_end limit stream r)
    ∙ near_kept burst limit (end_of stream) stream.starts h r

pub burst_is_kept : (limit burst : ℕ) (stream : WholeStream) → burst ≤ limit → AreRising stream.starts (end_of stream)
    → kept_from limit stream ≤ burst_start stream burst
burst_is_kept limit burst stream h r =
    let same = near_kept burst limit (end_of stream) stream.starts h r in
    let after = near_after burst (end_of stream) (shortest_starts limit (end_of stream) stream.starts) (kept_rising limit (end_of stream) stream.starts r) in
    omega (arith, same, after)

near_enough : (burst end : ℕ) (starts : List ℕ) → end - near burst end starts ≤ burst
near_enough burst end [] = omega arith
near_enough burst end (start ∷ starts) = here (nat_le (end - start) burst) refl (near_enough burst end starts) where
  here : (is_near : Bool) → nat_le (end - start) burst ≡ is_near → end - near burst end starts ≤ burst
      → end - unwrap_or (if is_near then Some start else find (λ s. nat_le (end - s) burst) starts) end ≤ burst
  here true e later = leb-true (end - start) burst e
  here false e later = later

pub burst_is_near : (burst : ℕ) (stream : WholeStream) → end_of stream - burst_start stream burst ≤ burst
burst_is_near burst stream = near_enough burst (end_of stream) stream.starts

-- a block more

more_starts : (limit end later : ℕ) (starts : List ℕ) → end ≤ later
    → shortest_starts limit later (shortest_starts limit end starts ++ end ∷ []) ≡ shortest_starts limit later (starts ++ end ∷ [])
more_starts limit end later [] h = refl
more_starts limit end later (start ∷ starts) h =
    by_first (λ (kept : List ℕ). shortest_starts limit later (kept ++ end ∷ []) ≡ shortest_starts limit later (start ∷ starts ++ end ∷ []))
    limit end start starts (nat_le limit (end - first_start end starts)) refl
    (λ enough.
    let first = first_of_more starts end later in
    let still = le-leb limit (later - first_start later (starts ++ end ∷ [])) (omega (arith, first, enough, h)) in
    more_starts limit end later starts h
    ∙ sym (ap (λ (b : Bool). if b then shortest_starts limit later (starts ++ end ∷ []) else start ∷ starts ++ end ∷ []) still))
    refl

module _ (limit : ℕ) (stream : WholeStream) (block : List ℕ) (r : AreRising stream.starts (end_of stream)) where
  abbrev end : ℕ
  end = end_of stream

  abbrev later : ℕ
  later = end_of (with_block stream block)

  longer_end : end ≤ later
  longer_end = omega (arith, length-append stream.bytes block)

  rises_on : AreRising (stream.starts ++ end ∷ []) later
  rises_on = rising_more stream.starts end later longer_end r

  -- what is kept of it goes by what is kept before
  same_end : end_of (with_block (kept_stream limit stream) block) ≡ later
  same_end = omega (arith, kept_end limit stream r, length-append stream.bytes block, length-append (kept_stream limit stream).bytes block)

  same_starts : (kept_stream limit (with_block (kept_stream limit stream) block)).starts ≡ (kept_stream limit (with_block stream block)).starts
  same_starts =
      ap (λ (n : ℕ). shortest_starts limit n (shortest_starts limit end stream.starts ++ end_of (kept_stream limit stream) ∷ [])) same_end
      ∙ ap (λ (n : ℕ). shortest_starts limit later (shortest_starts limit end stream.starts ++ n ∷ [])) (kept_end limit stream r)
      ∙ more_starts limit end later stream.starts longer_end

  same_from : kept_from limit (with_block (kept_stream limit stream) block) ≡ kept_from limit (with_block stream block)
  same_from =
      ap (λ (n : ℕ). first_start n (kept_stream limit (with_block (kept_stream limit stream) block)).starts) same_end
      ∙ ap (first_start later) same_starts

  -- what was forgotten stays forgotten
  forgets_on : kept_from limit stream ≤ kept_from limit (with_block stream block)
  forgets_on =
      let kept = shortest_starts limit end stream.starts in
      let rising = rising_more kept end later longer_end (kept_rising limit end stream.starts r) in
      let first = first_of_more kept end later in
      let on = (kept_first limit later (kept ++ end ∷ []) rising).0 in
      let same = ap (first_start later) (more_starts limit end later stream.starts longer_end) in
      omega (arith, first, on, same)

  same_bytes : (kept_stream limit (with_block (kept_stream limit stream) block)).bytes ≡ (kept_stream limit (with_block stream block)).bytes
  same_bytes =
      let from = kept_from limit stream in
      let to = kept_from limit (with_block stream block) in
      ap (λ (n : ℕ). forgotten n (forgotten from stream.bytes ++ block)) same_from
      ∙ ap (λ (t : List ℕ). forgotten to t) (forgotten_more from stream.bytes block (kept_within limit stream r))
      ∙ ap (λ (t : List ℕ). replicate to 0 ++ t) (drop_forgotten to from (stream.bytes ++ block) forgets_on)

  pub kept_more : kept_stream limit (with_block (kept_stream limit stream) block) ≡ kept_stream limit (with_block stream block)
  kept_more =
      ap (λ (t : List ℕ). record { bytes = t; starts = (kept_stream limit (with_block (kept_stream limit stream) block)).starts }) same_bytes
      ∙ ap (λ (t : List ℕ). record { bytes = (kept_stream limit (with_block stream block)).bytes; starts = t }) same_starts

  -- a place that was kept is kept still, where it is not further behind than a queue is long
  pub kept_still : (place : ℕ) → kept_from limit stream ≤ place → later - place ≤ limit → kept_from limit (with_block stream block) ≤ place
  kept_still place was near_enough = by_starts stream.starts r was where
    by_starts : (starts : List ℕ) → AreRising starts end → first_start end (shortest_starts limit end starts) ≤ place
        → first_start later (shortest_starts limit later (starts ++ end ∷ [])) ≤ place
    by_starts [] rises h =
        by_first (λ (kept : List ℕ). first_start later kept ≤ place) limit later end [] (nat_le limit (later - later)) refl
        (λ enough. omega (arith, enough, near_enough)) h
    by_starts (start ∷ starts) rises h =
        by_first (λ (kept : List ℕ). first_start later kept ≤ place) limit later start (starts ++ end ∷ [])
        (nat_le limit (later - first_start later (starts ++ end ∷ []))) refl dropped (omega (arith, h, (kept_first limit end (start ∷ starts) rises).0)) where
          dropped : limit ≤ later - first_start later (starts ++ end ∷ [])
              → first_start later (shortest_starts limit later (starts ++ end ∷ [])) ≤ place
          dropped enough =
              let many = kept_enough limit later (starts ++ end ∷ []) enough in
              let inside = (kept_first limit later (starts ++ end ∷ []) (rising_more starts end later longer_end rises.2)).1 in
              omega (arith, many, inside, near_enough)
