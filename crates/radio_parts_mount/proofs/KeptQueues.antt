-- the streams that queues of blocks have
use Rattle.std.proofs.Common.{◌≡◌, Bool, true, false, ℕ, ◌+◌, ◌-◌, ◌≤◌, List, [], ◌∷◌, ◌++◌, length, take, drop, replicate}
use Rattle.std.proofs.Common.{refl, ap, sym, ◌∙◌, arith, length-append, append_assoc, append-nil}
use Rattle.radio_parts_mount.proofs.Words.{find, nat_le, unwrap_or, if◌then◌else◌, concat, length-replicate, drop-append-add, drop-append_seam, first_start, shortest_starts, kept_from, forgotten, kept_stream, stream_of}
use Rattle.radio_parts_mount.proofs.Words.{WholeStream, end_of, with_block, burst_start, data_at}
use Rattle.std.proofs.lemmas.List.Folds.{concat-append}
use Rattle.radio_blocks.specs.Queue.{KeptTail, kept_end, kept_start, kept_data, shortest_tail, trimmed, with_pushed, starts_from}

pub stream_end : (tail : KeptTail) → end_of (stream_of tail) ≡ kept_end tail
stream_end tail =
    length-append (replicate tail.offset 0) (concat tail.blocks) ∙ ap (λ (n : ℕ). n + length (concat tail.blocks)) (length-replicate {A = ℕ} tail.offset 0)

pub stream_burst : (tail : KeptTail) (burst : ℕ) → kept_start tail burst ≡ burst_start (stream_of tail) burst
stream_burst tail burst =
    ap (λ (end : ℕ). unwrap_or (find (λ start. nat_le (end - start) burst) (starts_from tail.offset tail.blocks)) end) (sym (stream_end tail))

-- the blocks behind the zeros
behind_zeros : (zeros place : ℕ) (bytes : List ℕ) → zeros ≤ place → drop place (replicate zeros 0 ++ bytes) ≡ drop (place - zeros) bytes
behind_zeros zeros place bytes h =
    let here : place ≡ length (replicate {A = ℕ} zeros 0) + (place - zeros) = omega (arith, length-replicate {A = ℕ} zeros 0, h) in
    ap (λ (n : ℕ). drop n (replicate zeros 0 ++ bytes)) here ∙ drop-append-add (replicate zeros 0) bytes (place - zeros)

pub stream_data : (tail : KeptTail) (place room : ℕ) → tail.offset ≤ place → kept_data tail place room ≡ data_at (stream_of tail) place room
stream_data tail place room h = ap (λ (t : List ℕ). take room t) (sym (behind_zeros tail.offset place (concat tail.blocks) h))

-- where blocks start

-- the first of them starts where the blocks do
first_here : (end here : ℕ) (blocks : List (List ℕ)) → end ≡ here + length (concat blocks) → first_start end (starts_from here blocks) ≡ here
first_here end here [] e = omega (arith, e)
first_here end here (block ∷ blocks) e = refl

pub stream_first : (tail : KeptTail) → first_start (end_of (stream_of tail)) (stream_of tail).starts ≡ tail.offset
stream_first tail = first_here (end_of (stream_of tail)) tail.offset tail.blocks (stream_end tail)

starts_at : (limit end here : ℕ) (block : List ℕ) (blocks : List (List ℕ)) (enough : Bool) → end ≡ here + length (concat (block ∷ blocks))
    → starts_from (end - length (concat (shortest_tail limit blocks))) (shortest_tail limit blocks)
    ≡ shortest_starts limit end (starts_from (here + length block) blocks)
    → starts_from (end - length (concat (if enough then shortest_tail limit blocks else block ∷ blocks)))
    (if enough then shortest_tail limit blocks else block ∷ blocks)
    ≡ (if enough then shortest_starts limit end (starts_from (here + length block) blocks) else here ∷ starts_from (here + length block) blocks)
starts_at limit end here block blocks true e later = later
starts_at limit end here block blocks false e later =
    let start : end - length (concat (block ∷ blocks)) ≡ here = omega (arith, e) in ap (λ (n : ℕ). starts_from n (block ∷ blocks)) start

trimmed_starts : (limit end here : ℕ) (blocks : List (List ℕ)) → end ≡ here + length (concat blocks)
    → starts_from (end - length (concat (shortest_tail limit blocks))) (shortest_tail limit blocks) ≡ shortest_starts limit end (starts_from here blocks)
trimmed_starts limit end here [] e = refl
trimmed_starts limit end here (block ∷ blocks) e =
    let rest : end ≡ (here + length block) + length (concat blocks) = omega (arith, e, length-append block (concat blocks)) in
    let behind : length (concat blocks) ≡ end - first_start end (starts_from (here + length block) blocks)
    = omega (arith, rest, first_here end (here + length block) blocks rest) in
    starts_at limit end here block blocks (nat_le limit (length (concat blocks))) e (trimmed_starts limit end (here + length block) blocks rest)
    ∙ ap (λ (n : ℕ). if nat_le limit n then shortest_starts limit end (starts_from (here + length block) blocks)
    else here ∷ starts_from (here + length block) blocks)
    behind

-- the bytes that a trim drops, before those that it keeps
before_at : (limit : ℕ) (block : List ℕ) (blocks : List (List ℕ)) (enough : Bool)
    → (before : List ℕ) × (concat blocks ≡ before ++ concat (shortest_tail limit blocks))
    → (before : List ℕ) × (concat (block ∷ blocks) ≡ before ++ concat (if enough then shortest_tail limit blocks else block ∷ blocks))
before_at limit block blocks true later =
    (block ++ later.0, ap (λ (t : List ℕ). block ++ t) later.1 ∙ sym (append_assoc block later.0 (concat (shortest_tail limit blocks))))
before_at limit block blocks false later = ([], refl)

before_tail : (limit : ℕ) (blocks : List (List ℕ)) → (before : List ℕ) × (concat blocks ≡ before ++ concat (shortest_tail limit blocks))
before_tail limit [] = ([], refl)
before_tail limit (block ∷ blocks) = before_at limit block blocks (nat_le limit (length (concat blocks))) (before_tail limit blocks)

-- a trimmed queue has what is kept of the stream
module _ (tail : KeptTail) where
  abbrev end : ℕ
  end = end_of (stream_of tail)

  abbrev kept : List (List ℕ)
  kept = shortest_tail tail.limit tail.blocks

  abbrev offset : ℕ
  offset = (trimmed tail).offset

  sizes : length (concat tail.blocks) ≡ length (before_tail tail.limit tail.blocks).0 + length (concat kept)
  sizes =
      let parts = before_tail tail.limit tail.blocks in
      ap (λ (t : List ℕ). length t) parts.1 ∙ length-append parts.0 (concat kept)

  same_starts : starts_from offset kept ≡ shortest_starts tail.limit end (starts_from tail.offset tail.blocks)
  same_starts =
      ap (λ (n : ℕ). starts_from (n - length (concat kept)) kept) (sym (stream_end tail))
      ∙ trimmed_starts tail.limit end tail.offset tail.blocks (stream_end tail)

  same_from : offset ≡ kept_from tail.limit (stream_of tail)
  same_from =
      let whole : end ≡ offset + length (concat kept) = omega (arith, stream_end tail, sizes) in
      sym (first_here end offset kept whole) ∙ ap (first_start end) same_starts

  kept_bytes : concat kept ≡ drop offset (stream_of tail).bytes
  kept_bytes =
      let parts = before_tail tail.limit tail.blocks in
      let here : offset - tail.offset ≡ length parts.0 = omega (arith, sizes) in
      sym (behind_zeros tail.offset offset (concat tail.blocks) (omega (arith, sizes))
      ∙ ap (λ (n : ℕ). drop n (concat tail.blocks)) here
      ∙ ap (λ (t : List ℕ). drop (length parts.0) t) parts.1
      ∙ drop-append_seam parts.0 (concat kept))

  pub stream_trimmed : stream_of (trimmed tail) ≡ kept_stream tail.limit (stream_of tail)
  stream_trimmed =
      ap (λ (s : List ℕ). record { bytes = replicate offset 0 ++ concat kept; starts = s }) same_starts
      ∙ ap (λ (t : List ℕ). record {
        bytes = replicate offset 0 ++ t;
        starts = shortest_starts tail.limit end (starts_from tail.offset tail.blocks);
      }) kept_bytes
      ∙ ap (λ (n : ℕ). record {
        bytes = forgotten n (stream_of tail).bytes;
        starts = shortest_starts tail.limit end (starts_from tail.offset tail.blocks);
      }) same_from

-- a block more

joined_more : (blocks : List (List ℕ)) (block : List ℕ) → concat (blocks ++ block ∷ []) ≡ concat blocks ++ block
joined_more blocks block = concat-append blocks (block ∷ []) ∙ ap (λ (t : List ℕ). concat blocks ++ t) (append-nil block)

starts_more : (here : ℕ) (blocks : List (List ℕ)) (block : List ℕ)
    → starts_from here (blocks ++ block ∷ []) ≡ starts_from here blocks ++ (here + length (concat blocks)) ∷ []
starts_more here [] block = let same : here ≡ here + 0 = omega arith in ap (λ (n : ℕ). n ∷ []) same
starts_more here (first ∷ blocks) block =
    let same : (here + length first) + length (concat blocks) ≡ here + length (concat (first ∷ blocks)) = omega (arith, length-append first (concat blocks)) in
    ap (λ (t : List ℕ). here ∷ t) (starts_more (here + length first) blocks block
    ∙ ap (λ (n : ℕ). starts_from (here + length first) blocks ++ n ∷ []) same)

stream_longer : (tail : KeptTail) (block : List ℕ) → stream_of (record tail { blocks = tail.blocks ++ block ∷ [] }) ≡ with_block (stream_of tail) block
stream_longer tail block =
    ap (λ (s : List ℕ). record { bytes = replicate tail.offset 0 ++ concat (tail.blocks ++ block ∷ []); starts = s })
    (starts_more tail.offset tail.blocks block ∙ ap (λ (n : ℕ). starts_from tail.offset tail.blocks ++ n ∷ []) (sym (stream_end tail)))
    ∙ ap (λ (t : List ℕ). record { bytes = t; starts = (with_block (stream_of tail) block).starts })
    (ap (λ (t : List ℕ). replicate tail.offset 0 ++ t) (joined_more tail.blocks block)
    ∙ sym (append_assoc (replicate tail.offset 0) (concat tail.blocks) block))

pub stream_pushed : (tail : KeptTail) (block : List ℕ) → stream_of (with_pushed tail block) ≡ kept_stream tail.limit (with_block (stream_of tail) block)
stream_pushed tail block =
    stream_trimmed (record tail { blocks = tail.blocks ++ block ∷ [] }) ∙ ap (kept_stream tail.limit) (stream_longer tail block)

-- and so one that was told how much to keep
pub pushed_to : (tail told pushed : KeptTail) (stream : WholeStream) (block : List ℕ) (limit : ℕ) → told ≡ record tail { limit = limit }
    → stream_of tail ≡ stream → pushed ≡ with_pushed told block → stream_of pushed ≡ kept_stream limit (with_block stream block)
pushed_to tail told pushed stream block limit is shows ok =
    ap stream_of (ok ∙ ap (λ (t : KeptTail). with_pushed t block) is) ∙ stream_pushed (record tail { limit = limit }) block
    ∙ ap (λ (s : WholeStream). kept_stream limit (with_block s block)) shows
