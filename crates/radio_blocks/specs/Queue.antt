-- The tail of a stream that a queue of blocks keeps.
use Rattle.std.specs.Prelude.{ℕ, ◌+◌, ◌-◌, nat_le, List, [], ◌∷◌, ◌++◌, length, take, drop, find, unwrap_or, if◌then◌else◌}
use Rattle.std.specs.List.{concat}

-- the blocks that are kept of a stream, how many bytes of the stream lie before them, and how many bytes are to be kept
pub record KeptTail : Type 0 where
  pub offset : ℕ
  pub blocks : List (List ℕ)
  pub limit : ℕ

-- a stream of which nothing has come yet
abbrev pub nothing_kept : ℕ → KeptTail
nothing_kept limit = record { offset = 0; blocks = []; limit = limit }

-- the place behind the last byte
abbrev pub kept_end : KeptTail → ℕ
kept_end tail = tail.offset + length (concat tail.blocks)

-- how many bytes of the stream lie behind a place
abbrev pub kept_lag : KeptTail → ℕ → ℕ
kept_lag tail place = kept_end tail - place

-- the fewest last blocks that have so many bytes together, or all blocks where these have fewer
-- rule: Kept stream
abbrev pub shortest_tail : ℕ → List (List ℕ) → List (List ℕ)
shortest_tail limit [] = []
shortest_tail limit (block ∷ blocks) = if nat_le limit (length (concat blocks)) then shortest_tail limit blocks else block ∷ blocks

-- of the blocks that are kept, those that are not needed are dropped
abbrev pub trimmed : KeptTail → KeptTail
trimmed tail = record tail {
  offset = kept_end tail - length (concat (shortest_tail tail.limit tail.blocks));
  blocks = shortest_tail tail.limit tail.blocks;
}

-- a block comes at the end
-- rule: Kept stream
abbrev pub with_pushed : KeptTail → List ℕ → KeptTail
with_pushed tail block = trimmed (record tail { blocks = tail.blocks ++ block ∷ [] })

-- the places where blocks start, the first of them here
abbrev pub starts_from : ℕ → List (List ℕ) → List ℕ
starts_from here [] = []
starts_from here (block ∷ blocks) = here ∷ starts_from (here + length block) blocks

-- the first start of a kept block that is at most so many bytes before the end, or the end
abbrev pub kept_start : KeptTail → ℕ → ℕ
kept_start tail burst =
    unwrap_or (find (λ start. nat_le (kept_end tail - start) burst) (starts_from tail.offset tail.blocks)) (kept_end tail)

-- what is kept from a place on, at most so many bytes
abbrev pub kept_data : KeptTail → ℕ → ℕ → List ℕ
kept_data tail place room = take room (drop (place - tail.offset) (concat tail.blocks))

-- the bytes of slices from one of them on, but for so many at the front
abbrev pub bytes_behind : ℕ → ℕ → List (List ℕ) → List ℕ
bytes_behind index skip slices = drop skip (concat (drop index slices))
