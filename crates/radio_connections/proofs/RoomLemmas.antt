-- How much room slices leave.
use Rattle.std.proofs.Common.{◌≡◌, ℕ, ◌+◌, ◌-◌, ◌<◌, List, ◌++◌, length, drop, ap, sym, ◌∙◌, slice_index_or, arith, length-append}
use Rattle.std.specs.List.{concat}
use Rattle.std.proofs.lemmas.List.{drop_more}

-- the bytes of the slices from one on are its own and those from the next on
sizes_from : (slices : List (List ℕ)) (index : ℕ) (slice : List ℕ) → index < length slices → slice ≡ slice_index_or slices index slice
    → length (concat (drop index slices)) ≡ length slice + length (concat (drop (index + 1) slices))
sizes_from slices index slice inside is =
    ap (λ (rest : List (List ℕ)). length (concat rest)) (drop_more slices index slice inside)
    ∙ ap (λ (s : List ℕ). length (s ++ concat (drop (index + 1) slices))) (sym is)
    ∙ length-append slice (concat (drop (index + 1) slices))

-- what the slices from one on leave of some room is what those from the next on leave once the first has taken its part
pub room_left : (slices : List (List ℕ)) (index : ℕ) (slice : List ℕ) (left room : ℕ) → index < length slices
    → slice ≡ slice_index_or slices index slice → left - length (concat (drop index slices)) ≡ room
    → (left - length slice) - length (concat (drop (index + 1) slices)) ≡ room
room_left slices index slice left room inside is kept = omega (arith, kept, sizes_from slices index slice inside is)
