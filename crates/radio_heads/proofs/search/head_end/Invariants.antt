use Rattle.std.proofs.Common.{ℕ, ◌<◌}
use Rattle.radio_heads.specs.Search.{EndsAt}
use Rattle.radio_heads.proofs.search.head_end.Given as goal

-- no place before this one ends a head
abbrev pub invariant-loop-place : goal.invariant-loop-place
invariant-loop-place l = (earlier other : ℕ) → earlier < l.place → ¬ (EndsAt l.bytes earlier other)
