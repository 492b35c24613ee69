use Rattle.std.proofs.Common.{◌≡◌, ◌+◌, ◌≤◌, eqb, length, take}
use Rattle.std.specs.List.{suffix_len}
use Rattle.radio_icy.proofs.items.unpadded_len.Given as goal

abbrev pub invariant-loop-n : goal.invariant-loop-n
invariant-loop-n l =
    (l.n ≤ length l.text)
    × (l.n + suffix_len (λ b. eqb b 0) l.text ≡ length l.text + suffix_len (λ b. eqb b 0) (take l.n l.text))

abbrev pub decreases-loop-n : goal.decreases-loop-n
decreases-loop-n l = l.n
