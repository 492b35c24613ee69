-- What holds of the devices of a played script, weakened.
use Rattle.std.proofs.Common.{ℕ, List, Option, None, Some}
use Rattle.radio_floor.proofs.Words.{IfKnown, Writes}

-- what holds of known bytes may be weakened
pub known-weaker : (old new : Option (List ℕ)) (P Q : List ℕ → List ℕ → Type 0) → ((script left : List ℕ) → P script left → Q script left) → IfKnown old new P
    → IfKnown old new Q
known-weaker None new P Q h k = tt
known-weaker (Some script) None P Q h k = k
known-weaker (Some script) (Some left) P Q h k = h script left k

pub writes-weaker : (old new : Option (List ℕ)) (before after : ℕ) (P Q : List ℕ → ℕ → Type 0)
    → ((written : List ℕ) (turns : ℕ) → P written turns → Q written turns) → Writes old new before after P → Writes old new before after Q
writes-weaker old new before after P Q h w =
    record { written = w.written; most_calls = w.most_calls; appends = w.appends; called = w.called; holds = h w.written w.most_calls w.holds }
