-- The turns of relays that wait for a place.
use Rattle.std.specs.Prelude.{◌≡◌, ℕ, Bool, nat_le, List, filter, take}
use Rattle.std.specs.Ordering.{nat_cmp, ordering_then}
use Rattle.std.specs.List.Sorted.{IsPermutation, IsSorted}
use Rattle.std.specs.declared.cmp.Ordering.{Ordering}
use Rattle.radio_masters.specs.declared.turns.WaitingRelay.{WaitingRelay}

-- a relay may be tried at this moment
-- rule: Relay places
abbrev pub is_due : ℕ → WaitingRelay → Bool
is_due ms relay = nat_le relay.due_ms ms

-- the one that is due for longer comes first; of those that are due alike, the one with the lower number
-- rule: Relay places
abbrev pub turn_order : WaitingRelay → WaitingRelay → Ordering
turn_order one other = ordering_then (nat_cmp one.due_ms other.due_ms) (nat_cmp one.number other.number)

-- of those that wait these are tried: as many as there are places, of the queue of all that are due
-- rule: Relay places
pub record HaveTheirTurn (ms places : ℕ) (waiting chosen : List WaitingRelay) : Type 0 where
  pub queue : List WaitingRelay
  pub all_due : IsPermutation (filter (is_due ms) waiting) queue
  pub in_order : IsSorted turn_order queue
  pub first : chosen ≡ take places queue
