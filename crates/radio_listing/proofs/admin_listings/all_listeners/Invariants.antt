use Rattle.std.proofs.Common.{◌≡◌, ◌-◌, ◌^◌, min, take}
use Rattle.std.specs.Prelude.{sum_by}
use Rattle.radio_listing.proofs.admin_listings.all_listeners.Given as goal

abbrev pub invariant-loop-row : goal.invariant-loop-row
invariant-loop-row l = l.listeners ≡ min (sum_by (λ row. row.public.listeners) (take l.row-index l.rows)) (2 ^ 64 - 1)
