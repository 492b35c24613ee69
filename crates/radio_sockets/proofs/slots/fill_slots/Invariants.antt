use Rattle.std.proofs.Common.{◌≡◌, ◌+◌, ◌≤◌, All}
use Rattle.radio_workers.specs.Passes.{all_parts}
use Rattle.radio_sockets.proofs.slots.fill_slots.Given as goal

-- each slot is of this intake, and at most as many parts of it are gone as slots were made
abbrev pub invariant-slots : goal.invariant-slots
invariant-slots g l = (l.pass.intake ≡ l.intake) × (all_parts ≤ l.pass.parts + l.taken + 1) × All (λ slot. slot.intake_pass.intake ≡ l.intake) l.slots.items
