use Rattle.std.proofs.Common.{◌≡◌, ◌-◌, ◌*◌, ◌^◌, ◌<◌}
use Rattle.radio_addr.proofs.groups.Groups.number_with_zeros.Given as goal

-- the groups so far, and a zero group for each place passed
abbrev pub invariant-loop-place : goal.invariant-loop-place
invariant-loop-place l =
    (l.number ≡ l.fn.self.number * 65536 ^ (l._place - l.fn.self.count)) × (l.number < 65536 ^ l._place)
