use Rattle.std.proofs.Common.{◌≡◌, find, length}
use Rattle.radio_attachments.specs.Rows.{is_attached}
use Rattle.radio_attachments.proofs.branch.Branch.get.Given as goal

-- the attachment that is looked for is among those that are left
abbrev pub invariant-branches : goal.invariant-branches
invariant-branches l = find (is_attached l.fn.id) l.fn.self ≡ find (is_attached l.fn.id) l.branch

abbrev pub decreases-branches : goal.decreases-branches
decreases-branches l = length l.branch
