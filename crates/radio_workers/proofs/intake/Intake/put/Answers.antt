use Rattle.std.proofs.Common.{◌≡◌, ◌+◌, ◌<◌, length, subst, MatchResult}
use Rattle.radio_workers.proofs.Words.{ROOM, PassRecord, all_parts}
use Rattle.radio_workers.proofs.Balances.{knows, puts, room-known}
use Rattle.radio_workers.proofs.intake.Intake.put.Goals as goal

pub push_as-requires-clause-rule : goal.push_as-requires-clause-rule
push_as-requires-clause-rule g c = (puts _ _ _ _ c.self.invariant c.pass.invariant.1, knows _ _)

pub returns-clause-room : goal.returns-clause-room
returns-clause-room g c =
    subst
    (λ (pass : PassRecord g.row.L.Denot).
    pass.parts ≡ all_parts
    → MatchResult c.push_as.result (λ _. length pass.put < length pass.taken + ROOM) (λ _. length pass.put ≡ length pass.taken + ROOM))
    c.pass.view_is
    (room-known _ _ _ _ _ c.self.invariant c.push_as.ensures.rule)
