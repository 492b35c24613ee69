use Rattle.std.proofs.Common.{◌≡◌}
use Rattle.radio_pullers.proofs.keeper.Keeper.note_ends.Given as goal

abbrev pub invariant-ends : goal.invariant-ends
invariant-ends g l =
    (l.self.names ≡ l.initial.self.names) × (l.self.wanted ≡ l.initial.self.wanted)
    × (l.self.wished ≡ l.initial.self.wished) × (l.self.chosen ≡ l.initial.self.chosen)
