use Rattle.std.proofs.Common.{◌≤◌}
use Rattle.radio_board.proofs.shared.Shared.news_count.Given as goal

abbrev pub invariant-desks : goal.invariant-desks
invariant-desks l = l.drawn ≤ l.raised
