use Rattle.std.proofs.Common.{List, ℕ, ap, ◌∙◌}
use Rattle.radio_parts_changes.proofs.Words.{user_added, counts_out}
use Rattle.radio_parts_changes.proofs.state.ServerState.obey_user.Goals as goal

pub returns-clause-counts : goal.returns-clause-counts
returns-clause-counts c =
    c.in_ok-counts.ensures.counts
    ∙ ap (λ (user : List ℕ). counts_out (user_added c.args.self.now c.args.mount user c.as_slice-2.result.now) c.args.mount) c.as_slice.ensures
    ∙ ap (λ (password : List ℕ). counts_out (user_added c.args.self.now c.args.mount c.args.user password) c.args.mount) c.as_slice-2.ensures
