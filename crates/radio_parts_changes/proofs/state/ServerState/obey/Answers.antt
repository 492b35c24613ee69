use Rattle.std.proofs.Common.{List, ℕ, ap, sym, ◌∙◌}
use Rattle.radio_parts_changes.proofs.Words.{user_deleted, counts_by, counts_out, World}
use Rattle.radio_parts_changes.proofs.state.ServerState.obey.Goals as goal

pub returns-in-DeleteUser-clause-counts : goal.returns-in-DeleteUser-clause-counts
returns-in-DeleteUser-clause-counts c =
    let mount = c.in-DeleteUser.mount in
    c.delete_user-counts.ensures.counts
    ∙ ap (λ (user : List ℕ). counts_out (user_deleted c.answer-in-DeleteUser.new.self mount user) mount) c.as_slice.ensures
    ∙ ap (λ (w : World). counts_out (user_deleted w mount c.in-DeleteUser.user) mount) c.answer-in-DeleteUser.ensures
    ∙ sym (ap (counts_by c.args.self.now) c.in-DeleteUser.is)
