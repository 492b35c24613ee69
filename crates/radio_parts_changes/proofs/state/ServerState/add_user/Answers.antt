use Rattle.std.proofs.Common.{ap, ◌∙◌}
use Rattle.radio_parts_changes.proofs.Words.{user_added, counts_out, Registry, station_state, World, world}
use Rattle.radio_parts_changes.proofs.state.ServerState.add_user.Goals as goal

pub returns-clause-counts : goal.returns-clause-counts
returns-clause-counts c =
    c.end_outsiders.ensures.counts
    ∙ ap (λ (registry : Registry). counts_out (world (station_state registry c.self.inside.listeners.live) c.self.inside.listeners.seats) c.args.mount.now)
    c.in_ok-add_user.ensures.ok
    ∙ ap (λ (w : World). counts_out (user_added w c.args.mount.now c.args.user.now c.args.password.now) c.args.mount.now) c.self.view_is
