use Rattle.std.proofs.Common.{ap, ◌∙◌}
use Rattle.radio_parts_changes.proofs.Words.{Session, Registry, station_state, world}
use Rattle.radio_parts_changes.proofs.SilentLemmas.{one_fewer, still_to_end, all_have_ended}
use Rattle.radio_parts_changes.proofs.state.ServerState.end_silent.Goals as goal

pub sessions-smaller : goal.sessions-smaller
sessions-smaller c =
    one_fewer c.sessions.self c.station.result c.station.ensures
    (world (station_state c.self.inside.registry c.self.inside.listeners.live) c.self.inside.listeners.seats)
    (station_state c.finish.new.self c.self.inside.listeners.live) c.in-Some.session.now
    c.get-mount.result.now c.session.inside.number c.first_silent.ensures.rising c.in-Some.ensures.first
    (c.get-mount.ensures ∙ ap (λ (x : Session). x.mount) c.session.view_is) (ap (λ (x : Session). x.number) c.session.view_is)
    (c.self.view_is ∙ c.end_session-counts.ensures.state)
    (ap (λ (registry : Registry). station_state registry c.self.inside.listeners.live) c.finish.ensures)

pub sessions-preserved : goal.sessions-preserved
sessions-preserved c =
    still_to_end c.sessions.self c.station.result c.station.ensures
    (world (station_state c.self.inside.registry c.self.inside.listeners.live) c.self.inside.listeners.seats)
    (station_state c.finish.new.self c.self.inside.listeners.live) c.in-Some.session.now
    c.get-mount.result.now c.session.inside.number c.first_silent.ensures.rising c.in-Some.ensures.first
    (c.get-mount.ensures ∙ ap (λ (x : Session). x.mount) c.session.view_is) (ap (λ (x : Session). x.number) c.session.view_is)
    (c.self.view_is ∙ c.end_session-counts.ensures.state)
    (ap (λ (registry : Registry). station_state registry c.self.inside.listeners.live) c.finish.ensures) ∙ c.sessions.invariant

pub returns : goal.returns
returns c =
    all_have_ended c.sessions.self c.station.result c.station.ensures c.in_default.ensures.first ∙ c.sessions.invariant
