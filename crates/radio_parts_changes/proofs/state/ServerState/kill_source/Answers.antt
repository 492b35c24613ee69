use Rattle.std.proofs.Common.{List, ap, sym, ◌∙◌}
use Rattle.radio_parts_changes.proofs.Words.{Session, session_of, Registry, station_state, World, world}
use Rattle.radio_parts_changes.proofs.KilledLemmas.{killed_so}
use Rattle.radio_parts_changes.proofs.state.ServerState.kill_source.Goals as goal

pub returns : goal.returns
returns c =
    killed_so c.args.self.now (world (station_state c.self-2.inside.registry c.self-2.inside.listeners.live) c.self-2.inside.listeners.seats) c.args.mount c.in-Some.session.now
    c.session-2.inside.number (station_state c.finish.new.self c.self-2.inside.listeners.live)
    (sym (ap (λ (v : World). session_of v.station.live c.args.mount) c.self.view_is)
    ∙ sym (ap (λ (live : List Session). session_of live c.args.mount) c.parts.ensures) ∙ sym c.in-Some.ensures)
    (sym (ap (λ (x : Session). x.number) c.session-2.view_is)) (c.self-2.view_is ∙ c.end_session-counts.ensures.state)
    (ap (λ (registry : Registry). station_state registry c.self-2.inside.listeners.live) c.finish.ensures)
