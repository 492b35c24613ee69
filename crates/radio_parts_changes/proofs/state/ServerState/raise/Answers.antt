use Rattle.std.proofs.Common.{ap}
use Rattle.radio_parts_changes.proofs.Words.{Registry, opened}
use Rattle.radio_parts_changes.proofs.BegunSessions.{is_ready, session_begins}
use Rattle.radio_parts_changes.proofs.state.ServerState.raise.Goals as goal

pub raise-requires : goal.raise-requires
raise-requires c = is_ready c.self.inside.listeners c.prepare.new.self c.args.mount c.in_ok-prepare.ensures.prepared

pub invariant_of-self-in-Ok : goal.invariant_of-self-in-Ok
invariant_of-self-in-Ok c =
    let registry = c.self.inside.registry in
    let after = c.in-Ok.ensures in
    session_begins registry.settings c.raise.new.self.settings registry.live c.raise.new.self.live c.self.inside.listeners c.prepare.new.self
    c.raise.new.seats (opened c.args.mount c.args.id c.args.shown registry.time) c.prepare.ensures.seats c.prepare.ensures.live
    c.in_ok-prepare.ensures.prepared (ap (λ (k : Registry). k.settings) after.ok) (ap (λ (k : Registry). k.live) after.ok) after.seats
    c.self.invariant.0 c.self.invariant.1
