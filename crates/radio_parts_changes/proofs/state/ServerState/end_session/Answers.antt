use Rattle.std.proofs.Common.{refl, ap}
use Rattle.radio_parts_changes.proofs.Words.{Listening, one_ended, Registry, ended_prepared, without_session}
use Rattle.radio_parts_changes.proofs.PreparedSeats.{live_changed}
use Rattle.radio_parts_changes.proofs.state.ServerState.end_session.Goals as goal

pub invariant_of-self : goal.invariant_of-self
invariant_of-self c =
    let registry = c.self.inside.registry in
    let before = c.self.inside.listeners in
    let live = without_session before.live c.args.mount in (
      live_changed registry.settings c.end_session.new.self.settings before c.close.new.self live (ap (λ (k : Registry). k.settings) c.end_session.ensures)
          c.close.ensures (ended_prepared before.live live before.prepared c.args.mount refl c.self.invariant.0.0) c.self.invariant.0.1,
      one_ended registry.live c.end_session.new.self.live before.live c.close.new.self.live c.self.invariant.1 c.args.mount
          (ap (λ (k : Registry). k.live) c.end_session.ensures) (ap (λ (l : Listening). l.live) c.close.ensures),
    )
