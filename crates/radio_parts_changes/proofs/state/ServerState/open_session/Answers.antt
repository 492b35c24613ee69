use Rattle.std.proofs.Common.{sym, subst, arith}
use Rattle.radio_parts_changes.proofs.Words.{length-map, Listening, hears_session, with_session_at, AreLive}
use Rattle.radio_parts_changes.proofs.PreparedSeats.{seats_changed}
use Rattle.radio_parts_changes.proofs.state.ServerState.open_session.Goals as goal

pub invariant_of-self : goal.invariant_of-self
invariant_of-self c =
    let before = c.self.inside.listeners in
    let many = length-map before.seats (hears_session c.args.mount c.args.number) in (
      seats_changed c.self.inside.registry.settings before c.give_session.new.self (with_session_at before.seats c.args.mount c.args.number) c.give_session.ensures
          (omega (arith, many)) c.self.invariant.0,
      subst (λ (l : Listening). AreLive c.self.inside.registry.live l.live) (sym c.give_session.ensures) c.self.invariant.1,
    )
