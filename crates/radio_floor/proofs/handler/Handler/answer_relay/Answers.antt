use Rattle.std.proofs.Common.{ℕ, List, Some, ap, sym, subst}
use Rattle.radio_floor.proofs.Words.{Relay, performed_as, script_state_of, ComesToRelay, Performed, kept_unless, written_lines, with_connection}
use Rattle.radio_floor.proofs.handler.Handler.answer_relay.Goals as goal

pub returns : goal.returns
returns c w stands =
    let ends = c.in_ok-state.state in
    let a = c.in_ok-state.ensures w stands in (
      a.0,
      a.1,
      λ connections label.
          let performed = λ (bytes : List ℕ). performed_as (Some (written_lines label bytes ends)) a.0
          (with_connection connections label (kept_unless (Relay c.pull.new.pull) ends)) in
          subst (λ (done : Performed). ComesToRelay (script_state_of w connections) label c.args.pull.now c.args.input.now done)
          (ap performed (sym c.new.ensures.items)) (a.2 connections label),
    )
