use Rattle.std.proofs.Common.{◌≡◌, ap, sym, ◌∙◌}
use Rattle.radio_floor.proofs.Words.{IfOk-weaker, State, core_steps, AsksIf, Pulling, NumberedState, PullsAs, script_state_of, AsksOn, pulled_on}
use Rattle.radio_floor.proofs.handler.Handler.ask.Goals as goal

pub returns : goal.returns
returns c =
    let old = c.args.self.now.core in
    let new = c.ask.new.server in
    let before = c.args.pull.now in
    let now = c.ask.new.relay in
    IfOk-weaker c.ask.result
    (λ ends. (after : NumberedState) × AsksIf core_steps before.number c.args.event old after new × (ends ≡ after.state)
    × (now ≡ record before { number = after.number }))
    (λ ends. PullsAs old new ends now (λ state label done. AsksOn state label before c.args.event done))
    (λ ends asked w stands.
    let d = c.cores_pull_as_their_states.ensures.asks before.number c.args.event asked.0 old new asked.1 w stands in (
      d.0,
      d.1,
      λ connections label. (
        asked.0,
        d.0,
        d.2,
        ap (λ (x : Pulling). pulled_on (script_state_of w connections) label x asked.0.state d.0) (sym asked.3)
            ∙ ap (λ (x : State). pulled_on (script_state_of w connections) label now x d.0) (sym asked.2),
      ),
    ))
    c.ask.ensures.ok
