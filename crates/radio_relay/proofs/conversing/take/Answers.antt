use Rattle.std.proofs.Common.{◌≡◌, ◌≢◌, ap, subst}
use Rattle.std.proofs.lemmas.Result.{IfOk-weaker}
use Rattle.radio_relay.proofs.Words.{OutOfMemory, PullStage, stops, Shut, Pulling, GoesDown, Takes}
use Rattle.radio_events.specs.declared.state.Ending.TheVariants.{BadPull}
use Rattle.radio_relay.proofs.conversing.take.Goals as goal

pub returns-in-Err-clause-ok : goal.returns-in-Err-clause-ok
returns-in-Err-clause-ok g c =
    let steps = g.S.Server.steps in
    let fault = c.in-Err.fault in
    let inside = c.relay.inside in
    let bytes = c.args.bytes.now in
    let from = c.args.server.now in
    let to = c.give_up.new.server in
    let with_stage = λ (stage : PullStage). let p : Pulling = record { mount = inside.mount; number = inside.number; stage = stage } in p in
    let after = with_stage c.feed.new.self in
    IfOk-weaker c.give_up.result
    (λ state. (fault ≢ OutOfMemory) × GoesDown steps inside.number from to × (state ≡ Shut BadPull))
    (λ state. Takes steps c.args.relay.now bytes from after state to)
    (λ state given.
    subst (λ (p : Pulling). Takes steps p bytes from after state to) c.relay.view_is
    (stops fault, c.in-Err.ensures.fault given.0, (given.1, given.2, ap with_stage c.in-Err.ensures.fails)))
    c.give_up.ensures.ok
