use Rattle.std.proofs.Common.{refl}
use Rattle.radio_floor.proofs.Words.{IfOk-weaker, Data, core_steps, Takes, PullsAs, ComesToRelay}
use Rattle.radio_floor.proofs.handler.Handler.pull_in.Goals as goal

pub returns : goal.returns
returns c =
    let old = c.args.self.now.core in
    let new = c.take.new.server in
    let before = c.args.pull.now in
    let after = c.take.new.relay in
    let bytes = c.args.bytes.now in
    IfOk-weaker c.take.result
    (λ ends. Takes core_steps before bytes old after ends new)
    (λ ends. PullsAs old new ends after (λ state label done. ComesToRelay state label before (Data bytes) done))
    (λ ends takes w stands.
    let d = c.cores_pull_as_their_states.ensures.takes before after bytes ends old new takes w stands in
    (d.0, d.1, λ connections label. (after, ends, d.0, d.2, refl)))
    c.take.ensures.ok
