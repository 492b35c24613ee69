use Rattle.std.proofs.Common.{refl}
use Rattle.radio_floor.proofs.handler.Handler.hang_up.Goals as goal

pub returns : goal.returns
returns c w stands =
    let d = c.cores_pull_as_their_states.ensures.goes c.args.pull.now.number c.args.self.now.core c.close.new.server c.in_ok-close.ensures.down w stands in
    (d.0, d.1, λ connections label. (d.0, d.2, refl))
