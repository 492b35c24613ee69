use Rattle.std.proofs.Common.{◌≡◌, ◌++◌, subst}
use Rattle.radio_floor.proofs.Words.{IfOk-weaker, World, Arrive, Represents, reply_to, world_after, Reply, asking, said, taken_in}
use Rattle.radio_floor.proofs.script_server.arrive.Goals as goal

pub returns : goal.returns
returns c =
    let peer = c.args.peer in
    let web = c.args.web in
    let reply = c.in_ok-reply.reply in
    let old = c.args.out.now.items in
    let new = c.answer_arrival.new.out.items in
    IfOk-weaker c.answer_arrival.result
    (λ arrived. (new ≡ old ++ (said (asking web) reply).bytes) × (arrived.0 ≡ taken_in web peer reply) × (arrived.1 ≡ (said (asking web) reply).state))
    (λ arrived. (w : World) → Represents c.args.core.now w →
    let written = said (asking web) (reply_to w (Arrive peer)) in
    Represents c.step.new.self (world_after w (Arrive peer)) × (new ≡ old ++ written.bytes)
    × (arrived.0 ≡ taken_in web peer (reply_to w (Arrive peer))) × (arrived.1 ≡ written.state))
    (λ arrived appended w stands.
    let s = c.in_ok-reply.ensures.step w stands in
    let after = subst (λ (x : World). Represents c.step.new.self x) s.1.1 s.2 in
    subst (λ (r : Reply).
    Represents c.step.new.self (world_after w (Arrive peer)) × (new ≡ old ++ (said (asking web) r).bytes) × (arrived.0 ≡ taken_in web peer r)
    × (arrived.1 ≡ (said (asking web) r).state))
    s.1.0 (after, appended.0, appended.1, appended.2))
    c.answer_arrival.ensures
