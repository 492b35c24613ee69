use Rattle.std.proofs.Common.{◌∙◌, ap, ℕ, suc, List, ◌++◌, take}
use Rattle.radio_masters.proofs.Words.{Calls, PullOver}
use Rattle.radio_masters.proofs.Called.{called_on, turn_with_bytes}
use Rattle.radio_masters.proofs.mount_pull.MountPull.turn.Goals as goal

pub returns-in-Bytes : goal.returns-in-Bytes
returns-in-Bytes g c =
    let bytes : List ℕ = take c.in-Bytes.count c.read.new.buffer in
    let inside = c.self.inside in
    let before : PullOver = record {
      relay = inside.relay;
      outgoing = inside.asking;
      given = g.L.Line.given inside.line;
      taken = g.L.Line.taken inside.line;
      calls = g.L.Line.calls inside.line;
      front = inside.front.items;
    } in
    let after : PullOver = record {
      relay = c.keep_and_apply.new.relay;
      outgoing = c.write.new.self;
      given = g.L.Line.given c.read.new.self;
      taken = g.L.Line.taken c.read.new.self;
      calls = g.L.Line.calls c.read.new.self;
      front = c.keep_and_apply.new.front.items;
    } in
    let written = c.write.ensures.written in
    turn_with_bytes g.S.Server.steps c.args.self.now before after bytes c.args.server.now c.keep_and_apply.new.server c.keep_and_apply.result c.self.view_is
    (record { part = written.part; front = written.front; took = c.read.ensures.taken ∙ written.took })
    (c.in-Bytes.ensures.given.1 ∙ ap (λ (xs : List ℕ). xs ++ bytes) c.write.ensures.given) c.keep_and_apply.ensures.comes
    (called_on c.keep_and_apply.result before.calls after.calls c.keep_and_apply.ensures.goes
    (ap (λ (k : Calls). k.reads) c.in-Bytes.ensures.calls ∙ ap (λ (n : ℕ). suc n) c.if-not-write.ensures.borne.0))
    c.keep_and_apply.ensures.front
