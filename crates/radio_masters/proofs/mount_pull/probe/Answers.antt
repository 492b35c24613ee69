use Rattle.std.proofs.Common.{Option, [], subst, sym}
use Rattle.radio_masters.proofs.Words.{Event, PullTurn, Comes, AsksAtMostIf, AsksIf}
use Rattle.radio_masters.proofs.AtMostEntries.{asked_at_most}
use Rattle.radio_masters.proofs.PullEntries.{asked_comes}
use Rattle.radio_masters.proofs.mount_pull.probe.Goals as goal

pub returns-in-Ok-clause-comes : goal.returns-in-Ok-clause-comes
returns-in-Ok-clause-comes g c =
    let steps = g.S.Server.steps in
    let relay = c.args.relay.now in
    let from = c.args.server.now in
    let to = c.ask.new.server in
    let (after, asks, stands, numbered) = c.in-Ok.ensures.ok in
    let draws = subst (λ (event : Option Event). AsksIf steps relay.number event from after to) c.room-draw.ensures asks in
    subst (λ (turn : PullTurn). Comes steps relay [] from turn c.ask.new.relay to) (sym c.turn_of.ensures)
    (asked_comes steps relay from c.in-Ok.state c.ask.new.relay to after draws stands numbered)

pub returns-in-Err-clause-comes : goal.returns-in-Err-clause-comes
returns-in-Err-clause-comes g c =
    let steps = g.S.Server.steps in
    let relay = c.args.relay.now in
    let from = c.args.server.now in
    let to = c.ask.new.server in
    asked_at_most steps g.S.Server.refuses relay from c.ask.new.relay to
    (subst (λ (event : Option Event). AsksAtMostIf steps g.S.Server.refuses relay.number event from c.ask.new.relay.number to) c.room-draw.ensures c.in-Err.ensures.err)
