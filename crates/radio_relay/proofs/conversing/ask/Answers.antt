use Rattle.std.proofs.Common.{Option, refl, subst, sym}
use Rattle.radio_relay.proofs.Words.{Event, running_pull, AsksIf}
use Rattle.radio_relay.proofs.conversing.ask.Goals as goal

pub returns-in-None-clause-ok : goal.returns-in-None-clause-ok
returns-in-None-clause-ok g c =
    let number = c.args.relay.now.number in
    let server = c.args.server.now in (
      running_pull number,
      subst (λ (e : Option Event). AsksIf g.S.Server.steps number e server (running_pull number) server) (sym c.in-None.is) (refl, refl),
      refl,
      refl,
    )
