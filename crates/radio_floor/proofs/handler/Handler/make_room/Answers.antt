use Rattle.std.proofs.Common.{IfOk, Option, subst}
use Rattle.radio_floor.proofs.Words.{Event, PullsAs, AsksOn}
use Rattle.radio_floor.proofs.handler.Handler.make_room.Goals as goal

pub returns : goal.returns
returns c =
    subst (λ (e : Option Event). IfOk c.ask.result (λ ends. PullsAs c.args.self.now.core c.ask.new.self.core ends c.ask.new.pull
    (λ state label done. AsksOn state label c.args.pull.now e done))) c.room-event.ensures c.ask.ensures
