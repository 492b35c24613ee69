use Rattle.std.proofs.Common.{ℕ, List, IfOk, subst, sym}
use Rattle.radio_floor.proofs.Words.{Input, Data, Title, PullsAs, ComesToRelay}
use Rattle.radio_floor.proofs.handler.Handler.pull.Goals as goal

pub returns-in-Data : goal.returns-in-Data
returns-in-Data c =
    let Comes = λ (input : Input). IfOk c.pull_in.result (λ ends. PullsAs c.args.self.now.core c.pull_in.new.self.core ends c.pull_in.new.pull
    (λ state label done. ComesToRelay state label c.args.pull.now input done)) in
    subst Comes (sym c.in-Data.is) (subst (λ (bytes : List ℕ). Comes (Data bytes)) c.as_slice.ensures c.pull_in.ensures)

pub returns-in-Room : goal.returns-in-Room
returns-in-Room c =
    subst (λ (input : Input). IfOk c.make_room.result (λ ends. PullsAs c.args.self.now.core c.make_room.new.self.core ends c.make_room.new.pull
    (λ state label done. ComesToRelay state label c.args.pull.now input done))) (sym c.in-Room.is) c.make_room.ensures

pub returns-in-Title : goal.returns-in-Title
returns-in-Title c =
    let Comes = λ (input : Input). IfOk c.name.result (λ ends. PullsAs c.args.self.now.core c.name.new.self.core ends c.name.new.pull
    (λ state label done. ComesToRelay state label c.args.pull.now input done)) in
    subst Comes (sym c.in-Title.is) (subst (λ (text : List ℕ). Comes (Title text)) c.as_slice-in-Title.ensures c.name.ensures)

pub returns-in-End : goal.returns-in-End
returns-in-End c =
    subst (λ (input : Input). IfOk c.hang_up.result (λ ends. PullsAs c.args.self.now.core c.hang_up.new.self.core ends c.args.pull.now
    (λ state label done. ComesToRelay state label c.args.pull.now input done))) (sym c.in-End.is) c.hang_up.ensures
