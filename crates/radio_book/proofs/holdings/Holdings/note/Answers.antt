use Rattle.std.proofs.Common.{arith}
use Rattle.radio_book.proofs.Newcomers.{enough_noted, noted}
use Rattle.radio_book.proofs.holdings.Holdings.note.Goals as goal

pub invariant_of-self-clause-here : goal.invariant_of-self-clause-here
invariant_of-self-clause-here g c =
    let self = c.args.self.now in
    noted self.receipts.items c.push_reserved.new.self.items c.args.receipt self.present.items c.come_and_go.new.present.items c.leaver_in-leaver.result
    c.newcomer_in-newcomer.result self.here c.push_reserved.ensures.items c.leaver_in-leaver.ensures
    c.newcomer_in-newcomer.ensures c.come_and_go.ensures.present

pub invariant_of-self-clause-room : goal.invariant_of-self-clause-room
invariant_of-self-clause-room g c =
    let self = c.args.self.now in
    let e =
    enough_noted c.args.receipt self.present.items c.come_and_go.new.present.items c.leaver_in-leaver.result c.newcomer_in-newcomer.result
    c.leaver_in-leaver.ensures c.newcomer_in-newcomer.ensures c.come_and_go.ensures.present in
    omega (arith, e, self.present.ok.0, c.come_and_go.new.present.ok.0, c.push_reserved.ensures.len, c.push_reserved.ensures.capacity, c.requires.room)

pub returns-clause-enough : goal.returns-clause-enough
returns-clause-enough g c =
    let self = c.args.self.now in
    let e =
    enough_noted c.args.receipt self.present.items c.come_and_go.new.present.items c.leaver_in-leaver.result c.newcomer_in-newcomer.result
    c.leaver_in-leaver.ensures c.newcomer_in-newcomer.ensures c.come_and_go.ensures.present in
    omega (arith, e, self.present.ok.0, c.come_and_go.new.present.ok.0, c.come_and_go.ensures.reserved)
