use Rattle.radio_workers.proofs.Doings.{done_turn}
use Rattle.radio_workers.proofs.shift.Shift.serve_all.Goals as goal

pub returns-clause-does : goal.returns-clause-does
returns-clause-does g c =
    let before = c.args.self.now in
    done_turn g.S.SharedServer.steps g.S.SharedServer.refuses before.worker c.serve_turn.new.self c.serve_turn-2.new.self before.sources.items before.conns.items
    c.serve_turn.new.conns.items c.serve_turn-2.new.conns.items c.args.turn c.begins_round-news.result c.serve_turn.ensures c.serve_turn-2.ensures
