use Rattle.radio_floor.proofs.Words.{Plays, Writes, PlaysScript}
use Rattle.radio_floor.proofs.ServerSimulation.{server_conduct, server_plays}
use Rattle.radio_floor.proofs.Weakened.{known-weaker, writes-weaker}
use Rattle.radio_floor.proofs.scripts.play.Goals as goal

pub returns-clause-plays : goal.returns-clause-plays
returns-clause-plays g c =
    let server = c.new-server.result in
    let last = c.play_with-played.new.performer in
    let result = c.play_with-played.result in
    let remaining = g.R.Read.remaining in
    let contents = g.W.Write.contents in
    let calls = g.W.Counted.calls in
    let old = c.args.writer.now in
    let new = c.play_with-played.new.writer in
    known-weaker (remaining c.args.reader.now) (remaining c.play_with-played.new.reader)
    (λ script left. Writes (contents old) (contents new) (calls old) (calls new)
    (λ written turns. Plays server_conduct server 1 script left result written turns last))
    (λ script left. Writes (contents old) (contents new) (calls old) (calls new)
    (λ written turns. PlaysScript c.args.web c.args.settings c.args.lists script left result written turns))
    (λ script left. writes-weaker (contents old) (contents new) (calls old) (calls new)
    (λ written turns. Plays server_conduct server 1 script left result written turns last)
    (λ written turns. PlaysScript c.args.web c.args.settings c.args.lists script left result written turns)
    (λ written turns. server_plays c.args.web server last c.args.settings c.args.lists script left result written turns c.new-server.ensures.web c.new-server.ensures.core
    c.new-server.ensures.connections))
    c.play_with-played.ensures.plays
