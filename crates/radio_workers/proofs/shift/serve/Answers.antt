use Rattle.std.proofs.Common.{List, [], subst, ◌∙◌}
use Rattle.radio_workers.proofs.Words.{Connection, WorkerHasDone, shift_of}
use Rattle.radio_workers.proofs.shift.serve.Goals as goal

pub returns-clause-worked : goal.returns-clause-worked
returns-clause-worked g c =
    let steps = g.S.SharedServer.steps in
    let refuses = g.S.SharedServer.refuses in
    let new = c.new-shift.result in
    let last = c.make_turns.new.self in
    let ends = shift_of last.worker last.sources.items last.conns.items in
    record {
      worker = new.worker;
      server = c.new-shift.ensures.server ∙ c.new-watched.ensures;
      answers = c.new-shift.ensures.web;
      ends = ends;
      done = subst (λ (conns : List Connection). WorkerHasDone steps refuses (shift_of new.worker [] conns) ends) c.new-shift.ensures.nobody.1
          (subst (λ (sources : List Connection). WorkerHasDone steps refuses (shift_of new.worker sources new.conns.items) ends) c.new-shift.ensures.nobody.0
          c.make_turns.ensures.does);
      between = c.end.ensures.0;
      left = c.end.ensures.1;
      sources_leave = c.end.ensures.2;
      others_leave = c.end.ensures.3;
      comes_back = c.end.ensures.4;
    }
