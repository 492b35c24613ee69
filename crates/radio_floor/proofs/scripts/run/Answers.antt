use Rattle.std.proofs.Common.{ℕ, List, None, Some}
use Rattle.radio_floor.proofs.Words.{IfOk-weaker, Runs, IsTranscriptOf}
use Rattle.radio_floor.proofs.ServerSimulation.{server_conduct, server_runs}
use Rattle.radio_floor.proofs.scripts.run.Goals as goal

pub returns-clause-ok : goal.returns-clause-ok
returns-clause-ok c =
    IfOk-weaker c.run_with-transcript.result
    (λ text. Runs server_conduct c.new-server.result 1 c.args.deliveries.now text.items None c.run_with-transcript.new.performer)
    (λ text. IsTranscriptOf c.args.web c.args.settings c.args.lists c.args.deliveries.now text.items None)
    (λ text r. server_runs c.args.web c.new-server.result c.run_with-transcript.new.performer c.args.settings c.args.lists c.args.deliveries.now text.items None
    c.new-server.ensures.web c.new-server.ensures.core c.new-server.ensures.connections r)
    c.run_with-transcript.ensures.ok

pub returns-clause-delivery : goal.returns-clause-delivery
returns-clause-delivery c number e =
    let d : (text : List ℕ) × Runs server_conduct c.new-server.result 1 c.args.deliveries.now text (Some number) c.run_with-transcript.new.performer =
    c.run_with-transcript.ensures.delivery number e in (
      d.0,
      server_runs c.args.web c.new-server.result c.run_with-transcript.new.performer c.args.settings c.args.lists c.args.deliveries.now d.0
          (Some number) c.new-server.ensures.web c.new-server.ensures.core c.new-server.ensures.connections d.1,
    )
