use Rattle.std.proofs.Common.{◌≡◌, Some, false, is_some}
use Rattle.radio_floor.proofs.Words.{connection_of, opens_connection, script_state_of, performed_as, OpensAs}
use Rattle.radio_floor.proofs.ScriptStateLemmas.{new-label}
use Rattle.radio_floor.proofs.script_server.ScriptServer.perform_open.Goals as goal

pub returns-in-Ok-clause-performs : goal.returns-in-Ok-clause-performs
returns-in-Ok-clause-performs c =
    let old = c.args.self.now in
    let new = c.open.new.self in
    let label = c.args.label in
    let is_new : false ≡ is_some (connection_of old.connections label) = c.if-has_label.ensures in
    let does : OpensAs old.web old.handler.core old.connections label c.args.peer c.args.lines.now.items new.handler.core new.connections c.open.new.lines.items =
    c.in-Ok.ensures.opens in (
      does.0,
      does.1,
      λ w stands.
          let d = does.2 w stands in (
            d.0,
            d.1,
            new-label (script_state_of w old.connections) label (opens_connection old.web (script_state_of w old.connections) label c.args.peer)
                (performed_as (Some does.0) d.0 new.connections) is_new d.2,
          ),
    )
