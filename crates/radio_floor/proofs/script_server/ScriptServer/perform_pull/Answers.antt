use Rattle.std.proofs.Common.{◌≡◌, Bool, Ok, Some, true, false, is_some, ap, subst, sym, ◌∙◌}
use Rattle.radio_floor.proofs.Words.{World, Represents, connection_of, connects, relay_named, script_state_of, performed_as}
use Rattle.radio_floor.proofs.ScriptStateLemmas.{new-label}
use Rattle.radio_floor.proofs.script_server.ScriptServer.perform_pull.Goals as goal

pub returns-in-Ok-true-clause-performs : goal.returns-in-Ok-true-clause-performs
returns-in-Ok-true-clause-performs c =
    let old = c.args.self.now in
    let new = c.connect.new.self in
    let label = c.args.label in
    let is_new : false ≡ is_some (connection_of old.connections label) = c.if-has_label.ensures in
    let is : c.connect.result ≡ Ok true = c.in-Ok-true.is ∙ ap (λ (b : Bool). Ok b) c.in-Ok-true.field-0-test in
    let does = c.connect.ensures.one is in (
      does.0,
      does.1,
      λ w stands. (
        w,
        subst (λ (core : World). Represents core w) (sym c.connect.ensures.core) stands,
        new-label (script_state_of w old.connections) label (connects (script_state_of w old.connections) label (relay_named w c.args.mount.now))
            (performed_as (Some does.0) w new.connections) is_new (does.2 w stands),
      ),
    )
