use Rattle.std.proofs.Common.{◌≡◌, ◌++◌, List, ℕ, Option, Some, sym, ap, ◌∙◌}
use Rattle.radio_floor.proofs.Words.{Arrive, reply_to, world_after, placed, State, Labelled, said, asking, Connection, taken_in, written_lines, by_label, performed_as}
use Rattle.radio_floor.proofs.script_server.ScriptServer.open.Goals as goal

pub returns-clause-opens : goal.returns-clause-opens
returns-clause-opens c =
    let bytes = c.as_slice.result.now in
    let state = c.in_ok-connection.state in
    let before = c.args.self.now.connections in (
      written_lines c.args.label bytes state,
      c.in_ok-push_lines.ensures,
      λ w stands.
          let a = c.in_ok-connection.ensures w stands in
          let reply = reply_to w (Arrive c.args.peer) in
          let later = world_after w (Arrive c.args.peer) in
          let out : bytes ≡ (said (asking c.args.self.now.web) reply).bytes =
          c.as_slice.ensures.value ∙ a.1 ∙ ap (λ (xs : List ℕ). xs ++ (said (asking c.args.self.now.web) reply).bytes) c.new-bytes.ensures.items in
          let row = λ (connection : Option Connection). let r : Labelled = record { label = c.args.label; connection = connection } in r in
          let listed : c.insert.new.self ≡ placed by_label (row (taken_in c.args.self.now.web c.args.peer reply)) before =
          c.in_ok-insert.ensures.ok ∙ ap (λ (connection : Option Connection). placed by_label (row connection) before) a.2 in
          let after = placed by_label (row (taken_in c.args.self.now.web c.args.peer reply)) before in (
            later,
            a.0,
            ap (λ (xs : List ℕ). performed_as (Some (written_lines c.args.label xs (said (asking c.args.self.now.web) reply).state)) later after) (sym out)
                ∙ ap (λ (e : State). performed_as (Some (written_lines c.args.label bytes e)) later after) (sym a.3)
                ∙ ap (λ (xs : List Labelled). performed_as (Some (written_lines c.args.label bytes state)) later xs) (sym listed),
          ),
    )
