use Rattle.std.proofs.Common.{◌∙◌}
use Rattle.std.proofs.lemmas.Result.{on_ok_weaker}
use Rattle.radio_tables.proofs.EntryLemmas.{placed_last}
use Rattle.radio_tables.proofs.table.Table.push.Goals as goal

pub returns-clause-ok : goal.returns-clause-ok
returns-clause-ok g c = on_ok_weaker c.insert.result (λ e. e ∙ placed_last
    g.R.Key.Ord.cmp g.met.R.Key.Ord.total g.R.Row.key g.R.Row.has_key g.met.R.Row.has_key_is
    c.args.row c.args.self.now c.requires) c.insert.ensures.ok
