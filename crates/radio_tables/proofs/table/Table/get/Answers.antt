use Rattle.std.proofs.Common.{ap, ◌∙◌, find}
use Rattle.radio_tables.proofs.EntryLemmas.{lookup_finds}
use Rattle.radio_tables.proofs.table.Table.get.Goals as goal

pub returns : goal.returns
returns g c =
    c.get.ensures.value
    ∙ lookup_finds g.R.Key.Ord.cmp g.met.R.Key.Ord.total g.R.Row.key g.R.Row.has_key g.met.R.Row.has_key_is
    c.args.key.now c.self.inside.rows.entries c.self.invariant.own
    ∙ ap (find (g.R.Row.has_key c.args.key.now)) c.self.view_is
