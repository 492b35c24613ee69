use Rattle.std.proofs.Common.{ℕ, List, ap, ◌∙◌}
use Rattle.toml.specs.Data.{get_member}
use Rattle.toml.specs.View.{table_view}
use Rattle.toml.proofs.Views.{table_get}
use Rattle.radio_keys.specs.Lookup.{value_at}
use Rattle.radio_keys.proofs.values.value_at.Goals as goal

pub returns : goal.returns
unfolding value_at
returns c =
    table_get c.get.result c.word.result.now c.args.table.now.entries c.get.ensures.value
    ∙ ap (λ (k : List ℕ). get_member k (table_view c.args.table.now)) c.word.ensures
