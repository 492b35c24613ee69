use Rattle.radio_tables.proofs.KeyLaws.{find_placed}
use Rattle.radio_tables.proofs.laws.a_placed_row_is_found.Goals as goal

pub returns : goal.returns
returns g c = λ key row rows. find_placed g.R.Key.Ord.cmp g.met.R.Key.Ord.total g.R.Row.key g.R.Row.has_key g.met.R.Row.has_key_is key row rows
