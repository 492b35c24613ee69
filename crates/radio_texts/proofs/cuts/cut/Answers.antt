use Rattle.std.proofs.Common.{sym, ap, ◌∙◌}
use Rattle.radio_texts.specs.Cuts.{fields_by}
use Rattle.radio_texts.proofs.CutsLemmas.{fields_at-cut}
use Rattle.radio_texts.proofs.cuts.cut.Goals as goal

pub returns-clause-fields : goal.returns-clause-fields
returns-clause-fields c =
    fields_at-cut c.args.at c.args.text.now
    ∙ ap (fields_by c.args.at c.args.text.now) (sym c.first_cut.ensures.parts)
