use Rattle.std.proofs.Common.{sym, ◌∙◌, arith}
use Rattle.std.proofs.lemmas.Grind.{common_steps}
use Rattle.radio_log.proofs.RunLemmas.{shown_run, shown_plain}
use Rattle.radio_log.proofs.shown.push_shown.Goals as goal

pub runs-preserved : goal.runs-preserved
runs-preserved c =
    let run = shown_run c.runs.rest.now c.in-Some.at 0 (sym c.first_encoded.ensures ∙ c.in-Some.is) in
    grind (arith, common_steps, run)

pub returns : goal.returns
returns c =
    let plain = shown_plain c.runs.rest.now (sym c.first_encoded.ensures ∙ c.in_default.is) in
    grind (arith, common_steps, plain)
