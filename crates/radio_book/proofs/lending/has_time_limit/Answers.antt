use Rattle.std.proofs.Common.{sym, ◌∙◌, rules, tests}
use Rattle.std.proofs.lemmas.Iterator.{YieldsList-from_slice}
use Rattle.std.proofs.lemmas.Iterator.Search.{any_from_yields_List}
use Rattle.radio_book.proofs.Words.{MountSetting}
use Rattle.radio_book.proofs.ClockLemmas.{limits, never_due}
use Rattle.radio_book.proofs.lending.has_time_limit.Goals as goal

pub returns-else-limits_time : goal.returns-else-limits_time
returns-else-limits_time c none seat =
    let settings = c.args.settings.now in
    let listed =
    any_from_yields_List (λ (m : MountSetting). limits m.options) _ _ c.any.result c.any.ensures.ran (YieldsList-from_slice settings.mounts cc)
    (λ x b q k. search (rules, tests)) in
    never_due settings seat (sym c.limits_time.ensures ∙ c.if-limits_time.false) (sym listed ∙ none)
