use Rattle.std.proofs.lemmas.Result.{MatchResult-weaker}
use Rattle.toml.specs.View.{table_view}
use Rattle.radio_settings.proofs.DocumentLemmas.{reads_fault}
use Rattle.radio_settings.proofs.document.read_settings.Goals as goal

pub returns-clause-fault : goal.returns-clause-fault
returns-clause-fault c =
    MatchResult-weaker c.settings.result c.settings.ensures (λ settings _. tt)
    (λ fault known unlike. reads_fault c.args.text.now (table_view c.in_ok-document.document) fault c.in_ok-document.ensures.toml (known unlike))
