use Rattle.radio_admin.specs.Commands.{kind_in}
use Rattle.radio_admin.proofs.LawLemmas.{answered, asked, lacking, missing, no_command, no_kind}
use Rattle.radio_admin.proofs.laws.commands_are_exact.Goals as goal

pub returns-clause-command : goal.returns-clause-command
returns-clause-command c = λ path query command. (asked path query command, answered path query (kind_in command) command)

pub returns-clause-no_command : goal.returns-clause-no_command
returns-clause-no_command c = λ path query. (no_kind path query, no_command path query)

pub returns-clause-missing : goal.returns-clause-missing
returns-clause-missing c = λ path query kind mount. (lacking path query kind mount, missing path query kind mount)
