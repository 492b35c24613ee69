use Rattle.radio_admin.proofs.LawLemmas.{kind_of_path, path_of_kind}
use Rattle.radio_admin.proofs.laws.paths_name_commands.Goals as goal

pub returns : goal.returns
returns c = λ path kind. (path_of_kind path kind, kind_of_path path kind)
