use Rattle.std.proofs.Common.{◌≡◌, ap, sym, ◌∙◌, true}
use Rattle.std.proofs.lemmas.Str.{IsUtf8-from_is_utf8}
use Rattle.radio_values.specs.MountName.{is_mount_name}
use Rattle.radio_values.proofs.NameLemmas.{name-is_utf8}
use Rattle.radio_values.proofs.mount_name.MountName.as_bytes.Goals as goal

pub returns-clause-utf8 : goal.returns-clause-utf8
returns-clause-utf8 c =
    let named : is_mount_name c.args.self.now ≡ true = ap is_mount_name (sym c.self.view_is) ∙ c.self.invariant.is_name in
    IsUtf8-from_is_utf8 c.args.self.now (name-is_utf8 c.args.self.now named)
