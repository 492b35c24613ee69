use Rattle.std.proofs.Common.{refl, sym, ap, ◌∙◌}
use Rattle.std.proofs.lemmas.Slice.Eq.{bytes_eq-Decides}
use Rattle.radio_admin.specs.declared.command.Command.TheVariants as read
use Rattle.radio_admin.specs.declared.kind.CommandKind.TheVariants as kind
use Rattle.radio_admin.proofs.LawLemmas.{answered}
use Rattle.radio_session.specs.Commands.{asked_by}
use Rattle.radio_session.proofs.session.commands.asked_in.Goals as goal

pub returns-then-eq : goal.returns-then-eq
returns-then-eq c =
    let same = (bytes_eq-Decides c.args.path.now c.as_bytes.result.now).0 (sym c.eq.ensures ∙ c.if-eq.true) in
    sym (ap asked_by (answered c.args.path.now c.args.query.now kind.Status read.Status (record {
      path_is = same ∙ c.as_bytes.ensures.value ∙ c.path.ensures;
      arguments = refl;
    })))
