use Rattle.std.proofs.Common.{None, Some, option_copied, take, ap, ◌∙◌}
use Rattle.radio_heads.proofs.HeaderLemmas.{value-found}
use Rattle.radio_heads.proofs.headers.Headers.value.Goals as goal

pub returns-in_err-header : goal.returns-in_err-header
returns-in_err-header c =
    ap option_copied c.from_residual.ensures
    ∙ value-found c.self.inside.front.now c.args.name.now c.as_bytes.result.now (take c.self.inside.count c.self.inside.spans) c.args.self.now
    None c.in_err-header.ensures.first c.as_bytes.ensures.value c.self.view_is

pub returns : goal.returns
returns c =
    ap Some c.of.ensures
    ∙ value-found c.self.inside.front.now c.args.name.now c.as_bytes.result.now (take c.self.inside.count c.self.inside.spans) c.args.self.now
    (Some c.in_ok-header.header.now) c.in_ok-header.ensures.first c.as_bytes.ensures.value c.self.view_is
