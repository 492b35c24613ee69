use Rattle.std.proofs.Common.{ap, ◌∙◌}
use Rattle.radio_parts_table.proofs.Words.{earliest, last_moment, session_due, ByMount}
use Rattle.radio_parts_table.proofs.AskedSessions.{earliest_in}
use Rattle.radio_parts_table.proofs.parts.MountParts.first_session_due.Goals as goal

pub returns : goal.returns
returns c =
    c.earliest_due.ensures
    ∙ earliest_in c.args.seconds c.self.inside.parts last_moment
    ∙ ap (λ (parts : ByMount). earliest (session_due c.args.seconds) parts.live) c.self.view_is
