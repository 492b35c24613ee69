use Rattle.std.proofs.Common.{ap, sym, subst, ◌∙◌}
use Rattle.radio_parts_table.proofs.Words.{find, option_copied, is_silent, ByMount}
use Rattle.radio_parts_table.proofs.LiveLemmas.{LiveRises, live_rises}
use Rattle.radio_parts_table.proofs.AskedSessions.{first_in, session_in}
use Rattle.radio_parts_table.proofs.parts.MountParts.first_silent.Goals as goal

pub returns-clause-first : goal.returns-clause-first
returns-clause-first c =
    c.session.ensures
    ∙ sym (ap session_in (sym c.silent_part.ensures ∙ ap option_copied c.in-Some.is))
    ∙ first_in (is_silent c.args.seconds c.args.now) c.self.inside.parts
    ∙ ap (λ (parts : ByMount). find (is_silent c.args.seconds c.args.now) parts.live) c.self.view_is

pub returns-in_default-clause-first : goal.returns-in_default-clause-first
returns-in_default-clause-first c =
    sym (ap session_in (sym c.silent_part.ensures ∙ ap option_copied c.in_default.is))
    ∙ first_in (is_silent c.args.seconds c.args.now) c.self.inside.parts
    ∙ ap (λ (parts : ByMount). find (is_silent c.args.seconds c.args.now) parts.live) c.self.view_is

pub returns-clause-rising : goal.returns-clause-rising
returns-clause-rising c =
    subst (λ (parts : ByMount). LiveRises parts.live) c.self.view_is (live_rises c.self.inside.parts c.self.invariant.1 c.len.ensures.rising)

pub returns-in_default-clause-rising : goal.returns-in_default-clause-rising
returns-in_default-clause-rising c =
    subst (λ (parts : ByMount). LiveRises parts.live) c.self.view_is (live_rises c.self.inside.parts c.self.invariant.1 c.len.ensures.rising)
