use Rattle.std.proofs.Common.{◌≡◌, Option, IfOk, ap, sym, subst, ◌∙◌}
use Rattle.radio_policy.specs.declared.facts.CommandFacts.{CommandFacts}
use Rattle.radio_parts.proofs.Words.{Verdict, Allow, command_rows, verdict_in, CommandRequest, Answer, facts_asked, rows_to_command, World, world, Outcome, does_asked, on_verdict, uncounted}
use Rattle.radio_policy.specs.declared.judgement.Verdict.TheVariants.{Deny as Denied}
use Rattle.radio_parts.proofs.LentState.{lent_state}
use Rattle.radio_parts.proofs.control.Control.judged.Goals as goal

-- the outcome of the command by the verdict
abbrev come_of : World → CommandRequest → Verdict → Outcome
come_of w asked verdict = uncounted (on_verdict verdict (Answer asked.id) (does_asked w asked.id asked.asked))

-- the policy judges by the facts of the station and the listeners that are lent
verdict_is : (w lent : World) (asked : CommandRequest) (facts : Option CommandFacts) (verdict : Verdict) → lent ≡ w
    → facts ≡ facts_asked lent asked.asked asked.pair → verdict_in (command_rows facts) ≡ verdict → verdict_in (rows_to_command w asked) ≡ verdict
verdict_is w lent asked facts verdict is_same looked_up said =
    ap (λ (f : Option CommandFacts). verdict_in (command_rows f)) (sym (looked_up ∙ ap (λ (v : World). facts_asked v asked.asked asked.pair) is_same)) ∙ said

pub returns-in-Deny : goal.returns-in-Deny
returns-in-Deny c =
    let w = c.args.self.now in
    let station = c.station.result in
    let seats = c.seats.result.now.seats in
    c.refused.ensures
    ∙ sym (ap (come_of w c.args.asked) (verdict_is w (world station seats) c.args.asked c.command_facts-facts.result (Denied c.in-Deny.rule)
    (lent_state w station seats c.station.ensures c.seats.ensures.seats) (rw (← c.as_ref.ensures.value) c.command_facts-facts.ensures)
    (sym c.judge.ensures ∙ c.in-Deny.is)))

pub returns-in-Allow : goal.returns-in-Allow
returns-in-Allow c =
    let w = c.args.self.now in
    let station = c.station.result in
    let seats = c.seats.result.now.seats in
    subst (λ (verdict : Verdict). IfOk c.allowed.result (λ o. o ≡ come_of w c.args.asked verdict))
    (sym (verdict_is w (world station seats) c.args.asked c.command_facts-facts.result Allow (lent_state w station seats c.station.ensures c.seats.ensures.seats)
    (rw (← c.as_ref.ensures.value) c.command_facts-facts.ensures) (sym c.judge.ensures ∙ c.in-Allow.is))) c.allowed.ensures
