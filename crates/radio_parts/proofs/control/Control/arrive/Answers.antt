use Rattle.std.proofs.Common.{◌≡◌, ◌==◌, false, ap, sym, subst, ◌∙◌}
use Rattle.radio_policy.specs.declared.facts.ArriveFacts.{ArriveFacts}
use Rattle.radio_parts.proofs.Words.{arrive_rows, verdict_in, largest_number, StationState}
use Rattle.radio_parts.proofs.Ways.{has_number_left}
use Rattle.radio_parts.proofs.control.Control.arrive.Goals as goal

pub admit_client-requires : goal.admit_client-requires
admit_client-requires c =
    let allows = ap (λ (facts : ArriveFacts). verdict_in (arrive_rows facts)) (sym c.arrive_facts-facts.ensures) ∙ sym c.judge.ensures ∙ c.in-Allow.is in
    let left = has_number_left c.station.result c.args.peer allows in
    subst (λ (h : StationState). (h.last_id == largest_number) ≡ false) c.station.ensures left
