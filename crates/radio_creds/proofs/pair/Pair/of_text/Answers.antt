use Rattle.radio_creds.proofs.ColonLemmas.{of_text-some}
use Rattle.radio_creds.proofs.pair.Pair.of_text.Goals as goal

pub invariant_of-result : goal.invariant_of-result
invariant_of-result c =
    (of_text-some c.cuts.ensures.first c.args.text.items c.in_ok-colon.colon (rw c.as_slice.ensures.value at c.in_ok-colon.ensures)).0

pub returns : goal.returns
returns c =
    (of_text-some c.cuts.ensures.first c.args.text.items c.in_ok-colon.colon (rw c.as_slice.ensures.value at c.in_ok-colon.ensures)).1
