use Rattle.std.proofs.Common.{true, false, ◌∙◌}
use Rattle.radio_addr.specs.Addresses.{groups_of}
use Rattle.radio_addr.proofs.CountsLemmas.{shortened_read, counted}
use Rattle.radio_addr.proofs.groups.read_shortened.Goals as goal

pub returns-in_err-front : goal.returns-in_err-front
returns-in_err-front c =
    let back = groups_of true c.args.back.now in
    rw c.from_residual.ensures (shortened_read (groups_of false c.args.front.now) back _ (counted back) c.in_err-front.ensures (λ i. counted back))

pub returns-in_err-back : goal.returns-in_err-back
returns-in_err-back c =
    rw c.from_residual-in_err-back.ensures (shortened_read (groups_of false c.args.front.now)
    (groups_of true c.args.back.now) _ _ c.in_ok-front.ensures c.in_err-back.ensures)

pub returns : goal.returns
returns c =
    c.number_with_zeros.ensures
    ∙ shortened_read (groups_of false c.args.front.now) (groups_of true c.args.back.now) _ _ c.in_ok-front.ensures c.in_ok-back.ensures
