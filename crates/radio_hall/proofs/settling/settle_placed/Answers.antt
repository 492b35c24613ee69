use Rattle.std.proofs.Common.{length, subst, sym, ap, ◌∙◌, arith}
use Rattle.radio_hall.proofs.Words.{IsPermutation, IsPermutation-sym, length_permutation, opening, all_stamps}
use Rattle.radio_hall.proofs.Settled.{counted, receipts_of_all}
use Rattle.radio_hall.proofs.settling.settle_placed.Goals as goal

pub returns-in-Ok-check_count-clause-settled : goal.returns-in-Ok-check_count-clause-settled
returns-in-Ok-check_count-clause-settled g c =
    let all = all_stamps c.args.passes.now in
    let moved = subst (λ xs. IsPermutation all xs) (sym c.as_slice.ensures.value ∙ c.in-Ok-check_count.ensures.same) c.requires.sorted in
    record {
      merges = c.in-Ok.ensures.merge;
      stand = c.requires.stand;
      once = IsPermutation-sym _ _ moved;
    }

pub returns-in-Ok-check_count-clause-total : goal.returns-in-Ok-check_count-clause-total
returns-in-Ok-check_count-clause-total g c =
    let all = all_stamps c.args.passes.now in
    omega (
      arith,
      c.len.ensures,
      c.in-Ok.history.ok.0,
      c.in-Ok-check_count.ensures.entries,
      ap length c.as_slice.ensures.value,
      length_permutation all c.args.sorted.items c.requires.sorted,
      receipts_of_all c.args.passes.now,
    )

pub returns-in-Ok-clause-fault : goal.returns-in-Ok-clause-fault
returns-in-Ok-clause-fault g c =
    let all = all_stamps c.args.passes.now in
    counted (opening c.args.settings c.args.lists) c.args.family.now.control.items c.args.family.now.mounts.items c.args.passes.now (length c.as_slice.result.now) c.in-Err-check_count.fault
    c.requires.stand c.requires.once c.requires.rise (c.in-Ok.history.items, c.in-Ok.ensures.run, c.in-Ok.ensures.merge)
    (ap length c.as_slice.ensures.value ∙ length_permutation all c.args.sorted.items c.requires.sorted ∙ receipts_of_all c.args.passes.now)
    c.in-Err-check_count.ensures.fault
