use Rattle.std.proofs.Common.{◌≡◌, ℕ, ◌-◌, ◌*◌, ◌^◌, ◌≤◌, arith, ap, ◌∙◌}
use Rattle.std.proofs.lemmas.Grind.{pow_more}
use Rattle.radio_addr.proofs.CountsLemmas.{pow_room, shifted_more, sum_fits}
use Rattle.radio_addr.proofs.groups.Groups.number_with_zeros.Goals as goal

pub overflow_mul-number : goal.overflow_mul-number
overflow_mul-number c = omega (arith, pow_room c.loop-place._place c.loop-place-test.true, c.loop-place.invariant.1)

pub loop-place-preserved : goal.loop-place-preserved
loop-place-preserved c =
    let from : c.args.self.count ≤ c.loop-place._place = omega (arith, c.args.self.few) in (
      ap (λ (n : ℕ). n * 65536) c.loop-place.invariant.0 ∙ shifted_more c.args.self.number c.args.self.count c.loop-place._place from,
      omega (arith, pow_more 65536 c.loop-place._place, c.loop-place.invariant.1),
    )

pub overflow_add-result : goal.overflow_add-result
overflow_add-result c =
    let end : c.loop-place._place ≡ 8 = omega (arith, c.args.self.few) in
    let shifted : c.loop-place.number ≡ c.args.self.number * 65536 ^ (8 - c.args.self.count) =
    c.loop-place.invariant.0 ∙ ap (λ (i : ℕ). c.args.self.number * 65536 ^ (i - c.args.self.count)) end in
    omega (
      arith,
      shifted,
      sum_fits c.args.self.number c.args.self.count c.args.back.number c.args.back.count c.args.self.small c.args.back.small
          (omega arith),
    )
