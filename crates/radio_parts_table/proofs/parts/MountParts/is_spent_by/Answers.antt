use Rattle.std.proofs.Common.{◌≡◌, ℕ, ◌+◌, ◌-◌, ◌<◌, ◌≤◌, ◌^◌, false, true, Option, Some, None, sym, subst, ◌∙◌, arith}
use Rattle.radio_parts_table.proofs.Words.{nat_lt, is_some, SomeIff, nat_tests, ends_in, end_within, ByMount, live_in}
use Rattle.radio_parts_table.proofs.parts.MountParts.is_spent_by.Goals as goal

-- what fits behind the furthest end fits behind each
fits_too : (sum : Option ℕ) (furthest end more : ℕ) → end ≤ furthest → SomeIff sum (furthest + more < 2 ^ 64) (furthest + more) → is_some sum ≡ true
    → false ≡ nat_lt (2 ^ 64 - 1) (end + more)
fits_too None furthest end more within fits some = cc
fits_too (Some all) furthest end more within fits some = let sum : end + more < 2 ^ 64 = omega (arith, within, fits.0) in grind (arith, nat_tests, sum)

pub returns-then-is_some : goal.returns-then-is_some
returns-then-is_some c =
    subst (λ (parts : ByMount). false ≡ nat_lt (2 ^ 64 - 1) (ends_in parts.live c.args.mount.now + c.args.more)) c.self.view_is
    (fits_too c.checked_add.result c.self.inside.furthest (ends_in (live_in c.self.inside.parts) c.args.mount.now) c.args.more
    (end_within c.self.inside.furthest (live_in c.self.inside.parts) c.self.invariant.0 c.args.mount.now) c.checked_add.ensures
    (sym c.is_some.ensures ∙ c.if-is_some.true))
