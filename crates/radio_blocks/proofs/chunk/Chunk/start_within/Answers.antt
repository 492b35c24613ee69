use Rattle.std.proofs.Common.{◌≡◌, ◌-◌, ◌∙◌, ap, sym, arith, ℕ, Bool, List, length, subst, nat_le, find}
use Rattle.std.specs.Prelude.{Option}
use Rattle.std.specs.List.{concat}
use Rattle.radio_blocks.specs.Chunk.{blocks_in, Fit, cut_by}
use Rattle.radio_blocks.specs.Queue.{starts_from}
use Rattle.radio_blocks.proofs.ChunkLemmas.{blocks_in-concat, starts_from-cut}
use Rattle.radio_blocks.proofs.chunk.Chunk.start_within.Goals as goal

pub start_within-requires : goal.start_within-requires
start_within-requires c =
    let bytes = c.self.inside.bytes in
    let fit = subst (λ (sizes : Option (List ℕ)). Fit sizes bytes) c.in-Some.is c.self.invariant in
    let same = ap (λ (t : List ℕ). length t) (sym (blocks_in-concat c.self.inside.sizes bytes c.self.invariant) ∙ ap concat c.self.view_is) in
    let all = fit.1 in
    omega (arith, same, all, c.requires)

pub returns-in-Some : goal.returns-in-Some
returns-in-Some c =
    let bytes = c.self.inside.bytes in
    let fit = subst (λ (sizes : Option (List ℕ)). Fit sizes bytes) c.in-Some.is c.self.invariant in
    let near : ℕ → Bool = λ place. nat_le (c.args.end - place) c.args.burst in
    let blocks : cut_by c.in-Some.sizes bytes ≡ c.args.self.now
    = ap (λ (sizes : Option (List ℕ)). blocks_in sizes bytes) (sym c.in-Some.is) ∙ c.self.view_is in
    c.start_within.ensures
    ∙ (ap (λ (t : List ℕ). find near t) (sym (starts_from-cut c.in-Some.sizes bytes c.args.start fit.1))
    ∙ ap (λ (t : List (List ℕ)). find near (starts_from c.args.start t)) blocks)
