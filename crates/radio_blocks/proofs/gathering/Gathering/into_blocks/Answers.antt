use Rattle.std.proofs.Common.{◌≡◌, ◌<◌, ◌∙◌, [], ap, sym, arith, length}
use Rattle.std.proofs.lemmas.Bool.Decides.{nat_tests}
use Rattle.std.proofs.lemmas.List.{nil_from_length}
use Rattle.radio_blocks.specs.Cutting.{blocks_of}
use Rattle.radio_blocks.proofs.BlockLemmas.{gathered-whole, gathered-part}
use Rattle.radio_blocks.proofs.gathering.Gathering.into_blocks.Goals as goal

pub returns-then-is_empty : goal.returns-then-is_empty
returns-then-is_empty c =
    let last = c.self.inside.last.items in
    let none : last ≡ [] = nil_from_length last (grind (arith, nat_tests, c.if-is_empty.true, c.is_empty.ensures)) in
    sym (gathered-whole c.self.inside.blocks.items last c.self.invariant.0 none) ∙ ap blocks_of c.self.view_is

pub returns : goal.returns
returns c =
    let blocks = c.self.inside.blocks.items in
    let last = c.self.inside.last.items in
    let some : 0 < length last = grind (arith, nat_tests, c.if-is_empty.false, c.is_empty.ensures) in
    c.in_ok-push_block.ensures.ok
    ∙ (sym (gathered-part blocks last c.self.invariant.0 some c.self.invariant.1) ∙ ap blocks_of c.self.view_is)
