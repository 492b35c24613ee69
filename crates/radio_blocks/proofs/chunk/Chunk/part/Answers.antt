use Rattle.std.proofs.Common.{◌≡◌, ◌∙◌, ap, sym, ℕ, List, take, drop, subst, IfOk}
use Rattle.std.specs.List.{concat}
use Rattle.radio_blocks.proofs.ChunkLemmas.{blocks_in-concat}
use Rattle.radio_blocks.proofs.chunk.Chunk.part.Goals as goal

pub returns : goal.returns
returns c =
    let bytes = sym (blocks_in-concat c.self.inside.sizes c.self.inside.bytes c.self.invariant) ∙ ap concat c.self.view_is in
    subst (λ (t : List ℕ). IfOk c.part_of.result (λ part. part ≡ take c.args.room (drop c.args.skip t))) bytes c.part_of.ensures
