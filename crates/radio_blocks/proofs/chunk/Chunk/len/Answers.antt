use Rattle.std.proofs.Common.{ap, sym, ◌∙◌, ℕ, List, length}
use Rattle.std.specs.List.{concat}
use Rattle.radio_blocks.proofs.ChunkLemmas.{blocks_in-concat}
use Rattle.radio_blocks.proofs.chunk.Chunk.len.Goals as goal

pub returns : goal.returns
returns c =
    c.len.ensures.value
    ∙ ap (λ (t : List ℕ). length t) (sym (blocks_in-concat c.self.inside.sizes c.self.inside.bytes c.self.invariant) ∙ ap concat c.self.view_is)
