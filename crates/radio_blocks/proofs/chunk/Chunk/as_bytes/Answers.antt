use Rattle.std.proofs.Common.{ap, sym, ◌∙◌}
use Rattle.std.specs.List.{concat}
use Rattle.radio_blocks.proofs.ChunkLemmas.{blocks_in-concat}
use Rattle.radio_blocks.proofs.chunk.Chunk.as_bytes.Goals as goal

pub returns : goal.returns
returns c = c.as_slice.ensures ∙ (sym (blocks_in-concat c.self.inside.sizes c.self.inside.bytes c.self.invariant) ∙ ap concat c.self.view_is)
