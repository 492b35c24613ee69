use Rattle.std.proofs.Common.{◌∙◌, ◌++◌, ◌∷◌, [], ap, ℕ, List}
use Rattle.radio_blocks.specs.Chunk.{all_blocks}
use Rattle.radio_blocks.proofs.ChunkLemmas.{all_blocks-push}
use Rattle.radio_blocks.proofs.kept.KeptBlocks.push.Goals as goal

pub returns-clause-ok : goal.returns-clause-ok
returns-clause-ok c =
    let block = c.of_block.ensures ∙ ap (λ (t : List ℕ). t ∷ []) c.into_bytes.ensures in
    c.lengthen_row.ensures
    ∙ (ap all_blocks (c.push_back_reserved.ensures.items ∙ ap (λ (t : List (List (List ℕ))). t ++ c.of_block.result ∷ []) c.reserve.ensures.items)
    ∙ (all_blocks-push c.self.inside.chunks.items c.of_block.result
    ∙ (ap (λ (t : List (List ℕ)). all_blocks c.self.inside.chunks.items ++ t) block ∙ ap (λ (t : List (List ℕ)). t ++ c.args.block ∷ []) (c.self.view_is ∙ c.end_row.ensures))))
