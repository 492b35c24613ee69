use Rattle.std.proofs.Common.{◌∙◌, ◌++◌, ◌∷◌, [], ap, ℕ, List}
use Rattle.radio_blocks.proofs.ChunkLemmas.{all_blocks-packed}
use Rattle.radio_blocks.proofs.kept.pack_last.Goals as goal

pub returns-in-Some : goal.returns-in-Some
returns-in-Some c =
    all_blocks-packed c.args.chunks.now.items c.push_back_reserved.new.self.items c.in-Some.chunk c.saturating_sub-from.result
    (c.push_back_reserved.ensures.items ∙ ap (λ (t : List (List (List ℕ))). t ++ c.in-Some.chunk ∷ []) c.truncate.ensures.items)
    c.in-Some.ensures.blocks
