use Rattle.std.proofs.Common.{◌∙◌, ◌++◌, ap, sym}
use Rattle.radio_blocks.proofs.BlockLemmas.{gathered-step}
use Rattle.radio_blocks.proofs.gathering.Gathering.add_some.Goals as goal

pub returns-clause-value : goal.returns-clause-value
returns-clause-value c =
    let block_is = ap (λ v. v.items) c.replace-whole.ensures.value ∙ c.in_ok-extend_from_slice.ensures.items in
    gathered-step c.self.inside.blocks.items c.push_block.new.blocks.items _ c.self.inside.last.items c.split_at.result.0.now _ c.split_at.result.1.now
    c.in_ok-push_block.ensures.ok block_is (ap (λ v. v.items) c.replace-whole.ensures.after ∙ c.new.ensures.items)
    ∙ (ap (λ t. t ++ (c.split_at.result.0.now ++ c.split_at.result.1.now)) (c.self.view_is ∙ c.in_ok-make_room.ensures)
    ∙ ap (λ t. c.args.self.now ++ t) (sym c.split_at.ensures.by_index.0))
