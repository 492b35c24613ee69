use Rattle.std.proofs.Common.{rules, ◌≡◌, ◌<◌, ◌∙◌, ◌++◌, ◌∷◌, [], ap, arith, ℕ, List, length, length-append}
use Rattle.std.specs.List.{concat}
use Rattle.radio_blocks.proofs.ChunkLemmas.{packed_more, total-more}
use Rattle.radio_blocks.proofs.kept.join_blocks.Goals as goal

pub loop-i-preserved : goal.loop-i-preserved
loop-i-preserved c =
    let chunks = c.args.chunks.now.items in
    let chunk = c.index-chunk.result.now in
    let inside : c.loop-i.i < length chunks = search rules in
    let size = c.in_ok-only_size.field-0 in
    let sizes : c.push_back.new.self.items ≡ c.loop-i.sizes.items ++ size ∷ [] = search rules in
    let all : c.extend_from_slice.new.self.items ≡ c.loop-i.bytes.items ++ c.as_bytes.result.now = search rules in
    let bytes : c.extend_from_slice.new.self.items ≡ c.loop-i.bytes.items ++ concat chunk
    = all ∙ ap (λ (t : List ℕ). c.loop-i.bytes.items ++ t) c.as_bytes.ensures in
    let count = ap (λ (t : List ℕ). length t) sizes ∙ length-append c.loop-i.sizes.items (size ∷ []) in (
      total-more c.loop-i.sizes.items c.push_back.new.self.items c.loop-i.bytes.items c.extend_from_slice.new.self.items (concat chunk) size
          c.loop-i.invariant.0 c.in_ok-only_size.ensures.0 sizes bytes,
      omega (arith, count, c.loop-i.invariant.1),
      packed_more chunks chunk c.loop-i.sizes.items c.loop-i.bytes.items c.push_back.new.self.items c.extend_from_slice.new.self.items c.loop-i.i size
          inside c.index-chunk.ensures c.in_ok-only_size.ensures.1 c.loop-i.invariant.0 c.in_ok-only_size.ensures.0 sizes bytes
          ∙ c.loop-i.invariant.2,
    )
