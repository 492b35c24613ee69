use Rattle.std.proofs.Common.{rules, ◌≡◌, ◌+◌, ◌<◌, ◌∙◌, ap, sym, arith, ℕ, List, length, drop}
use Rattle.std.specs.List.{concat}
use Rattle.radio_blocks.specs.Chunk.{all_blocks}
use Rattle.radio_blocks.proofs.ChunkLemmas.{blocks_from}
use Rattle.radio_blocks.proofs.QueueLemmas.{first_within, first_among, first_behind, sizes_of}
use Rattle.radio_blocks.proofs.kept.KeptBlocks.start_within.Goals as goal

pub start_within-requires : goal.start_within-requires
start_within-requires c =
    let chunks = c.self.inside.chunks.items in
    let chunk = c.index-chunk.result.now in
    let inside : c.loop-i.i < length chunks = search rules in
    let sizes = sizes_of chunk (all_blocks (drop (c.loop-i.i + 1) chunks)) (all_blocks (drop c.loop-i.i chunks)) (blocks_from chunks c.loop-i.i chunk inside c.index-chunk.ensures) in
    omega (arith, sizes, c.loop-i.invariant.0)

pub returns-in-Some : goal.returns-in-Some
returns-in-Some c =
    let chunks = c.self.inside.chunks.items in
    let chunk = c.index-chunk.result.now in
    let inside : c.loop-i.i < length chunks = search rules in
    let blocks = blocks_from chunks c.loop-i.i chunk inside c.index-chunk.ensures in
    first_among c.args.end c.args.burst c.loop-i.start c.in-Some.found chunk (all_blocks (drop (c.loop-i.i + 1) chunks)) c.in-Some.ensures
    ∙ (ap (λ (t : List (List ℕ)). first_within c.args.end c.args.burst c.loop-i.start t) (sym blocks) ∙ c.loop-i.invariant.1)

pub overflow_add-start : goal.overflow_add-start
overflow_add-start c =
    let chunks = c.self.inside.chunks.items in
    let chunk = c.index-chunk.result.now in
    let inside : c.loop-i.i < length chunks = search rules in
    let sizes = sizes_of chunk (all_blocks (drop (c.loop-i.i + 1) chunks)) (all_blocks (drop c.loop-i.i chunks)) (blocks_from chunks c.loop-i.i chunk inside c.index-chunk.ensures) in
    omega (arith, sizes, c.loop-i.invariant.0, c.len.ensures, c.ranges.end)

pub loop-i-preserved : goal.loop-i-preserved
loop-i-preserved c =
    let chunks = c.self.inside.chunks.items in
    let chunk = c.index-chunk.result.now in
    let inside : c.loop-i.i < length chunks = search rules in
    let rest = all_blocks (drop (c.loop-i.i + 1) chunks) in
    let blocks = blocks_from chunks c.loop-i.i chunk inside c.index-chunk.ensures in
    let sizes = sizes_of chunk rest (all_blocks (drop c.loop-i.i chunks)) blocks in
    let next : c.loop-i.start + c.len.result ≡ c.loop-i.start + length (concat chunk) = omega (arith, c.len.ensures) in (
      omega (arith, sizes, c.loop-i.invariant.0, c.len.ensures),
      first_behind c.args.end c.args.burst c.loop-i.start (c.loop-i.start + c.len.result) chunk rest c.in_default.ensures next
          ∙ (ap (λ (t : List (List ℕ)). first_within c.args.end c.args.burst c.loop-i.start t) (sym blocks) ∙ c.loop-i.invariant.1),
    )
