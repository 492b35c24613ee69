use Rattle.std.proofs.Common.{◌≡◌, ◌-◌, ◌∙◌, ◌++◌, ap, sym, subst, arith, ℕ, List, length, take, drop, map, OnOk}
use Rattle.std.specs.List.{concat}
use Rattle.radio_blocks.specs.Queue.{bytes_behind}
use Rattle.radio_blocks.proofs.ChunkLemmas.{all_blocks-concat}
use Rattle.radio_blocks.proofs.QueueLemmas.{tail_at}
use Rattle.radio_blocks.proofs.kept.KeptBlocks.draw_last.Goals as goal

pub last_start-index-requires : goal.last_start-index-requires
last_start-index-requires c =
    let same = ap (λ (t : List ℕ). length t) (sym (ap concat c.self.view_is) ∙ all_blocks-concat c.self.inside.chunks.items) in
    omega (arith, same, c.requires)

pub returns-clause-ok : goal.returns-clause-ok
returns-clause-ok c =
    let slices = map concat c.self.inside.chunks.items in
    let same : concat slices ≡ concat c.args.self.now = sym (all_blocks-concat c.self.inside.chunks.items) ∙ ap concat c.self.view_is in
    let index = c.last_start-index.result.0 in
    let skip = c.last_start-index.result.1 in
    let skips = c.last_start-index.ensures.skip in
    let behind : bytes_behind index skip slices ≡ drop (length (concat c.args.self.now) - c.args.lag) (concat c.args.self.now)
    = tail_at slices index c.args.lag skip (omega (arith, skips))
    ∙ ap (λ (t : List ℕ). drop (length t - c.args.lag) t) same in
    subst (λ (t : List ℕ). OnOk c.append_from.result (c.append_from.new.self ≡ c.args.pieces.now ++ take c.args.room t)) behind c.append_from.ensures.ok
