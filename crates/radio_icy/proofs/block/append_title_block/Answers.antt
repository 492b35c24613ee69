use Rattle.std.proofs.Common.{◌≡◌, ℕ, ◌+◌, ◌-◌, ◌*◌, replicate, List, [], ◌∷◌, refl, arith, codes, length, ap, ◌∙◌}
use Rattle.std.proofs.lemmas.Slice.{pushed}
use Rattle.std.proofs.lemmas.List.{take-replicate}
use Rattle.radio_icy.specs.Block.{units_of}
use Rattle.radio_icy.proofs.BlockLemmas.{block_pieces}
use Rattle.radio_icy.proofs.block.append_title_block.Goals as goal

pub returns-clause-ok : goal.returns-clause-ok
returns-clause-ok c =
    let title : List ℕ = c.args.title.now in
    let units : ℕ = c.div_ceil-units.result in
    let is_units : units ≡ units_of (length title + 15) = omega arith in
    let first = pushed (units ∷ []) refl c.in_ok-push.was c.push.ensures.items in
    let second = pushed (codes "StreamTitle='") first c.in_ok-extend_from_slice.was c.extend_from_slice.ensures.items in
    let third = pushed title second c.in_ok-extend_from_slice-2.was c.extend_from_slice-2.ensures.items in
    let fourth = pushed (codes "';") third c.in_ok-extend_from_slice-3.was c.extend_from_slice-3.ensures.items in
    let last = pushed _ fourth c.in_ok-extend_from_slice-4.was c.extend_from_slice-4.ensures.items in
    last
    ∙ block_pieces _ title units _ is_units
    (take-replicate (16 * units - (13 + length title + 2)) 16 0 (omega arith) ∙ ap (λ (n : ℕ). replicate n 0) (omega arith))
