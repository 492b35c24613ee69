use Rattle.std.proofs.Common.{◌≡◌, refl, ℕ, List, subst, take, drop, IfOk}
use Rattle.std.specs.List.{concat}
use Rattle.radio_blocks.proofs.PartLemmas.{last_bytes}
use Rattle.radio_blocks.proofs.pieces.last_part.Goals as goal

pub returns : goal.returns
returns c =
    let chunk = c.index.result.now in
    let bytes = last_bytes c.args.chunks.now.items chunk (take c.args.room (drop c.args.skip (concat chunk))) c.args.index c.args.skip c.args.room
    c.requires c.index.ensures refl in
    subst (λ (t : List ℕ). IfOk c.part.result (λ part. part ≡ t)) bytes c.part.ensures
