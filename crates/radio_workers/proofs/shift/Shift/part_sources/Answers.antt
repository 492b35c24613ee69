use Rattle.std.proofs.Common.{refl, ◌∙◌}
use Rattle.radio_workers.proofs.Words.{nothing_yet}
use Rattle.radio_workers.proofs.Doings.{done_part, done_then}
use Rattle.radio_workers.proofs.Partings.{parted_count}
use Rattle.radio_workers.proofs.shift.Shift.part_sources.Goals as goal

pub returns-then-not-found-clause-does : goal.returns-then-not-found-clause-does
returns-then-not-found-clause-does g c = nothing_yet

pub started-init : goal.started-init
started-init g c = (refl, refl, nothing_yet)

pub started-preserved : goal.started-preserved
started-preserved g c =
    let before = c.started.self in
    let after = c.part_source.new.self in
    let parted = c.part_source.ensures.parted in (
      parted_count c.part_source.result before.worker.server.feeding before.sources.items before.conns.items after.sources.items after.conns.items parted
          ∙ c.started.invariant.0,
      c.part_source.ensures.worker ∙ c.started.invariant.1,
      done_then g.S.SharedServer.steps g.S.SharedServer.refuses _ _ _ c.started.invariant.2
          (done_part g.S.SharedServer.steps g.S.SharedServer.refuses c.part_source.result before.worker after.worker before.sources.items before.conns.items
          after.sources.items after.conns.items c.part_source.ensures.worker parted),
    )

pub returns-then-not-part_source-clause-does : goal.returns-then-not-part_source-clause-does
returns-then-not-part_source-clause-does g c =
    let before = c.started.self in
    let after = c.part_source.new.self in
    done_then g.S.SharedServer.steps g.S.SharedServer.refuses _ _ _ c.started.invariant.2
    (done_part g.S.SharedServer.steps g.S.SharedServer.refuses c.part_source.result before.worker after.worker before.sources.items before.conns.items
    after.sources.items after.conns.items c.part_source.ensures.worker c.part_source.ensures.parted)
