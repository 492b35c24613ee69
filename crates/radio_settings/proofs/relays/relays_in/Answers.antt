use Rattle.std.proofs.Common.{List, ◌<◌, length, map, arith, ◌∙◌}
use Rattle.std.proofs.lemmas.List.{length-map}
use Rattle.std.proofs.lemmas.Result.{err_from_is_err_and}
use Rattle.toml.specs.Data.{Members}
use Rattle.toml.specs.View.{table_view}
use Rattle.radio_settings.specs.Relays.{relay_fault, relay_keys, relay_setting_of}
use Rattle.radio_settings.proofs.FaultLemmas.{well_more, fault_here, seen_at, come_to_more}
use Rattle.radio_settings.proofs.relays.relays_in.Goals as goal

pub returns-in_err-relay : goal.returns-in_err-relay
unfolding relay_fault
returns-in_err-relay c =
    let tables : List Members = map (λ t. table_view t.now) c.args.tables.now in
    let low : c.loop-table.table-index < length tables = rw length-map (omega arith) in
    let p = err_from_is_err_and c.from_residual.result c.from_residual.ensures.1 in
    rw (p.1, p.2) (λ known. fault_here relay_keys tables c.loop-table.table-index (table_view c.table-item.result.now) c.in_err-relay.field-0.0 low
    (seen_at (λ t. table_view t.now) c.args.tables.now c.loop-table.table-index c.table-item.result (omega arith) c.table-item.is)
    (c.in_err-relay.ensures known) c.loop-table.invariant.0)

pub loop-table-preserved : goal.loop-table-preserved
unfolding relay_fault
loop-table-preserved c =
    let tables : List Members = map (λ t. table_view t.now) c.args.tables.now in
    let low : c.loop-table.table-index < length tables = rw length-map (omega arith) in
    let is = seen_at (λ t. table_view t.now) c.args.tables.now c.loop-table.table-index c.table-item.result (omega arith) c.table-item.is in (
      well_more relay_keys tables c.loop-table.table-index (table_view c.table-item.result.now) low is c.in_ok-relay.ensures.0 c.loop-table.invariant.0,
      c.in_ok-push.ensures.items ∙ come_to_more relay_setting_of tables c.loop-table.table-index
          (table_view c.table-item.result.now) _ _ low is c.in_ok-relay.ensures.1 c.loop-table.invariant.1,
    )
