use Rattle.std.proofs.Common.{ℕ}
use Rattle.radio_parts_table.proofs.DeliveryLemmas.{Told, was_delivered, is_to_none}
use Rattle.radio_parts_table.proofs.Words.{Delivers}
use Rattle.radio_parts_table.proofs.parts.deliver.Goals as goal
use Rattle.radio_parts_table.proofs.parts.deliver.Goals.{In-Some}

abbrev asked : ℕ → ℕ → Delivers
asked moment limit = record { moment = moment; limit = limit }

delivered : (c : In-Some) → Told (asked c.args.moment c.args.limit) c.visit.new.visitor c.args.mount.now c.args.block.now c.args.parts.now c.visit.new.self c.requires c.len.ensures.rising c.in-Some.delivered
delivered c =
    was_delivered (asked c.args.moment c.args.limit) c.visit.new.visitor c.args.mount.now c.args.block.now c.args.parts.now c.visit.new.self
    c.requires c.len.ensures.rising c.visit.result c.visit.ensures c.in-Some.delivered c.in-Some.is

pub returns-in-Some-clause-ok : goal.returns-in-Some-clause-ok
returns-in-Some-clause-ok c = (delivered c).0

pub returns-in-Some-clause-end : goal.returns-in-Some-clause-end
returns-in-Some-clause-end c = (delivered c).1

pub returns-in-Some-clause-err : goal.returns-in-Some-clause-err
returns-in-Some-clause-err c = (delivered c).2

pub returns-in-None-clause-ok : goal.returns-in-None-clause-ok
returns-in-None-clause-ok c =
    (is_to_none (asked c.args.moment c.args.limit) c.visit.new.visitor c.args.mount.now c.args.block.now c.args.parts.now c.visit.new.self
    c.requires c.len.ensures.rising c.visit.result c.visit.ensures c.in-None.is).0

pub returns-in-None-clause-end : goal.returns-in-None-clause-end
returns-in-None-clause-end c =
    (is_to_none (asked c.args.moment c.args.limit) c.visit.new.visitor c.args.mount.now c.args.block.now c.args.parts.now c.visit.new.self
    c.requires c.len.ensures.rising c.visit.result c.visit.ensures c.in-None.is).2
