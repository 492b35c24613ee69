use Rattle.std.proofs.Common.{◌≡◌, drop, []}
use Rattle.std.specs.Prelude.{fold}
use Rattle.radio_parts_facts.specs.Wanted.{with_wanted}
use Rattle.radio_parts_facts.proofs.waiting.wanted_among.Given as goal

-- with the relays that are left they are all
abbrev pub invariant-loop-relay : goal.invariant-loop-relay
invariant-loop-relay l = fold (with_wanted l.seats.seats) l.names.keys (drop l.relay-index l.relays) ≡ fold (with_wanted l.seats.seats) [] l.relays
