use Rattle.std.proofs.Common.{◌≡◌, ◌++◌, length}
use Rattle.radio_source.specs.Place.{after, data_of}
use Rattle.radio_source.proofs.position.Position.pass.Given as goal

-- what was passed and what is still to be passed make what is asked for
abbrev pub invariant-pieces : goal.invariant-pieces
invariant-pieces l = record {
  place : after l.self l.rest ≡ after l.initial.self l.bytes;
  found : l.gathering ++ data_of l.self l.rest ≡ l.initial.gathering ++ data_of l.initial.self l.bytes;
}

abbrev pub decreases-pieces : goal.decreases-pieces
decreases-pieces l = length l.rest
