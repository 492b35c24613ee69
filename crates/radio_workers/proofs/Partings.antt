-- How many connections a worker has once one was moved.
use Rattle.std.proofs.Common.{◌≡◌, ◌+◌, ◌<◌, Bool, true, false, List, [], ◌∷◌, length, take, drop, ap, arith, length-append, length-drop, length-take-le}
use Rattle.std.proofs.lemmas.Option.{slice_get_within}
use Rattle.radio_workers.proofs.Words.{Connection, HasParted}
use Rattle.radio_serving.specs.Sources.{FeedingClients}

-- none is lost by it
pub parted_count : (is_moved : Bool) (feeding : FeedingClients) (sources conns sources' conns' : List Connection)
    → HasParted is_moved feeding sources conns sources' conns'
    → length sources' + length conns' ≡ length sources + length conns
parted_count true feeding sources conns sources' conns' (at, conn, first, is, added, rest) =
    let inside : at < length conns = slice_get_within conns at conn is in
    omega (
      arith,
      inside,
      ap length added,
      ap length rest,
      length-append sources (conn ∷ []),
      length-append (take at conns) (drop (at + 1) conns),
      length-take-le at conns (omega (arith, inside)),
      length-drop (at + 1) conns,
    )
parted_count false feeding sources conns sources' conns' (first, second) = omega (arith, ap length first, ap length second)
