-- What holds of connections that linger, of which a worker closes some.
use Rattle.std.specs.Prelude.{◌≡◌, ◌<◌, ◌+◌, ℕ, not, List, length, filter}
use Rattle.radio_connections.specs.Connections.{Connection, lingers}
use Rattle.radio_workers.specs.Shifts.{without_oldest}

-- how many linger
abbrev pub lingering : List Connection → ℕ
lingering conns = length (filter lingers conns)

-- if one is closed, one fewer lingers
abbrev pub OneLingersLess : Type 0
OneLingersLess = (sources conns : List Connection) → 0 < lingering sources + lingering conns
    → lingering (without_oldest sources conns).0 + lingering (without_oldest sources conns).1 + 1 ≡ lingering sources + lingering conns

-- those of sources stay as long as others linger
abbrev pub SourcesLingerLonger : Type 0
SourcesLingerLonger = (sources conns : List Connection) → 0 < lingering conns → (without_oldest sources conns).0 ≡ sources

-- no connection is closed that does not linger
abbrev pub OthersAreKept : Type 0
OthersAreKept = (sources conns : List Connection)
    → (filter (λ conn. not (lingers conn)) (without_oldest sources conns).0 ≡ filter (λ conn. not (lingers conn)) sources)
    × (filter (λ conn. not (lingers conn)) (without_oldest sources conns).1 ≡ filter (λ conn. not (lingers conn)) conns)
