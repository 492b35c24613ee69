-- What a worker does with its connections.
use Rattle.std.specs.Prelude.{◌≡◌, ◌+◌, ◌==◌, ◌&&◌, ℕ, Bool, true, false, List, [], ◌∷◌, ◌++◌, length, take, drop, filter, Option, Some, slice_get, if◌then◌else◌, nat_lt}
use Rattle.std.specs.List.{list_any, position}
use Rattle.radio_connections.specs.Connections.{Connection, is_open, lingers, without_first}
use Rattle.radio_connections.specs.declared.conn.ConnStatus.{ConnStatus}
use Rattle.radio_serving.specs.Sources.{is_source_number, FeedingClients}

-- the index of the first connection whose client feeds a mount
abbrev pub first_source : FeedingClients → List Connection → Option ℕ
first_source feeding conns = position (λ conn. is_source_number conn.id feeding) conns

-- whether one of the clients has a seat
abbrev pub has_listeners : List Connection → Bool
has_listeners conns = list_any (λ conn. conn.status.sits) conns

-- whether a listener that goes on is left behind by a draw at this moment, in milliseconds: it has brought all that there was room for
abbrev pub may_draw_more : ℕ → ConnStatus → Bool
may_draw_more ms status = status.is_behind && (is_open status.fate && (status.asked_ms == ms))

-- whether one of them is
abbrev pub has_more_to_draw : ℕ → List Connection → Bool
has_more_to_draw ms conns = list_any (λ conn. may_draw_more ms conn.status) conns

-- the first source's connection went from the others to the end of the sources' connections, or there was none
abbrev pub HasParted : Bool → FeedingClients → List Connection → List Connection → List Connection → List Connection → Type 0
HasParted true feeding sources conns sources' conns' =
    (at : ℕ) × (conn : Connection) × (first_source feeding conns ≡ Some at) × (slice_get conns at ≡ Some conn)
    × (sources' ≡ sources ++ conn ∷ []) × (conns' ≡ take at conns ++ drop (at + 1) conns)
HasParted false feeding sources conns sources' conns' = (sources' ≡ sources) × (conns' ≡ conns)

-- the first that lingers was closed, a source's only if no other lingers
-- rule: Most that linger
abbrev pub without_oldest : List Connection → List Connection → List Connection × List Connection
without_oldest sources conns =
    if nat_lt 0 (length (filter lingers conns)) then (sources, without_first conns) else (without_first sources, conns)
