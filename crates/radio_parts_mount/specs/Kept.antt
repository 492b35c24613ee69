-- What is kept of streams: the last whole blocks, as far as a queue is long. A byte that is forgotten reads as zero, so that no place changes.
use Rattle.std.specs.Prelude.{ℕ, ◌-◌, nat_le, if◌then◌else◌, List, [], ◌∷◌, ◌++◌, drop, replicate, map}
use Rattle.std.specs.List.{concat}
use Rattle.radio_blocks.specs.Queue.{KeptTail, starts_from}
use Rattle.radio_tables.specs.Lists.{update_first}
use Rattle.radio_parts_mount.specs.Sessions.{Session, is_of, longer}
use Rattle.radio_parts_mount.specs.Stream.{WholeStream, end_of}

-- where the first of these blocks starts; if there is none, the end, where the next one will
abbrev pub first_start : ℕ → List ℕ → ℕ
first_start end [] = end
first_start end (start ∷ starts) = start

-- where the fewest last blocks start that have so many bytes together, or all blocks where these have fewer
-- rule: Kept stream
abbrev pub shortest_starts : ℕ → ℕ → List ℕ → List ℕ
shortest_starts limit end [] = []
shortest_starts limit end (start ∷ starts) = (if nat_le limit (end - first_start end starts) then shortest_starts limit end starts else start ∷ starts)

-- the place from which on such a stream is kept
abbrev pub kept_from : ℕ → WholeStream → ℕ
kept_from limit stream = first_start (end_of stream) (shortest_starts limit (end_of stream) stream.starts)

-- the bytes, with zeros for those before the place
abbrev pub forgotten : ℕ → List ℕ → List ℕ
forgotten place bytes = replicate place 0 ++ drop place bytes

-- the stream as a queue keeps it that is to have so many bytes
-- rule: Kept stream
abbrev pub kept_stream : ℕ → WholeStream → WholeStream
kept_stream limit stream = record {
  bytes = forgotten (kept_from limit stream) stream.bytes;
  starts = shortest_starts limit (end_of stream) stream.starts;
}

-- what a queue has of a stream, read as the stream
abbrev pub stream_of : KeptTail → WholeStream
stream_of tail = record { bytes = replicate tail.offset 0 ++ concat tail.blocks; starts = starts_from tail.offset tail.blocks }

abbrev pub kept_session : ℕ → Session → Session
kept_session limit session = record session { stream = kept_stream limit session.stream }

-- the sessions, each with what is kept of its stream
abbrev pub kept_live : ℕ → List Session → List Session
kept_live limit live = map (kept_session limit) live

-- a session that has delivered a block at this moment, with what is kept of its stream then
abbrev pub longer_kept : ℕ → List ℕ → ℕ → Session → Session
longer_kept limit block moment session = kept_session limit (longer block moment session)

-- the mount's session has delivered the block
abbrev pub kept_fed : ℕ → List Session → List ℕ → List ℕ → ℕ → List Session
kept_fed limit live mount block moment = update_first (is_of mount) (longer_kept limit block moment) live
