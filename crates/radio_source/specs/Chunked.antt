-- A chunked body in the grammar's own words (RFC 9112, section 7.1).
use Rattle.std.specs.Prelude.{◌≡◌, ◌≢◌, ℕ, ◌+◌, ◌<◌, ◌≤◌, List, [], ◌∷◌, ◌++◌, length, All}
use Rattle.std.specs.List.{flat_map}
use Rattle.httparse.specs.Ascii.{crlf_bytes, line_feed, carriage_return}
use Rattle.httparse.specs.Grammar.{ChunkLine, IsChunkLine, print_chunk_line, chunk_size, LineEnd, print_end}
use Rattle.radio_source.specs.Place.{Place, InPlain, InSized, InLine, InChunk, AfterReturn, AtTrailer, AfterTrailerReturn, InTrailer, AtEnd, PastTheEnd, Broken}

-- chunk = chunk-size [ chunk-ext ] CRLF chunk-data CRLF
pub record Chunk : Type 0 where
  pub line : ChunkLine
  pub content : List ℕ

abbrev pub print_chunk : Chunk → List ℕ
print_chunk c = print_chunk_line c.line ++ (c.content ++ crlf_bytes)

-- a line of the grammar, of at most 256 bytes
abbrev pub IsShortLine : ChunkLine → Type 0
IsShortLine l = IsChunkLine l × (length (print_chunk_line l) ≤ 256)

-- it has data, as many bytes as its line says
abbrev pub IsChunk : Chunk → Type 0
IsChunk c = IsShortLine c.line × (0 < length c.content) × (chunk_size c.line ≡ length c.content)

-- chunks, one after another, and their data
abbrev pub print_chunks : List Chunk → List ℕ
print_chunks chunks = flat_map print_chunk chunks

abbrev pub content_of : List Chunk → List ℕ
content_of chunks = flat_map (λ (c : Chunk). c.content) chunks

-- a trailer line without its LF: no LF, and neither empty nor a CR alone
abbrev pub IsTrailer : List ℕ → Type 0
IsTrailer line = All (λ b. b ≢ line_feed) line × (line ≢ []) × (line ≢ carriage_return ∷ [])

abbrev pub print_trailers : List (List ℕ) → List ℕ
print_trailers lines = flat_map (λ line. line ++ line_feed ∷ []) lines

-- chunked-body = *chunk last-chunk trailer-section CRLF; the last line may end in LF alone
pub record ChunkedBody : Type 0 where
  pub chunks : List Chunk
  pub last : ChunkLine
  pub trailers : List (List ℕ)
  pub end : LineEnd

-- rule: Chunk
abbrev pub print_body : ChunkedBody → List ℕ
print_body b = print_chunks b.chunks ++ (print_chunk_line b.last ++ (print_trailers b.trailers ++ print_end b.end))

-- its parts are of the grammar, and the trailer lines have at most 4096 bytes with their LFs
-- rule: Last chunk
pub record IsBody (b : ChunkedBody) : Type 0 where
  pub chunks : All IsChunk b.chunks
  pub last : IsShortLine b.last
  pub is_last : chunk_size b.last ≡ 0
  pub trailers : All IsTrailer b.trailers
  pub fits : length (print_trailers b.trailers) ≤ 4096

-- a chunk line that has begun has room for the three bytes that it may still need
abbrev pub HasRoomForItsLine : Place → Type 0
HasRoomForItsLine InPlain = Unit {0}
HasRoomForItsLine (InSized left) = Unit {0}
HasRoomForItsLine (InLine held) = length held + 3 ≤ 256
HasRoomForItsLine (InChunk left) = Unit {0}
HasRoomForItsLine AfterReturn = Unit {0}
HasRoomForItsLine (AtTrailer left) = Unit {0}
HasRoomForItsLine (AfterTrailerReturn left) = Unit {0}
HasRoomForItsLine (InTrailer left) = Unit {0}
HasRoomForItsLine AtEnd = Unit {0}
HasRoomForItsLine PastTheEnd = Unit {0}
HasRoomForItsLine Broken = Unit {0}
