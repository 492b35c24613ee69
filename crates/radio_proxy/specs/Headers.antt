-- The header by which a proxy names its client: the PROXY protocol, version 1 (section 2.1).
use Rattle.std.specs.Prelude.{ℕ, Bool, false, ◌+◌, ◌-◌, ◌==◌, ◌&&◌, nat_lt, List, [], length, take, slice_index, codes, Option, None, Some}
use Rattle.std.specs.Prelude.{if◌then◌else◌}
use Rattle.std.specs.Option.{option_and_then, is_some}
use Rattle.std.specs.Str.{bytes_eq}
use Rattle.radio_texts.specs.Cuts.{cut}
use Rattle.radio_texts.specs.Numbers.{number_of}
use Rattle.radio_addr.specs.Addresses.{peer_of}
use Rattle.radio_addr.specs.declared.address.Address.{Address}
use Rattle.radio_proxy.specs.declared.header.AddressFamily.{AddressFamily}
use Rattle.radio_proxy.specs.declared.header.AddressFamily.TheVariants.{V4, V6}
use Rattle.radio_proxy.specs.declared.header.Header.{Header}
use Rattle.radio_proxy.specs.declared.header.Header.TheVariants.{Partial, Whole, Bad}
use Rattle.radio_proxy.specs.declared.header.NamedClient.{NamedClient}
use Rattle.radio_proxy.specs.declared.header.NamedClient.TheVariants.{Client, Nobody}

-- a decimal number to 65535 with no needless zero in front
unfoldable pub is_port : List ℕ → Bool
is_port text = if nat_lt 1 (length text) && slice_index text 0 == 48 then false else is_some (number_of 10 65535 text)

-- the peer of a text of this family: an IPv6 address has a colon, and an IPv4 address has none
abbrev pub peer_if : AddressFamily → Option (List ℕ × List ℕ) → List ℕ → Option Address
peer_if V4 None text = peer_of text
peer_if V4 (Some parts) text = None
peer_if V6 None text = None
peer_if V6 (Some parts) text = peer_of text

unfoldable pub address_in : AddressFamily → List ℕ → Option Address
address_in family text = peer_if family (cut 58 text) text

-- `CLIENT SERVER CLIENT-PORT SERVER-PORT`
unfoldable pub tcp_of : AddressFamily → List ℕ → Option NamedClient
tcp_of family fields =
    option_and_then (λ client. option_and_then (λ server. option_and_then (λ ports.
    option_and_then (λ peer. option_and_then (λ other. if is_port ports.0 && is_port ports.1 then Some (Client peer) else None)
    (address_in family server.0)) (address_in family client.0))
    (cut 32 server.1)) (cut 32 client.1)) (cut 32 fields)

-- a family, and what it needs: behind `UNKNOWN` anything may come
abbrev pub client_of_family : List ℕ → List ℕ → Option NamedClient
client_of_family family rest =
    if bytes_eq family (codes "UNKNOWN") then Some Nobody
    else if bytes_eq family (codes "TCP4") then tcp_of V4 rest
    else if bytes_eq family (codes "TCP6") then tcp_of V6 rest
    else None

-- the fields behind `PROXY`
abbrev pub by_family : List ℕ → Option (List ℕ × List ℕ) → Option NamedClient
by_family fields None = client_of_family fields []
by_family fields (Some parts) = client_of_family parts.0 parts.1

unfoldable pub client_in_fields : List ℕ → Option NamedClient
client_in_fields fields = by_family fields (cut 32 fields)

-- a line without the carriage return at its end, if it has one
abbrev pub line_without_return : List ℕ → Option (List ℕ)
line_without_return line = if slice_index line (length line - 1) == 13 then Some (take (length line - 1) line) else None

-- whom a line names, which is given without its LF
unfoldable pub named_in : List ℕ → Option NamedClient
named_in line =
    option_and_then (λ text. option_and_then (λ word. if bytes_eq word.0 (codes "PROXY") then client_in_fields word.1 else None) (cut 32 text))
    (line_without_return line)

-- the header of a line, with its LF
abbrev pub header_with : ℕ → Option NamedClient → Header
header_with len None = Bad
header_with len (Some named) = Whole len named

abbrev pub header_in : List ℕ → Header
header_in line = header_with (length line + 1) (named_in line)

-- so many bytes without an LF
abbrev pub unended : ℕ → Header
unended count = if nat_lt count 107 then Partial else Bad

-- the header at the front of some bytes, of which so many are looked at: their first line, if it has ended
abbrev pub header_by : ℕ → Option (List ℕ × List ℕ) → Header
header_by count None = unended count
header_by count (Some parts) = header_in parts.0

-- the header that bytes begin with: 107 of them at most, with CR LF
-- rule: Proxy header
unfoldable pub header_of : List ℕ → Header
header_of bytes = header_by (length (take 107 bytes)) (cut 10 (take 107 bytes))

-- the peer of a connection by its header: the client that is named, or else the other end of the connection
-- rule: Proxy header
abbrev pub peer_by : NamedClient → Address → Address
peer_by (Client peer) own = peer
peer_by Nobody own = own
