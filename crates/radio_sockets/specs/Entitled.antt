-- Whose word is taken for the client of a connection.
use Rattle.std.specs.Prelude.{◌≡◌, List, Option, false}
use Rattle.radio_addr.specs.declared.lines.AddressRange.{AddressRange}
use Rattle.radio_proxy.specs.Pending.{is_proxy}
use Rattle.radio_proxy.specs.declared.header.NamedClient.TheVariants.{Nobody}
use Rattle.radio_sockets.specs.declared.listening_socket.Accepted.{Accepted}

-- a connection whose other end is none of these proxies names nobody: its peer is its other end
-- rule: Proxy header
abbrev pub IsEntitled : Option (List AddressRange) → Accepted → Type 0
IsEntitled proxies newcomer = is_proxy proxies newcomer.socket_peer ≡ false → newcomer.named ≡ Nobody
