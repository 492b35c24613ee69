-- Addresses of sockets.
use Rattle.std.specs.Prelude.{List, ℕ}
use Rattle.std.specs.Net.Grammar.{IsIpText}
use Rattle.std.specs.Net.Addr.{ipv4_bits, ipv6_bits}
use Rattle.std.specs.declared.net.IpAddr.{IpAddr}
use Rattle.std.specs.declared.net.IpAddr.TheVariants.{V4, V6}
use Rattle.radio_addr.specs.declared.address.Address.{Address}
use Rattle.radio_addr.specs.declared.address.Address.TheVariants.{V4 as PeerV4, V6 as PeerV6}
use Rattle.radio_addr.specs.Addresses.{unmapped}

-- the text is no IP address
abbrev pub IsNoIp : List ℕ → Type 0
IsNoIp text = (ip : IpAddr) → ¬ (IsIpText text ip)

-- the peer at an address: an IPv4 address that is written as IPv6 is that IPv4 address
abbrev pub peer_of_ip : IpAddr → Address
peer_of_ip (V4 ip) = PeerV4 (ipv4_bits ip)
peer_of_ip (V6 ip) = unmapped (PeerV6 (ipv6_bits ip))
