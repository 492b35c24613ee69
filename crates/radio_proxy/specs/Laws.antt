-- Headers in the protocol's own terms (section 2.1): the line, and its fields.
use Rattle.std.specs.Prelude.{◌≡◌, ◌≤◌, ℕ, ◌+◌, true, List, [], ◌∷◌, ◌++◌, length, codes, Some}
use Rattle.std.specs.List.{Contains}
use Rattle.radio_addr.specs.declared.address.Address.{Address}
use Rattle.radio_proxy.specs.Headers.{address_in, is_port, named_in}
use Rattle.radio_proxy.specs.declared.header.AddressFamily.{AddressFamily}
use Rattle.radio_proxy.specs.declared.header.AddressFamily.TheVariants.{V4, V6}
use Rattle.radio_proxy.specs.declared.header.NamedClient.{NamedClient}
use Rattle.radio_proxy.specs.declared.header.NamedClient.TheVariants.{Client, Nobody}

-- the bytes begin with a line of so many bytes, with CR LF at its end and no LF before it, that names this
-- rule: Proxy header
pub record IsHeader (bytes : List ℕ) (len : ℕ) (named : NamedClient) : Type 0 where
  pub line : List ℕ
  pub rest : List ℕ
  pub are_bytes : bytes ≡ line ++ 10 ∷ rest
  pub first : ¬ Contains line 10
  pub counted : len ≡ length line + 1
  pub short : len ≤ 107
  pub names : named_in line ≡ Some named

abbrev pub family_word : AddressFamily → List ℕ
family_word V4 = codes "TCP4"
family_word V6 = codes "TCP6"

-- `CLIENT SERVER CLIENT-PORT SERVER-PORT`, with single spaces between them: two addresses of the family, and two ports
pub record AreTcpFields (family : AddressFamily) (fields : List ℕ) (peer : Address) : Type 0 where
  pub client : List ℕ
  pub server : List ℕ
  pub client_port : List ℕ
  pub server_port : List ℕ
  pub other : Address
  pub are_fields : fields ≡ client ++ 32 ∷ (server ++ 32 ∷ (client_port ++ 32 ∷ server_port))
  pub apart : (¬ Contains client 32) × (¬ Contains server 32) × (¬ Contains client_port 32)
  pub client_is : address_in family client ≡ Some peer
  pub server_is : address_in family server ≡ Some other
  pub are_ports : (is_port client_port ≡ true) × (is_port server_port ≡ true)

-- what may come behind `UNKNOWN`: nothing, or a space and anything
pub data IsIgnored : List ℕ → Type 0 where
  Nothing : IsIgnored []
  Behind : (more : List ℕ) → IsIgnored (32 ∷ more)

-- a line, without its LF, names somebody: `PROXY TCP4` or `PROXY TCP6` and the fields, or `PROXY UNKNOWN`; each ends with CR
-- rule: Proxy header
pub data Names (line : List ℕ) : NamedClient → Type 0 where
  ByTcp : (family : AddressFamily) (fields : List ℕ) (peer : Address) → AreTcpFields family fields peer
      → line ≡ codes "PROXY " ++ (family_word family ++ 32 ∷ (fields ++ 13 ∷ [])) → Names line (Client peer)
  ByNone : (ignored : List ℕ) → IsIgnored ignored → line ≡ codes "PROXY UNKNOWN" ++ (ignored ++ 13 ∷ []) → Names line Nobody
