-- Where a server is reached.
use Rattle.std.specs.Prelude.{ℕ, Bool, ◌==◌, ◌||◌, if◌then◌else◌, List, [], ◌∷◌, ◌++◌, codes, decimal, filter, take}
use Rattle.std.specs.Char.{is_ascii_alphanumeric}
use Rattle.std.specs.List.{list_any}

-- a byte that hosts and their ports have: a letter, a digit, or one of `-.:[]_`
abbrev pub is_host_byte : ℕ → Bool
is_host_byte b = is_ascii_alphanumeric b || b == 45 || b == 46 || b == 58 || b == 91 || b == 93 || b == 95

-- what a host and its port may have of a text
abbrev pub host_in : List ℕ → List ℕ
host_in text = take 255 (filter is_host_byte text)

abbrev pub has_colon : List ℕ → Bool
has_colon address = list_any (λ b. b == 58) address

-- an address of IPv6, which has colons, is put in brackets
abbrev pub bracketed : List ℕ → List ℕ
bracketed address = if has_colon address then codes "[" ++ address ++ codes "]" else address

-- the address and the port of the settings
abbrev pub own_host : List ℕ → ℕ → List ℕ
own_host address port = bracketed (host_in address) ++ codes ":" ++ decimal port

-- the host that was sent, or else the server's own
abbrev pub host_or : List ℕ → List ℕ → List ℕ
host_or [] own = own
host_or (b ∷ host) own = b ∷ host

-- what comes before a mount's name in its URL
-- rule: Address of a stream
unfoldable pub base_url : List ℕ → List ℕ → ℕ → List ℕ
base_url host address port = codes "http://" ++ host_or (host_in host) (own_host address port)
