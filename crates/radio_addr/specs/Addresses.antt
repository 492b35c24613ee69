-- The texts of addresses (RFC 4291, section 2.2).
use Rattle.std.specs.Prelude.{ℕ, Bool, true, false, ◌+◌, ◌-◌, ◌*◌, ◌/◌, ◌%◌, ◌^◌, ◌==◌, nat_lt, List, [], ◌∷◌, ◌++◌, length, replicate, fold, Option, None}
use Rattle.std.specs.Prelude.{Some, if◌then◌else◌}
use Rattle.std.specs.Option.{option_map, option_and_then, option_or}
use Rattle.radio_addr.specs.Numbers.{octet_of, group_of}
use Rattle.radio_texts.specs.Cuts.{cut, fields_at, cut_at_two}
use Rattle.radio_addr.specs.declared.address.Address.{Address}
use Rattle.radio_addr.specs.declared.address.Address.TheVariants.{V4, V6}

-- the number of four octets
abbrev pub quad_number : ℕ → ℕ → ℕ → ℕ → ℕ
quad_number a b c d = ((a * 256 + b) * 256 + c) * 256 + d

-- four octets between three dots
unfoldable pub quad_of : List ℕ → Option ℕ
quad_of text =
    option_and_then (λ first. option_and_then (λ second. option_and_then (λ third.
    option_and_then (λ a. option_and_then (λ b. option_and_then (λ c. option_map (λ d. quad_number a b c d)
    (octet_of third.1)) (octet_of third.0)) (octet_of second.0)) (octet_of first.0))
    (cut 46 second.1)) (cut 46 first.1)) (cut 46 text)

-- the number that 16-bit groups write
abbrev pub number_of_groups : List ℕ → ℕ
number_of_groups groups = fold (λ n group. n * 65536 + group) 0 groups

-- the groups of the last field: one, or two where a dotted quad may be
unfoldable pub last_groups : Bool → List ℕ → Option (List ℕ)
last_groups with_quad field =
    option_or (option_map (λ group. group ∷ []) (group_of field))
    (if with_quad then option_map (λ quad. quad / 65536 ∷ quad % 65536 ∷ []) (quad_of field) else None)

-- the groups of fields
abbrev pub groups_in : Bool → List (List ℕ) → Option (List ℕ)
groups_in with_quad [] = None
groups_in with_quad (field ∷ []) = last_groups with_quad field
groups_in with_quad (field ∷ next ∷ fields) =
    option_and_then (λ group. option_map (λ groups. group ∷ groups) (groups_in with_quad (next ∷ fields))) (group_of field)

-- the groups of a text with colons between them; none in an empty text
abbrev pub groups_of : Bool → List ℕ → Option (List ℕ)
groups_of with_quad [] = Some []
groups_of with_quad (b ∷ text) = groups_in with_quad (fields_at 58 (b ∷ text))

-- the address of eight groups
abbrev pub whole_address : List ℕ → Option ℕ
whole_address groups = if length groups == 8 then Some (number_of_groups groups) else None

-- the address if `::` replaces at least one group between these
abbrev pub shortened_address : List ℕ → List ℕ → Option ℕ
shortened_address front back =
    if nat_lt (length front + length back) 8
    then Some (number_of_groups (front ++ (replicate (8 - (length front + length back)) 0 ++ back)))
    else None

-- a text with `::` between `front` and `back`
abbrev pub shortened_of : List ℕ × List ℕ → Option ℕ
shortened_of parts =
    option_and_then (λ front. option_and_then (λ back. shortened_address front back) (groups_of true parts.1)) (groups_of false parts.0)

-- an IPv6 address: eight groups, or fewer with one `::`
unfoldable pub v6_of : List ℕ → Option ℕ
v6_of text = v6_from text (cut_at_two 58 text)
  where
    v6_from : List ℕ → Option (List ℕ × List ℕ) → Option ℕ
    v6_from text None = option_and_then whole_address (groups_of true text)
    v6_from text (Some parts) = shortened_of parts

-- an address as it is written
unfoldable pub address_of : List ℕ → Option Address
address_of text = option_or (option_map (λ n. V4 n) (quad_of text)) (option_map (λ n. V6 n) (v6_of text))

-- an address in `::ffff:0:0/96`: an IPv4 address written as an IPv6 one (section 2.5.5.2)
abbrev pub is_mapped : Address → Bool
is_mapped (V4 n) = false
is_mapped (V6 n) = n / 2 ^ 32 == 0xffff

-- the address of a peer: such an address is the IPv4 address
-- rule: Peer
abbrev pub unmapped : Address → Address
unmapped (V4 n) = V4 n
unmapped (V6 n) = if n / 2 ^ 32 == 0xffff then V4 (n % 2 ^ 32) else V6 n

-- the peer of a text
-- rule: Peer
abbrev pub peer_of : List ℕ → Option Address
peer_of text = option_map unmapped (address_of text)
