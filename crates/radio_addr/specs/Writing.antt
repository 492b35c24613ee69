-- How a peer is written.
use Rattle.std.specs.Prelude.{◌≢◌, ℕ, false, ◌-◌, ◌*◌, ◌/◌, ◌%◌, ◌^◌, ◌<◌, List, ◌∷◌, ◌++◌}
use Rattle.std.specs.Fmt.{decimal, digits}
use Rattle.radio_addr.specs.declared.address.Address.{Address}
use Rattle.radio_addr.specs.declared.address.Address.TheVariants.{V4, V6}

-- the k-th 16-bit group of an IPv6 address, from 0
abbrev pub group_at : ℕ → ℕ → ℕ
group_at n k = n / 2 ^ (16 * (7 - k)) % 65536

-- a group in lower hexadecimal with no needless zeros
abbrev pub hexadecimal : ℕ → List ℕ
hexadecimal group = digits 16 false group

-- four groups with colons between them
abbrev pub four_groups : ℕ → ℕ → ℕ → ℕ → List ℕ
four_groups a b c d = hexadecimal a ++ (58 ∷ (hexadecimal b ++ (58 ∷ (hexadecimal c ++ (58 ∷ hexadecimal d)))))

-- a dotted quad, or eight groups with colons between them
-- rule: Peer
abbrev pub written : Address → List ℕ
written (V4 n) =
    decimal (n / 2 ^ 24) ++ (46 ∷ (decimal (n / 2 ^ 16 % 256) ++ (46 ∷ (decimal (n / 2 ^ 8 % 256) ++ (46 ∷ decimal (n % 256))))))
written (V6 n) =
    four_groups (group_at n 0) (group_at n 1) (group_at n 2) (group_at n 3)
    ++ (58 ∷ four_groups (group_at n 4) (group_at n 5) (group_at n 6) (group_at n 7))

-- a peer as one is read: its number fits, and it is no IPv4-mapped IPv6 address
-- rule: Peer
abbrev pub IsPeer : Address → Type 0
IsPeer (V4 n) = n < 2 ^ 32
IsPeer (V6 n) = (n < 2 ^ 128) × (n / 2 ^ 32 ≢ 0xffff)
