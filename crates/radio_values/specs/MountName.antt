-- The names of mounts.
use Rattle.std.specs.Prelude.{◌≡◌, ℕ, ◌-◌, ◌≤◌, Bool, true, not, ◌&&◌, ◌||◌, nat_le, nat_eq, ◌==◌, List, ◌++◌, length, take, replicate, codes}
use Rattle.std.specs.List.{starts_with, list_all}
use Rattle.std.specs.Str.{is_utf8, bytes_eq}

-- a byte that the name of a mount may have: no control character
abbrev pub is_name_byte : ℕ → Bool
is_name_byte b = nat_le 32 b && not (b == 127)

-- the paths that are the server's own
abbrev pub has_reserved_path : List ℕ → Bool
has_reserved_path bytes = starts_with nat_eq bytes (codes "/admin/") || bytes_eq bytes (codes "/status.json")

-- these bytes name a mount; they begin with a slash, so there is at least one
-- rule: Bad mount; Name of a mount
unfoldable pub is_mount_name : List ℕ → Bool
is_mount_name bytes =
    nat_le (length bytes) 255 && starts_with nat_eq bytes (codes "/") && is_utf8 bytes
    && list_all is_name_byte bytes && not (has_reserved_path bytes)

-- the first len of the bytes are a name, and the others are zeros
pub record HoldsName (len : ℕ) (bytes : List ℕ) : Type 0 where
  pub is_short : len ≤ 255
  pub is_whole : length bytes ≡ 255
  pub is_padded : bytes ≡ take len bytes ++ replicate (255 - len) 0
  pub is_name : is_mount_name (take len bytes) ≡ true
