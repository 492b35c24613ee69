-- A line of a user list.
use Rattle.std.specs.Prelude.{◌≡◌, ◌≢◌, ℕ, ◌==◌, List, ◌∷◌, ◌++◌, slice_index, Option, None, Ok, if◌then◌else◌}
use Rattle.std.specs.List.{Contains}
use Rattle.std.specs.Option.{option_map, option_and_then}
use Rattle.std.specs.Result.{result_ok}
use Rattle.hex.specs.Hex.{decode_sized}
use Rattle.radio_texts.specs.Cuts.{cut}
use Rattle.radio_creds.specs.Credentials.{colon}

abbrev pub hash : ℕ
hash = 35

-- the line is `user:digits`, cut at its first colon; it does not begin with `#`; and the digits are the 32 hexadecimal
-- digits, in either case, of the 16 bytes of the digest
-- rule: User list
pub record IsUserLine (line user digest : List ℕ) : Type 0 where
  pub digits : List ℕ
  pub is_line : line ≡ user ++ colon ∷ digits
  pub no_colon : ¬ Contains user colon
  pub no_comment : slice_index line 0 ≢ hash
  pub is_digest : decode_sized digits 16 ≡ Ok digest

-- the 16 bytes that 32 hexadecimal digits write
abbrev pub digest_written : List ℕ → Option (List ℕ)
digest_written digits = result_ok (decode_sized digits 16)

-- the user and the digest of a line: the function of which `IsUserLine` is the meaning
unfoldable pub user_line : List ℕ → Option (List ℕ × List ℕ)
user_line line =
    if slice_index line 0 == hash then None
    else option_and_then (λ parts. option_map (λ digest. (parts.0, digest)) (digest_written parts.1)) (cut colon line)
