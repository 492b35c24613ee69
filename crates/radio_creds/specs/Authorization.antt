-- The value of a header `Authorization` in the scheme Basic (RFC 7617, section 2).
use Rattle.std.specs.Prelude.{◌≡◌, ℕ, suc, ◌==◌, ◌&&◌, List, [], ◌∷◌, ◌++◌, take, drop, replicate, slice_index, map, codes, Option, None, Some, if◌then◌else◌}
use Rattle.std.specs.Char.{to_ascii_lowercase}
use Rattle.std.specs.List.{Contains}
use Rattle.std.specs.Option.{option_and_then}
use Rattle.std.specs.Str.{bytes_eq}
use Rattle.base64.specs.Engines.{standard}
use Rattle.base64.specs.GeneralPurpose.{encode_of, decoded_of, IsBytes}
use Rattle.radio_creds.specs.Credentials.{Credentials, colon, credentials_of}

abbrev pub space : ℕ
space = 32

-- the value is the scheme `Basic` in any ASCII case, one or more spaces, and the padded base64 of `user:password`
-- (RFC 4648, section 4), in which the user has no colon
-- rule: Authorization
pub record IsBasicPair (value : List ℕ) (pair : Credentials) : Type 0 where
  pub scheme : List ℕ
  pub more_spaces : ℕ
  pub is_basic : map to_ascii_lowercase scheme ≡ codes "basic"
  pub is_value : value ≡ scheme ++ (replicate (suc more_spaces) space ++ encode_of standard (pair.user ++ colon ∷ pair.password))
  pub is_bytes : IsBytes (pair.user ++ colon ∷ pair.password)
  pub no_colon : ¬ Contains pair.user colon

-- what follows the spaces at the front
abbrev pub without_spaces : List ℕ → List ℕ
without_spaces [] = []
without_spaces (b ∷ text) = if b == space then without_spaces text else b ∷ text

-- what follows the scheme and its spaces
unfoldable pub basic_text : List ℕ → Option (List ℕ)
basic_text value =
    if bytes_eq (map to_ascii_lowercase (take 5 value)) (codes "basic") && slice_index value 5 == space
    then Some (without_spaces (drop 5 value)) else None

-- the pair of a value: the function of which `IsBasicPair` is the meaning
unfoldable pub basic_pair : List ℕ → Option Credentials
basic_pair value =
    option_and_then (λ text. option_and_then credentials_of (decoded_of standard text)) (basic_text value)
