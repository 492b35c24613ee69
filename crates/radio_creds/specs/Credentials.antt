-- A user and a password, and the text that has both.
use Rattle.std.specs.Prelude.{ℕ, List, Option}
use Rattle.std.specs.Option.{option_map}
use Rattle.radio_texts.specs.Cuts.{cut}

-- who asks, and the password that was sent
pub record Credentials : Type 0 where
  pub user : List ℕ
  pub password : List ℕ

abbrev pub colon : ℕ
colon = 58

-- a text `user:password` is cut at its first colon; with no colon it has no credentials
abbrev pub credentials_of : List ℕ → Option Credentials
credentials_of text = option_map (λ parts. record { user = parts.0; password = parts.1 }) (cut colon text)
