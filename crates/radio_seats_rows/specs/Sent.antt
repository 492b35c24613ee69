-- The users that were sent.
use Rattle.std.specs.Prelude.{ℕ, Bool, false, List, Option, Some, None}
use Rattle.std.specs.Str.{bytes_eq}
use Rattle.radio_creds.specs.Credentials.{Credentials}

-- the user of the pair that was sent, if one was
abbrev pub user_sent : Option Credentials → Option (List ℕ)
user_sent None = None
user_sent (Some pair) = Some pair.user

-- it is that user
abbrev pub is_user : List ℕ → Option (List ℕ) → Bool
is_user user None = false
is_user user (Some his) = bytes_eq his user
