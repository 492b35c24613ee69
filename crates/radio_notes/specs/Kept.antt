-- What is kept of a request for the log.
use Rattle.std.specs.Prelude.{ℕ, List, []}

-- its method, its path, the user that it names and its user agent
pub record Kept : Type 0 where
  pub method : List ℕ
  pub path : List ℕ
  pub user : List ℕ
  pub agent : List ℕ

-- what is kept if no request is known
abbrev pub no_request_kept : Kept
no_request_kept = record { method = []; path = []; user = []; agent = [] }
