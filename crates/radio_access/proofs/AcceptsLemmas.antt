-- whether users accept a pair, as a test and as a statement
use Rattle.std.proofs.Common.{◌≡◌, ℕ, List, Option, Some, None, ap}
use Rattle.std.specs.FinMap as map
use Rattle.std.specs.Bool.{Decides}
use Rattle.std.proofs.lemmas.Slice.Eq.{bytes_eq-Decides}
use Rattle.md5.specs.Md5.{md5}
use Rattle.radio_creds.specs.Credentials.{Credentials}
use Rattle.radio_creds.specs.UserList.{UserList, Accepts}
use Rattle.radio_access.specs.Lists.{is_digest_of, accepts}

digest-Decides : (password : List ℕ) (listed : Option (List ℕ)) → Decides (is_digest_of password listed) (listed ≡ Some (md5 password))
digest-Decides password None = (λ e. cc, λ e. cc)
digest-Decides password (Some digest) =
    let same = bytes_eq-Decides digest (md5 password) in
    (λ e. ap Some (same.0 e), λ e. same.1 (cc e))

pub accepts-Decides : (users : UserList) (pair : Credentials) → Decides (accepts users (Some pair)) (Accepts users pair)
accepts-Decides users pair = digest-Decides pair.password (map.get users pair.user)
