use Rattle.std.proofs.Common.{◌≡◌, length}
use Rattle.radio_creds.specs.UserList.{users_of, lines_of}
use Rattle.radio_creds.proofs.LinesLemmas.{with_lines}
use Rattle.radio_creds.proofs.user_list.Users.read.Given as goal

abbrev pub invariant-lines : goal.invariant-lines
invariant-lines l = users_of l.bytes ≡ with_lines l.users (lines_of l.rest)

abbrev pub decreases-lines : goal.decreases-lines
decreases-lines l = length l.rest
