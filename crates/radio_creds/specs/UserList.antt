-- A user list: its lines, its users, and whom it accepts.
use Rattle.std.specs.Prelude.{◌≡◌, ℕ, Bool, false, List, [], ◌∷◌, ◌++◌, Option, None, Some, if◌then◌else◌}
use Rattle.std.specs.Ordering.{nat_cmp}
use Rattle.std.specs.Cmp.Lexicographic.{slice_cmp}
use Rattle.std.specs.FinMap as map
use Rattle.std.specs.List.{filter_map, list_any}
use Rattle.std.specs.Str.{bytes_eq}
use Rattle.radio_texts.specs.Cuts.{fields_at}
use Rattle.radio_texts.specs.Lines.{without_return}
use Rattle.md5.specs.Md5.{md5}
use Rattle.radio_creds.specs.Credentials.{Credentials}
use Rattle.radio_creds.specs.UserLine.{user_line}

-- each line but the last was ended by a line feed, and loses a carriage return before it
abbrev pub ended_lines : List (List ℕ) → List (List ℕ)
ended_lines [] = []
ended_lines (last ∷ []) = last ∷ []
ended_lines (line ∷ next ∷ lines) = without_return line ∷ ended_lines (next ∷ lines)

-- the lines of a text: what is between its line feeds
abbrev pub lines_of : List ℕ → List (List ℕ)
lines_of text = ended_lines (fields_at 10 text)

-- the users and the digests of the well-formed lines, in their order
abbrev pub user_lines : List ℕ → List (List ℕ × List ℕ)
user_lines text = filter_map user_line (lines_of text)

-- a user list as a value: from each user to the digest of the password
abbrev pub UserList : Type 0
UserList = map.FinMap (slice_cmp nat_cmp) (List ℕ)

-- the entries of a map, with its keys read as lists
abbrev pub listed : {K : Type 0} → (K → List ℕ) → List (K × List ℕ) → List (List ℕ × List ℕ)
listed read [] = []
listed read (entry ∷ entries) = (read entry.0, entry.1) ∷ listed read entries

-- the list with the user and the digest of one more line, if there is one and the user is not listed yet
abbrev pub with_line : UserList → Option (List ℕ × List ℕ) → UserList
with_line users None = users
with_line users (Some line) =
    if map.contains_key users line.0 then users else map.insert users line.0 line.1

-- the users of a text, each with the digest of the first of its well-formed lines
-- rule: User list
abbrev pub users_of : List ℕ → UserList
users_of text = map.from_entries (user_lines text)

-- the user is listed with the digest of this password, and no more as it was
-- rule: Change of users
abbrev pub with_user : UserList → List ℕ → List ℕ → UserList
with_user users user password = map.insert users user (md5 password)

-- the user is not listed any more
-- rule: Change of users
abbrev pub without_user : UserList → List ℕ → UserList
without_user users user = map.remove users user

-- the pair's user is listed with the MD5 digest of the pair's password
-- rule: User list
abbrev pub Accepts : UserList → Credentials → Type 0
Accepts users pair = map.get users pair.user ≡ Some (md5 pair.password)

-- the user is listed
abbrev pub has_user : UserList → List ℕ → Bool
has_user users user = map.contains_key users user

-- one of the lines has the user
abbrev pub has_line_of : List ℕ → List (List ℕ × List ℕ) → Bool
has_line_of user lines = list_any (λ line. bytes_eq user line.0) lines

-- the first of the lines that have the user has the digest
-- rule: User list
pub record IsFirstOf (lines : List (List ℕ × List ℕ)) (user digest : List ℕ) : Type 0 where
  pub before : List (List ℕ × List ℕ)
  pub after : List (List ℕ × List ℕ)
  pub are_lines : lines ≡ before ++ (user, digest) ∷ after
  pub none_before : has_line_of user before ≡ false
