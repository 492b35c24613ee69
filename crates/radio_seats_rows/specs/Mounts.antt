-- The prepared mounts: each has a number, a name, and a count of those who sit there, and of those who sit there or sat there last.
use Rattle.std.specs.Prelude.{◌≡◌, ℕ, ◌<◌, Bool, false, ◌==◌, if◌then◌else◌, List, [], Option, Some, None, find}
use Rattle.std.specs.Str.{bytes_eq}
use Rattle.radio_seats_rows.specs.declared.mounts.Mount.{Mount}
use Rattle.radio_seats_rows.specs.declared.mounts.NumberedName.{NumberedName}

abbrev pub is_numbered : ℕ → Mount → Bool
is_numbered number mount = mount.number == number

abbrev pub is_named : List ℕ → NumberedName → Bool
is_named name entry = bytes_eq entry.name name

-- the mounts in the order of their numbers, and their names
pub record Prepared : Type 0 where
  pub names : List (List ℕ)
  pub mounts : List Mount

abbrev pub name_of : Option Mount → List ℕ
name_of None = []
name_of (Some mount) = mount.name

-- the name of the mount of this number; the empty one, which names no mount, if there is none
abbrev pub name_in : List Mount → ℕ → List ℕ
name_in mounts number = name_of (find (is_numbered number) mounts)

abbrev pub sitting_of : Option Mount → ℕ
sitting_of None = 0
sitting_of (Some mount) = mount.sitting

-- how many sit at the mount of this number
abbrev pub sitting_in : List Mount → ℕ → ℕ
sitting_in mounts number = sitting_of (find (is_numbered number) mounts)

abbrev pub naming_of : Option Mount → ℕ
naming_of None = 0
naming_of (Some mount) = mount.naming

-- how many sit at the mount of this number, or sat there last
abbrev pub naming_in : List Mount → ℕ → ℕ
naming_in mounts number = naming_of (find (is_numbered number) mounts)

-- it is the number that was found
abbrev pub is_number : Option ℕ → ℕ → Bool
is_number None number = false
is_number (Some found) number = number == found

-- one where that is the number of its mount, and none elsewhere
abbrev pub one_at : Option ℕ → ℕ → ℕ
one_at None number = 0
one_at (Some his) number = (if his == number then 1 else 0)

-- a mount of this number is there
abbrev pub IsThere : List Mount → ℕ → Type 0
IsThere mounts number = (mount : Mount) × (find (is_numbered number) mounts ≡ Some mount)

-- each mount is found by its name under its number, and by no other; numbers past the last are free
pub record AreMounts (names : List NumberedName) (mounts : List Mount) (last : ℕ) : Type 0 where
  pub by_number : (number : ℕ) (mount : Mount) → find (is_numbered number) mounts ≡ Some mount
      → find (is_named mount.name) names ≡ Some (record { name = mount.name; number = number })
  pub by_name : (name : List ℕ) (entry : NumberedName) → find (is_named name) names ≡ Some entry
      → (mount : Mount) × (find (is_numbered entry.number) mounts ≡ Some mount) × (mount.name ≡ name)
  pub free : (number : ℕ) → last < number → find (is_numbered number) mounts ≡ None
