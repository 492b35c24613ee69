-- Lists that store what is noted, or nothing.
use Rattle.std.specs.Prelude.{ℕ, ◌-◌, ◌^◌, Bool, List, if◌then◌else◌}

-- whether items are stored, which are, and for how many more there is room
pub record NotesOf (A : Type 0) : Type 0 where
  pub keeps : Bool
  pub items : List A
  pub room : ℕ

-- for how many more there is room where so many of so many places are taken; a list that stores nothing always has room
abbrev pub remaining_places : Bool → ℕ → ℕ → ℕ
remaining_places keeps taken places = if keeps then places - taken else 2 ^ 64 - 1
