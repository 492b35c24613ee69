-- Groups while they are read: how many there are, at most eight, and the number that they write.
use Rattle.std.specs.Prelude.{ℕ, ◌+◌, ◌*◌, ◌-◌, ◌^◌, nat_lt, List, [], ◌∷◌, Option, None, Some, if◌then◌else◌}
use Rattle.std.specs.Option.{option_and_then}

-- one group more, if it is not the ninth
abbrev pub count_with : ℕ × ℕ → ℕ → Option (ℕ × ℕ)
count_with c group = if nat_lt c.0 8 then Some (c.0 + 1, c.1 * 65536 + group) else None

-- some groups more
abbrev pub count_all : ℕ × ℕ → List ℕ → Option (ℕ × ℕ)
count_all c [] = Some c
count_all c (group ∷ groups) = option_and_then (λ d. count_all d groups) (count_with c group)

-- the number of eight groups, with zero groups between front and back, of which there is one at least
abbrev pub count_between : ℕ × ℕ → ℕ × ℕ → Option ℕ
count_between front back =
    if nat_lt (front.0 + back.0) 8 then Some (front.1 * 65536 ^ (8 - front.0) + back.1) else None
