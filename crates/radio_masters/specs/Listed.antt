-- How much of a slave's list is kept.
use Rattle.std.specs.Prelude.{ℕ}

-- so many names of a list are relayed at most
-- rule: List of a slave
abbrev pub most_listed : ℕ
most_listed = 10000
