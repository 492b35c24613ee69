-- A part that is lent.
use Rattle.std.specs.Prelude.{Bool, not, ℕ, List}
use Rattle.std.specs.Str.{bytes_eq}

-- every mount but this
abbrev pub all_but : List ℕ → List ℕ → Bool
all_but mount other = not (bytes_eq mount other)
