-- Data that a listener draws.
use Rattle.std.specs.Prelude.{ℕ, List, [], ◌∷◌}
use Rattle.radio_blocks.specs.declared.pieces.Slices.{Slices}
use Rattle.radio_blocks.specs.declared.pieces.Slices.TheVariants.{One, Many}

-- the slices, in order
abbrev pub slices_of : Slices → List (List ℕ)
slices_of (One slice) = slice ∷ []
slices_of (Many slices) = slices.items
