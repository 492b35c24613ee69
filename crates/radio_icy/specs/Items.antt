-- The items of a call, as the bytes of sound and the texts in them.
use Rattle.std.specs.Prelude.{◌<◌, List, [], ◌∷◌, map}
use Rattle.std.specs.Vec.{vec_len}
use Rattle.std.specs.List.{flat_map}
use Rattle.radio_icy.specs.declared.items.Item.{Item}
use Rattle.radio_icy.specs.declared.items.Item.TheVariants.{Sound, Text}
use Rattle.radio_icy.specs.Unweaving.{StreamItem, SoundByte, WholeText}

-- the atoms of one item
abbrev pub atoms_of_item : Item → List StreamItem
atoms_of_item (Sound sound) = map (λ b. SoundByte b) sound.items
atoms_of_item (Text text) = WholeText text.items ∷ []

-- the atoms of some items
abbrev pub atoms_of : List Item → List StreamItem
atoms_of items = flat_map atoms_of_item items

-- each item of sound has some, and no two are adjacent
abbrev pub AreRuns : List Item → Type 0
AreRuns [] = Unit {0}
AreRuns (Text text ∷ items) = AreRuns items
AreRuns (Sound sound ∷ []) = 0 < vec_len sound
AreRuns (Sound sound ∷ Sound more ∷ items) = ⊥
AreRuns (Sound sound ∷ Text text ∷ items) = (0 < vec_len sound) × AreRuns items

-- sound may follow
abbrev pub EndsInText : List Item → Type 0
EndsInText [] = Unit {0}
EndsInText (Text text ∷ []) = Unit {0}
EndsInText (Sound sound ∷ []) = ⊥
EndsInText (item ∷ next ∷ items) = EndsInText (next ∷ items)
