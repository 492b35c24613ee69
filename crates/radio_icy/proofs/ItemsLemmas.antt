-- Facts about items that are gathered one after another.
use Rattle.std.proofs.Common.{◌≡◌, ℕ, ◌+◌, ◌<◌, List, [], ◌∷◌, ◌++◌, length, take, arith, ap, eqb}
use Rattle.std.specs.Vec.{vec_len}
use Rattle.std.specs.List.{suffix_len}
use Rattle.std.specs.declared.vec.Vec.{Vec}
use Rattle.std.proofs.Common.{Global}
use Rattle.radio_icy.specs.declared.items.Item.{Item}
use Rattle.radio_icy.specs.declared.items.Item.TheVariants.{Sound, Text}
use Rattle.radio_icy.specs.Unweaving.{without_padding}
use Rattle.radio_icy.specs.Items.{AreRuns, EndsInText}

-- a text may follow anything
pub AreRuns-push_text : (items : List Item) (text : Vec ℕ Global) → AreRuns items → AreRuns (items ++ Text text ∷ [])
AreRuns-push_text [] text h = tt
AreRuns-push_text (Text t ∷ items) text h = AreRuns-push_text items text h
AreRuns-push_text (Sound s ∷ []) text h = (h, tt)
AreRuns-push_text (Sound s ∷ Sound more ∷ items) text h = absurd h
AreRuns-push_text (Sound s ∷ Text t ∷ items) text h = (h.0, AreRuns-push_text items text h.1)

-- sound may follow a text, or begin the list
pub AreRuns-push_sound : (items : List Item) (sound : Vec ℕ Global) → AreRuns items → EndsInText items → 0 < vec_len sound → AreRuns (items ++ Sound sound ∷ [])
AreRuns-push_sound [] sound h ends some = some
AreRuns-push_sound (Text t ∷ []) sound h ends some = some
AreRuns-push_sound (Text t ∷ item ∷ items) sound h ends some = AreRuns-push_sound (item ∷ items) sound h ends some
AreRuns-push_sound (Sound s ∷ []) sound h ends some = absurd ends
AreRuns-push_sound (Sound s ∷ Sound more ∷ items) sound h ends some = absurd h
AreRuns-push_sound (Sound s ∷ Text t ∷ items) sound h ends some = (h.0, AreRuns-push_sound (Text t ∷ items) sound h.1 ends some)

pub EndsInText-push : (items : List Item) (text : Vec ℕ Global) → EndsInText (items ++ Text text ∷ [])
EndsInText-push [] text = tt
EndsInText-push (item ∷ []) text = tt
EndsInText-push (item ∷ next ∷ items) text = EndsInText-push (next ∷ items) text

-- the length that a trim from the end leaves
pub take-without_padding : (n : ℕ) (text : List ℕ) → n + suffix_len (λ b. eqb b 0) text ≡ length text → take n text ≡ without_padding text
unfolding without_padding
take-without_padding n text e = ap (λ (m : ℕ). take m text) (omega arith)
