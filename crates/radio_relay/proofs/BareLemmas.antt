-- The sound and the titles that are pulled in.
use Rattle.std.proofs.Common.{◌≡◌, ℕ, List, [], ◌∷◌, ◌++◌, map, ap, ◌∙◌, refl, Option, None, Some}
use Rattle.radio_relay.proofs.Words.{bare, block_texts, texts_in, title_of, StreamItem, SoundByte, WholeText, new_unweaving, atoms_of_piece, PulledPart, SoundPart, title_parts, parts_heard, sound_of_parts, titles_in}
use Rattle.radio_relay.proofs.Words.{titles_of_texts, PlainIsSound, WovenIsBare}
use Rattle.radio_icy.specs.Bare.{sound_in as sound_heard}
use Rattle.radio_values.specs.Cleaning.{cleaned}
use Rattle.radio_values.specs.Limits.{max_title}

-- plain sound
plain-sound : (bytes : List ℕ) → sound_of_parts (map (λ b. SoundPart b) bytes) ≡ bytes
plain-sound [] = refl
plain-sound (b ∷ bytes) = ap (λ (xs : List ℕ). b ∷ xs) (plain-sound bytes)

plain-titles : (bytes : List ℕ) → titles_in (map (λ b. SoundPart b) bytes) ≡ []
plain-titles [] = refl
plain-titles (b ∷ bytes) = plain-titles bytes

-- a title brings no sound
title-sound : (title : Option (List ℕ)) (parts : List PulledPart) → sound_of_parts (title_parts title ++ parts) ≡ sound_of_parts parts
title-sound None parts = refl
title-sound (Some title) parts = refl

title-titles : (texts : List (List ℕ)) (text : List ℕ) (title : Option (List ℕ)) (parts : List PulledPart) → title_of text ≡ title
    → titles_in parts ≡ titles_of_texts texts → titles_in (title_parts title ++ parts) ≡ titles_of_texts (text ∷ texts)
title-titles texts text None parts is same = rw is same
title-titles texts text (Some title) parts is same = rw is (ap (λ (titles : List (List ℕ)). cleaned max_title title ∷ titles) same)

-- the sound of the parts is the sound read
heard-sound : (atoms : List StreamItem) → sound_of_parts (parts_heard atoms) ≡ sound_heard atoms
heard-sound [] = refl
heard-sound (SoundByte b ∷ atoms) = ap (λ (xs : List ℕ). b ∷ xs) (heard-sound atoms)
heard-sound (WholeText text ∷ atoms) = title-sound (title_of text) (parts_heard atoms) ∙ heard-sound atoms

heard-titles : (atoms : List StreamItem) → titles_in (parts_heard atoms) ≡ titles_of_texts (texts_in atoms)
heard-titles [] = refl
heard-titles (SoundByte b ∷ atoms) = heard-titles atoms
heard-titles (WholeText text ∷ atoms) = title-titles (texts_in atoms) text (title_of text) (parts_heard atoms) refl (heard-titles atoms)

pub plain_is_sound : PlainIsSound
plain_is_sound head rest is = rw is (plain-sound rest, plain-titles rest)

-- from the laws of what is read in a stream from its start
pub woven_is_bare : ((n : ℕ) (out : List ℕ) → sound_heard (atoms_of_piece (new_unweaving n) out) ≡ bare n out)
    → ((n : ℕ) (out : List ℕ) → texts_in (atoms_of_piece (new_unweaving n) out) ≡ block_texts n out) → WovenIsBare
woven_is_bare sounds texts head n rest is =
    let atoms = atoms_of_piece (new_unweaving n) rest in
    rw is (heard-sound atoms ∙ sounds n rest, heard-titles atoms ∙ ap titles_of_texts (texts n rest))
