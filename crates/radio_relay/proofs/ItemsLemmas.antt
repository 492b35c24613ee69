-- Items that are gathered one part after another.
use Rattle.std.proofs.Common.{◌≡◌, ℕ, List, [], ◌∷◌, ◌++◌, map, ap, sym, ◌∙◌, refl, append_assoc, append-nil}
use Rattle.radio_relay.proofs.Words.{flat_map-append, Item, atoms_of, atoms_of_item, title_of, SoundByte, WholeText, PulledPart, SoundPart, title_parts, parts_of_atom, parts_heard, Gathered, nothing_gathered, all_items}
use Rattle.radio_relay.proofs.Words.{with_gathered_part, with_parts, items_of}

-- sound makes the run longer
pub with_parts_of_sound : (g : Gathered) (sound : List ℕ) → with_parts g (map (λ b. SoundPart b) sound) ≡ record g { run = g.run ++ sound }
with_parts_of_sound g [] = ap (λ (run : List ℕ). record g { run = run }) (sym (append-nil g.run))
with_parts_of_sound g (b ∷ sound) =
    with_parts_of_sound (record g { run = g.run ++ b ∷ [] }) sound ∙ ap (λ (run : List ℕ). record g { run = run }) (append_assoc g.run (b ∷ []) sound)

-- parts one after another
pub with_parts-append : (g : Gathered) (one other : List PulledPart) → with_parts g (one ++ other) ≡ with_parts (with_parts g one) other
with_parts-append g [] other = refl
with_parts-append g (part ∷ one) other = with_parts-append (with_gathered_part g part) one other

-- the parts of an item and of the items after it
pub with_parts-heard : (g : Gathered) (item : Item) (items : List Item)
    → with_parts g (parts_heard (atoms_of (item ∷ items))) ≡ with_parts (with_parts g (parts_heard (atoms_of_item item))) (parts_heard (atoms_of items))
with_parts-heard g item items =
    ap (with_parts g) (flat_map-append parts_of_atom (atoms_of_item item) (atoms_of items))
    ∙ with_parts-append g (parts_heard (atoms_of_item item)) (parts_heard (atoms_of items))

-- the parts of sound
pub parts_heard-sound : (sound : List ℕ) → parts_heard (map (λ b. SoundByte b) sound) ≡ map (λ b. SoundPart b) sound
parts_heard-sound [] = refl
parts_heard-sound (b ∷ sound) = ap (λ (parts : List PulledPart). SoundPart b ∷ parts) (parts_heard-sound sound)

-- the parts of a text
pub parts_heard-text : (text : List ℕ) → parts_heard (WholeText text ∷ []) ≡ title_parts (title_of text)
parts_heard-text text = append-nil (title_parts (title_of text))

-- the items of some parts, and of those behind them
pub items_of-append : (before parts : List PulledPart) → all_items (with_parts (with_parts nothing_gathered before) parts) ≡ items_of (before ++ parts)
items_of-append before parts = ap all_items (sym (with_parts-append nothing_gathered before parts))

pub ruleset parts_heard_rules = (parts_heard-sound, parts_heard-text)
