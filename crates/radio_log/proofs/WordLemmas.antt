-- Texts cut at a byte that their parts lack.
use Rattle.std.proofs.Common.{◌≡◌, ◌≢◌, ℕ, List, [], ◌∷◌, ◌++◌, Some, refl, ap, ◌∙◌}
use Rattle.std.specs.List.{AllByRecursion, flat_map}
use Rattle.std.proofs.lemmas.Bool.{eq-eqb, ne_eqb}
use Rattle.std.proofs.lemmas.List.{append-nil}
use Rattle.radio_texts.specs.Cuts.{cut, fields_at, onto_first, onto_front}
use Rattle.radio_log.specs.Lines.{spaced}

-- the text lacks the byte
abbrev pub Lacks : ℕ → List ℕ → Type 0
Lacks c text = AllByRecursion (λ b. b ≢ c) text

pub cut_at : (c : ℕ) (front back : List ℕ) → Lacks c front → cut c (front ++ c ∷ back) ≡ Some (front, back)
cut_at c [] back h = rw (eq-eqb c c refl) refl
cut_at c (b ∷ front) back h = rw (ne_eqb b c h.0) (ap (onto_front b) (cut_at c front back h.1))

first_field : (c : ℕ) (field rest : List ℕ) → Lacks c field → fields_at c (field ++ c ∷ rest) ≡ field ∷ fields_at c rest
first_field c [] rest h = rw (eq-eqb c c refl) refl
first_field c (b ∷ field) rest h = rw (ne_eqb b c h.0) (ap (onto_first b) (first_field c field rest h.1))

only_field : (c : ℕ) (field : List ℕ) → Lacks c field → fields_at c field ≡ field ∷ []
only_field c [] h = refl
only_field c (b ∷ field) h = rw (ne_eqb b c h.0) (ap (onto_first b) (only_field c field h.1))

-- words behind spaces are the words between spaces
pub words_read : (word : List ℕ) (words : List (List ℕ)) → Lacks 32 word → AllByRecursion (Lacks 32) words
    → fields_at 32 (word ++ flat_map spaced words) ≡ word ∷ words
unfolding spaced
words_read word [] h k = rw append-nil (only_field 32 word h)
words_read word (next ∷ words) h k =
    first_field 32 word (next ++ flat_map spaced words) h ∙ ap (λ (ws : List (List ℕ)). word ∷ ws) (words_read next words k.0 k.1)
