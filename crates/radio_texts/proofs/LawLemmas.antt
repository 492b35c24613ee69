-- What a cut is: the first byte of its kind.
use Rattle.std.proofs.Common.{◌≡◌, ℕ, zero, suc, ◌+◌, List, [], ◌∷◌, ◌++◌, Option, None, Some, refl, arith, ap, ◌∙◌, ⊎_elim}
use Rattle.std.specs.List.{Contains}
use Rattle.std.proofs.lemmas.Bool.{eq-eqb, ne_eqb, cases_eq}
use Rattle.radio_texts.specs.Cuts.{cut, onto_front}

-- a byte that is in a text is in a longer one
has_more : (c b : ℕ) (text : List ℕ) → Contains text c → Contains (b ∷ text) c
has_more c b text (k, below, is) = let next : k + 1 ≡ suc k = omega arith in (suc k, omega arith, is)

has_none : (c b : ℕ) (text : List ℕ) → (b ≡ c → ⊥) → (Contains text c → ⊥) → Contains (b ∷ text) c → ⊥
has_none c b text apart none (zero, below, is) = apart is
has_none c b text apart none (suc k, below, is) = none (k, omega arith, is)

abbrev FirstCut : ℕ → List ℕ → List ℕ × List ℕ → Type 0
FirstCut c text parts = (text ≡ parts.0 ++ c ∷ parts.1) × (Contains parts.0 c → ⊥)

abbrev Finds : ℕ → List ℕ → Option (List ℕ × List ℕ) → Type 0
Finds c text None = Contains text c → ⊥
Finds c text (Some parts) = FirstCut c text parts

finds_later : (c b : ℕ) (text : List ℕ) (o : Option (List ℕ × List ℕ)) → (b ≡ c → ⊥) → Finds c text o → Finds c (b ∷ text) (onto_front b o)
finds_later c b text None apart none = has_none c b text apart none
finds_later c b text (Some parts) apart is = (ap (λ t. b ∷ t) is.0, has_none c b parts.0 apart is.1)

nothing : (c : ℕ) → Contains [] c → ⊥
nothing c (k, below, is) = omega arith

finds : (c : ℕ) (text : List ℕ) → Finds c text (cut c text)
finds c [] = nothing c
finds c (b ∷ text) = ⊎_elim
    (λ (same : b ≡ c). rw (eq-eqb b c same) (ap (λ d. d ∷ text) same, nothing c))
    (λ (apart : b ≡ c → ⊥). rw (ne_eqb b c apart) (finds_later c b text (cut c text) apart (finds c text)))
    (cases_eq b c)

cut_here : (c : ℕ) (front back : List ℕ) → (Contains front c → ⊥) → cut c (front ++ c ∷ back) ≡ Some (front, back)
cut_here c [] back none = rw (eq-eqb c c refl) refl
cut_here c (b ∷ front) back none =
    rw (ne_eqb b c (λ is. none (0, omega arith, is)))
    (ap (onto_front b) (cut_here c front back (λ has. none (has_more c b front has))))

cut_nowhere : (c : ℕ) (text : List ℕ) → (Contains text c → ⊥) → cut c text ≡ None
cut_nowhere c [] none = refl
cut_nowhere c (b ∷ text) none =
    rw (ne_eqb b c (λ is. none (0, omega arith, is)))
    (ap (onto_front b) (cut_nowhere c text (λ has. none (has_more c b text has))))

pub cut-first : (c : ℕ) (text front back : List ℕ)
    → (cut c text ≡ Some (front, back) → (text ≡ front ++ c ∷ back) × (Contains front c → ⊥))
    × ((text ≡ front ++ c ∷ back) × (Contains front c → ⊥) → cut c text ≡ Some (front, back))
cut-first c text front back = (
  λ cuts. rw cuts at (finds c text),
  λ is. ap (cut c) is.0 ∙ cut_here c front back is.1,
)

pub cut-none : (c : ℕ) (text : List ℕ)
    → (cut c text ≡ None → Contains text c → ⊥) × ((Contains text c → ⊥) → cut c text ≡ None)
cut-none c text = (λ none. rw none at (finds c text), cut_nowhere c text)
