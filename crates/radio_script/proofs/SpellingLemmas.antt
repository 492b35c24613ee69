-- Texts are read as the grammar says.
use Rattle.std.proofs.Common.{◌≡◌, ◌↔◌, ℕ, zero, suc, ◌+◌, ◌*◌, ◌≤◌, ◌⊎◌, ◌==◌, inl, inr, Bool, true, false, cond, List, [], ◌∷◌, ◌++◌, length, Option, None}
use Rattle.std.proofs.Common.{Some, refl, ap, ◌∙◌, subst, arith}
use Rattle.radio_script.proofs.Words.{option_map, option_to_list, nat_tests, EscapePlace, Between, Escape, High, Low, is_unescaped, hex_value_of, step_at, unescaped_from, unescaped}
use Rattle.radio_script.specs.Steps.{◌>>=◌}
use Rattle.radio_script.specs.Spelling.{Spells, as_itself, as_return, as_feed, as_backslash, as_digits, SpellsAll, none, more}
use Rattle.radio_script.proofs.EscapeLemmas.{ReadsAs, read_named, read_plain, three_more}

-- ---- every text of the grammar is read

plain_is_no_backslash : (b : ℕ) → is_unescaped b ≡ true → (b == 92) ≡ false
plain_is_no_backslash b h = grind (arith, nat_tests, h)

reads_spelling : (piece : List ℕ) (b : ℕ) (text : List ℕ) → Spells piece b → ReadsAs (piece ++ text) b text
reads_spelling piece b text (as_itself h) = read_plain b text (plain_is_no_backslash b h) h
reads_spelling piece b text as_return = read_named 13 114 text refl
reads_spelling piece b text as_feed = read_named 10 110 text refl
reads_spelling piece b text as_backslash = read_named 92 92 text refl
reads_spelling piece b text (as_digits {h = h} {l = l} {high = high} {low = low} first second) =
    rw (first, first, second) (three_more (high * 16 + low) (unescaped_from Between text))

reads_all : (text bytes : List ℕ) → SpellsAll text bytes → unescaped_from Between text ≡ Some bytes
reads_all text bytes none = refl
reads_all text bytes (more {piece = piece} {text = rest} {bytes = others} {b = b} s t) =
    reads_spelling piece b rest s ∙ ap (option_map (λ ys. b ∷ ys)) (reads_all rest others t)

-- ---- every text that is read is of the grammar

-- a step, and the reading of the text after it
record Stepped (place : EscapePlace) (b : ℕ) (text bytes : List ℕ) : Type 0 where
  step : EscapePlace × Option ℕ
  rest : List ℕ
  is : step_at place b ≡ Some step
  follows : unescaped_from step.0 text ≡ Some rest
  all : option_to_list step.1 ++ rest ≡ bytes

stepped_on : (place : EscapePlace) (b : ℕ) (text bytes : List ℕ) (step : EscapePlace × Option ℕ) → step_at place b ≡ Some step → (o : Option (List ℕ))
    → unescaped_from step.0 text ≡ o
    → option_map (λ ys. option_to_list step.1 ++ ys) o ≡ Some bytes → Stepped place b text bytes
stepped_on place b text bytes step e None f h = cc
stepped_on place b text bytes step e (Some rest) f h = record { step = step; rest = rest; is = e; follows = f; all = cc }

stepped_by : (place : EscapePlace) (b : ℕ) (text bytes : List ℕ) (o : Option (EscapePlace × Option ℕ)) → step_at place b ≡ o
    → (o >>= λ step. option_map (λ ys. option_to_list step.1 ++ ys) (unescaped_from step.0 text)) ≡ Some bytes → Stepped place b text bytes
stepped_by place b text bytes None e h = cc
stepped_by place b text bytes (Some step) e h = stepped_on place b text bytes step e (unescaped_from step.0 text) refl h

-- Reading goes on from a place only by a step.
stepped : (place : EscapePlace) (b : ℕ) (text bytes : List ℕ) → unescaped_from place (b ∷ text) ≡ Some bytes → Stepped place b text bytes
stepped Between b text bytes h = stepped_by Between b text bytes (step_at Between b) refl h
stepped Escape b text bytes h = stepped_by Escape b text bytes (step_at Escape b) refl h
stepped High b text bytes h = stepped_by High b text bytes (step_at High b) refl h
stepped (Low high) b text bytes h = stepped_by (Low high) b text bytes (step_at (Low high) b) refl h

-- every shorter text that is read is of the grammar
abbrev AllSpelled : ℕ → Type 0
AllSpelled n = (text bytes : List ℕ) → length text ≤ n → unescaped_from Between text ≡ Some bytes → SpellsAll text bytes

pub chosen : {A : Type 0} (t : Bool) (x y z : A) → cond t x y ≡ z → ((t ≡ true) × (x ≡ z)) ⊎ ((t ≡ false) × (y ≡ z))
chosen true x y z e = inl (refl, e)
chosen false x y z e = inr (refl, e)

pub bind_some : {A B : Type 0} (o : Option A) (f : A → Option B) (y : B) → (o >>= f) ≡ Some y → (x : A) × (o ≡ Some x) × (f x ≡ Some y)
bind_some None f y e = cc
bind_some (Some x) f y e = (x, refl, e)

-- The step leads to this place and gives this byte, or none.
goes_to : (place : EscapePlace) (given : Option ℕ) (step : EscapePlace × Option ℕ) (text rest bytes : List ℕ) → Some (place, given) ≡ Some step
    → unescaped_from step.0 text ≡ Some rest → option_to_list step.1 ++ rest ≡ bytes
    → (unescaped_from place text ≡ Some rest) × (option_to_list given ++ rest ≡ bytes)
goes_to place given step text rest bytes e follows all =
    let same : step ≡ (place, given) = cc in (
      subst (λ (p : EscapePlace × Option ℕ). unescaped_from p.0 text ≡ Some rest) same follows,
      subst (λ (p : EscapePlace × Option ℕ). option_to_list p.1 ++ rest ≡ bytes) same all,
    )

-- a byte is complete, and the rest of the text is of the grammar
spelled_more : (n : ℕ) → AllSpelled n → (piece : List ℕ) (b : ℕ) (text rest bytes : List ℕ) → length text ≤ n → Spells piece b
    → (unescaped_from Between text ≡ Some rest) × ((b ∷ []) ++ rest ≡ bytes) → SpellsAll (piece ++ text) bytes
spelled_more n all piece b text rest bytes h s r =
    subst (λ ys. SpellsAll (piece ++ text) ys) r.1 (more s (all text rest h r.0))

-- after `\xH`
spelled_low : (n : ℕ) → AllSpelled n → (high first : ℕ) (text bytes : List ℕ) → length text ≤ n → hex_value_of high ≡ Some first
    → unescaped_from (Low high) text ≡ Some bytes → SpellsAll (92 ∷ 120 ∷ high ∷ text) bytes
spelled_low n all high first [] bytes h x e = cc
spelled_low n all high first (low ∷ text) bytes h x e =
    let s = stepped (Low high) low text bytes e in
    let one = bind_some (hex_value_of high) (λ a. hex_value_of low >>= λ b. Some (Between, Some (a * 16 + b))) s.step s.is in
    let two = bind_some (hex_value_of low) (λ b. Some (Between, Some (one.0 * 16 + b))) s.step one.2 in
    spelled_more n all (92 ∷ 120 ∷ high ∷ low ∷ []) (one.0 * 16 + two.0) text s.rest bytes (omega arith) (as_digits one.1 two.1)
    (goes_to Between (Some (one.0 * 16 + two.0)) s.step text s.rest bytes two.2 s.follows s.all)

-- after `\x`
spelled_high : (n : ℕ) → AllSpelled n → (text bytes : List ℕ) → length text ≤ n → unescaped_from High text ≡ Some bytes → SpellsAll (92 ∷ 120 ∷ text) bytes
spelled_high n all [] bytes h e = cc
spelled_high n all (high ∷ text) bytes h e =
    let s = stepped High high text bytes e in
    let one = bind_some (hex_value_of high) (λ _. Some (Low high, None)) s.step s.is in
    let r = goes_to (Low high) None s.step text s.rest bytes one.2 s.follows s.all in
    spelled_low n all high one.0 text bytes (omega arith) one.1 (r.0 ∙ ap Some r.1)

-- after a backslash
spelled_named : (n : ℕ) → AllSpelled n → (c v : ℕ) (text bytes : List ℕ) → length text ≤ n → Spells (92 ∷ c ∷ []) v → (s : Stepped Escape c text bytes)
    → Some (Between, Some v) ≡ Some s.step → SpellsAll (92 ∷ c ∷ text) bytes
spelled_named n all c v text bytes h spells s e =
    spelled_more n all (92 ∷ c ∷ []) v text s.rest bytes h spells (goes_to Between (Some v) s.step text s.rest bytes e s.follows s.all)

is_byte : (a b : ℕ) → (a == b) ≡ true → b ≡ a
is_byte a b h = grind (arith, nat_tests, h)

spelled_escape : (n : ℕ) → AllSpelled n → (text bytes : List ℕ) → length text ≤ n → unescaped_from Escape text ≡ Some bytes → SpellsAll (92 ∷ text) bytes
spelled_escape n all [] bytes h e = cc
spelled_escape n all (c ∷ text) bytes h e =
    let s = stepped Escape c text bytes e in
    let short : length text ≤ n = omega arith in
    elim (chosen (c == 114) (Some (Between, Some 13)) _ (Some s.step) s.is) [
      | inl p ↦ spelled_named n all c 13 text bytes short (subst (λ x. Spells (92 ∷ x ∷ []) 13) (is_byte c 114 p.0) as_return) s p.1
      | inr p ↦ elim (chosen (c == 110) (Some (Between, Some 10)) _ (Some s.step) p.1) [
        | inl q ↦ spelled_named n all c 10 text bytes short (subst (λ x. Spells (92 ∷ x ∷ []) 10) (is_byte c 110 q.0) as_feed) s q.1
        | inr q ↦ elim (chosen (c == 92) (Some (Between, Some 92)) _ (Some s.step) q.1) [
          | inl r ↦ spelled_named n all c 92 text bytes short (subst (λ x. Spells (92 ∷ x ∷ []) 92) (is_byte c 92 r.0) as_backslash) s r.1
          | inr r ↦ elim (chosen (c == 120) (Some (High, None)) None (Some s.step) r.1) [
            | inl t ↦
                let to = goes_to High None s.step text s.rest bytes t.1 s.follows s.all in
                subst (λ x. SpellsAll (92 ∷ x ∷ text) bytes) (is_byte c 120 t.0) (spelled_high n all text bytes short (to.0 ∙ ap Some to.1))
            | inr t ↦ cc
          ]
        ]
      ]
    ]

spelled_between : (n : ℕ) → AllSpelled n → (b : ℕ) (text bytes : List ℕ) → length text ≤ n → unescaped_from Between (b ∷ text) ≡ Some bytes
    → SpellsAll (b ∷ text) bytes
spelled_between n all b text bytes h e =
    let s = stepped Between b text bytes e in
    elim (chosen (b == 92) (Some (Escape, None)) _ (Some s.step) s.is) [
      | inl p ↦
          let to = goes_to Escape None s.step text s.rest bytes p.1 s.follows s.all in
          subst (λ x. SpellsAll (x ∷ text) bytes) (is_byte b 92 p.0) (spelled_escape n all text bytes h (to.0 ∙ ap Some to.1))
      | inr p ↦ elim (chosen (is_unescaped b) (Some (Between, Some b)) None (Some s.step) p.1) [
        | inl q ↦ spelled_more n all (b ∷ []) b text s.rest bytes h (as_itself q.0) (goes_to Between (Some b) s.step text s.rest bytes q.1 s.follows s.all)
        | inr q ↦ cc
      ]
    ]

all_spelled : (n : ℕ) → AllSpelled n
all_spelled n [] bytes h e = let same : [] ≡ bytes = cc in subst (λ ys. SpellsAll [] ys) same none
all_spelled zero (b ∷ text) bytes h e = absurd (omega (arith, h))
all_spelled (suc n) (b ∷ text) bytes h e = spelled_between n (all_spelled n) b text bytes (omega arith) e

pub spelled : (text bytes : List ℕ) → (unescaped text ≡ Some bytes) ↔ SpellsAll text bytes
unfolding unescaped
spelled text bytes = (λ e. all_spelled (length text) text bytes (omega arith) e, reads_all text bytes)
