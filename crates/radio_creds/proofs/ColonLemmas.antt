-- A text cut at its first colon.
use Rattle.std.proofs.Common.{◌≡◌, ℕ, ◌+◌, ◌<◌, List, ◌∷◌, ◌++◌, length, take, drop, length-append, None, Some, refl, arith, sym, ap, subst, ◌∙◌}
use Rattle.std.specs.List.{Contains}
use Rattle.std.specs.Option.{option_map, is_some, unwrap_or}
use Rattle.std.proofs.lemmas.Bool.{false≢true}
use Rattle.std.proofs.Math.Seq.{take-append_seam, drop-append-add}
use Rattle.radio_texts.specs.Cuts.{cut}
use Rattle.radio_creds.specs.Credentials.{Credentials, colon, credentials_of}

-- a cut is at the first byte of its kind
abbrev pub CutsFirst : Type 0
CutsFirst = (at : ℕ) (text front back : List ℕ)
    → (cut at text ≡ Some (front, back) → (text ≡ front ++ at ∷ back) × (Contains front at → ⊥))
    × ((text ≡ front ++ at ∷ back) × (Contains front at → ⊥) → cut at text ≡ Some (front, back))

abbrev of_parts : List ℕ × List ℕ → Credentials
of_parts parts = record { user = parts.0; password = parts.1 }

-- what `credentials_of` says
pub credentials_of-user : CutsFirst → (user password : List ℕ) → ¬ Contains user colon
    → credentials_of (user ++ colon ∷ password) ≡ Some (record { user = user; password = password })
credentials_of-user first user password none =
    ap (option_map of_parts) ((first colon (user ++ colon ∷ password) user password).1 (refl, none))

pub credentials_of-text : CutsFirst → (text : List ℕ) (pair : Credentials) → credentials_of text ≡ Some pair
    → (text ≡ pair.user ++ colon ∷ pair.password) × (¬ Contains pair.user colon)
credentials_of-text first text pair h =
    elim (cut colon text) as (λ o. cut colon text ≡ o → option_map of_parts o ≡ Some pair
    → (text ≡ pair.user ++ colon ∷ pair.password) × (¬ Contains pair.user colon)) [
      | None ↦ λ is none. absurd (false≢true (ap is_some none))
      | Some parts ↦ λ is some. subst (λ (p : Credentials). (text ≡ p.user ++ colon ∷ p.password) × (¬ Contains p.user colon))
          (ap (λ o. unwrap_or o pair) some) ((first colon text parts.0 parts.1).0 is)
    ] refl h

-- a pair as the text that has it, with the length of its user
pub of_text-some : CutsFirst → (text : List ℕ) (n : ℕ) → Some n ≡ option_map (λ parts. length parts.0) (cut colon text)
    → (n < length text) × (Some (record { user = take n text; password = drop (n + 1) text }) ≡ credentials_of text)
of_text-some first text n h =
    elim (cut colon text) as (λ o. cut colon text ≡ o → Some n ≡ option_map (λ parts. length parts.0) o
    → (n < length text) × (Some (record { user = take n text; password = drop (n + 1) text }) ≡ option_map of_parts o)) [
      | None ↦ λ is none. absurd (false≢true (ap is_some (sym none)))
      | Some parts ↦ λ is some.
          let whole : text ≡ parts.0 ++ colon ∷ parts.1 = ((first colon text parts.0 parts.1).0 is).0 in
          let size : n ≡ length parts.0 = cc in (
            rw (whole, size) (omega (arith, length-append parts.0 (colon ∷ parts.1))),
            rw (whole, size) (ap (λ user. Some (of_parts (user, drop (length parts.0 + 1) (parts.0 ++ colon ∷ parts.1))))
                (take-append_seam parts.0 (colon ∷ parts.1))
                ∙ ap (λ password. Some (of_parts (parts.0, password))) (drop-append-add parts.0 (colon ∷ parts.1) 1)),
          )
    ] refl h
