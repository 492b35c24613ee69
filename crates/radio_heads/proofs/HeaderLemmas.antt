-- The value of a header, by the spans of the headers.
use Rattle.std.proofs.Common.{◌≡◌, ℕ, Bool, true, false, cond, List, [], ◌∷◌, map, Option, Some, refl, sym, ap, ◌∙◌}
use Rattle.std.specs.Prelude.{option_map, find}
use Rattle.httparse.specs.declared.spans.HeaderSpan.{HeaderSpan}
use Rattle.httparse.specs.Spans.{header_bytes, span_bytes}
use Rattle.radio_heads.specs.Headers.{is_same_name, value_of}

-- the value that the first span of that name covers
abbrev pub value_among : List ℕ → List ℕ → List HeaderSpan → Option (List ℕ)
value_among front name spans =
    option_map (λ h. span_bytes front h.value) (find (λ h. is_same_name (span_bytes front h.name) name) spans)

pub value_of-map : (front name : List ℕ) (spans : List HeaderSpan)
    → value_of name (map (header_bytes front) spans) ≡ value_among front name spans
value_of-map front name [] = refl
value_of-map front name (h ∷ spans) = by_test (is_same_name (span_bytes front h.name) name) (value_of-map front name spans)
  where
    by_test : (same : Bool) → value_of name (map (header_bytes front) spans) ≡ value_among front name spans
        → option_map (λ (p : List ℕ × List ℕ). p.1) (cond same (Some (header_bytes front h))
        (find (λ p. is_same_name p.0 name) (map (header_bytes front) spans)))
        ≡ option_map (λ (s : HeaderSpan). span_bytes front s.value) (cond same (Some h) (find (λ s. is_same_name (span_bytes front s.name) name) spans))
    by_test true rest = refl
    by_test false rest = rest

-- the value that was found, in terms of what the spans cover
pub value-found : (front name asked : List ℕ) (spans : List HeaderSpan) (headers : List (List ℕ × List ℕ)) (header : Option HeaderSpan)
    → header ≡ find (λ h. is_same_name (span_bytes front h.name) asked) spans → asked ≡ name
    → map (header_bytes front) spans ≡ headers
    → option_map (λ h. span_bytes front h.value) header ≡ value_of name headers
value-found front name asked spans headers header first same_name same_headers =
    ap (option_map (λ (h : HeaderSpan). span_bytes front h.value)) first
    ∙ sym (value_of-map front asked spans)
    ∙ ap (λ (n : List ℕ). value_of n (map (header_bytes front) spans)) same_name
    ∙ ap (value_of name) same_headers
