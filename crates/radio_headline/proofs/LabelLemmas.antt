-- What becomes of labels, and what a transcript's lines give to each.
use Rattle.std.proofs.Common.{◌≡◌, ℕ, ◌==◌, Bool, true, false, List, [], ◌∷◌, ◌++◌, Option, None, Some, refl, sym, ap, ◌∙◌, arith}
use Rattle.radio_headline.proofs.Words.{nat_tests, find, if◌then◌else◌, append-nil, flat_map-append, number_is, TranscriptLine, out, shut, given, given_in, line_text, transcript_text, Connection, Labelled, by_label}
use Rattle.radio_headline.proofs.Words.{connection_of, has_label, holding, with_connection}
use Rattle.std.specs.Option.{option_map}
use Rattle.std.specs.Ordering.{is_eq, match_ordering}
use Rattle.std.specs.declared.cmp.Ordering.{Ordering}
use Rattle.std.specs.declared.cmp.Ordering.TheVariants.{Less, Equal, Greater}
use Rattle.radio_tables.specs.Lists.{placed, update_first}
use Rattle.radio_tables.proofs.FindLaws.{find_here, find_later, find_apart}
use Rattle.radio_script.specs.TranscriptLines.{answer_lines, out_line, out_lines, shut_line, shut_lines}
use Rattle.radio_headline.proofs.Logs.{itself, other_number}

abbrev opened : ℕ → Option Connection → Labelled
opened label connection = record { label = label; connection = connection }

-- a label that was not there
nothing_found : (found : Option Labelled) → option_map (λ (l : Labelled). l.connection) found ≡ None → found ≡ None
nothing_found None e = refl
nothing_found (Some l) e = cc

module _ (new : Labelled) where
  placed_at : (x : Labelled) (xs : List Labelled) (o : Ordering) → find (has_label new.label) (x ∷ xs) ≡ None
      → (find (has_label new.label) xs ≡ None → find (has_label new.label) (placed by_label new xs) ≡ Some new)
      → find (has_label new.label) (match_ordering o (new ∷ x ∷ xs) (new ∷ xs) (x ∷ placed by_label new xs)) ≡ Some new
  placed_at x xs Less none later = find_here (has_label new.label) new (x ∷ xs) (itself new.label)
  placed_at x xs Equal none later = find_here (has_label new.label) new xs (itself new.label)
  placed_at x xs Greater none later = by_test (has_label new.label x) refl where
    by_test : (b : Bool) → has_label new.label x ≡ b → find (has_label new.label) (x ∷ placed by_label new xs) ≡ Some new
    by_test true e = let here = find_here (has_label new.label) x xs e in let both : Some x ≡ None = sym here ∙ none in cc
    by_test false e =
        find_later (has_label new.label) x (placed by_label new xs) e ∙ later (sym (find_later (has_label new.label) x xs e) ∙ none)

  placed_here : (xs : List Labelled) → find (has_label new.label) xs ≡ None → find (has_label new.label) (placed by_label new xs) ≡ Some new
  placed_here [] none = find_here (has_label new.label) new [] (itself new.label)
  placed_here (x ∷ xs) none = placed_at x xs (by_label new x) none (placed_here xs)

  module _ (label : ℕ) (apart : has_label label new ≡ false) where
    elsewhere_at : (x : Labelled) (xs : List Labelled) (o : Ordering) → by_label new x ≡ o → find (has_label new.label) (x ∷ xs) ≡ None
        → (find (has_label new.label) xs ≡ None → find (has_label label) (placed by_label new xs) ≡ find (has_label label) xs)
        → find (has_label label) (match_ordering o (new ∷ x ∷ xs) (new ∷ xs) (x ∷ placed by_label new xs)) ≡ find (has_label label) (x ∷ xs)
    elsewhere_at x xs Less e none later = find_later (has_label label) new (x ∷ xs) apart
    elsewhere_at x xs Equal e none later =
        let same : has_label new.label x ≡ true = number_is new.label x.label ∙ ap is_eq e in
        let here = find_here (has_label new.label) x xs same in
        let both : Some x ≡ None = sym here ∙ none in
        cc
    elsewhere_at x xs Greater e none later = by_test (has_label new.label x) refl where
      by_test : (b : Bool) → has_label new.label x ≡ b
          → find (has_label label) (x ∷ placed by_label new xs) ≡ find (has_label label) (x ∷ xs)
      by_test true f = let here = find_here (has_label new.label) x xs f in let both : Some x ≡ None = sym here ∙ none in cc
      by_test false f =
          ap (λ (found : Option Labelled). if has_label label x then Some x else found)
          (later (sym (find_later (has_label new.label) x xs f) ∙ none))

    placed_elsewhere : (xs : List Labelled) → find (has_label new.label) xs ≡ None
        → find (has_label label) (placed by_label new xs) ≡ find (has_label label) xs
    placed_elsewhere [] none = find_later (has_label label) new [] apart
    placed_elsewhere (x ∷ xs) none = elsewhere_at x xs (by_label new x) refl none (placed_elsewhere xs)

pub opened_here : (xs : List Labelled) (label : ℕ) (connection : Option Connection) → connection_of xs label ≡ None
    → connection_of (placed by_label (opened label connection) xs) label ≡ Some connection
opened_here xs label connection none =
    ap (option_map (λ (l : Labelled). l.connection)) (placed_here (opened label connection) xs (nothing_found (find (has_label label) xs) none))

pub opened_elsewhere : (xs : List Labelled) (label other : ℕ) (connection : Option Connection) → (label ≡ other → ⊥) → connection_of xs label ≡ None
    → connection_of (placed by_label (opened label connection) xs) other ≡ connection_of xs other
opened_elsewhere xs label other connection apart none =
    ap (option_map (λ (l : Labelled). l.connection))
    (placed_elsewhere (opened label connection) other (other_number label other apart) xs (nothing_found (find (has_label label) xs) none))

-- a label of which something else has become
updated_at : (p : Labelled → Bool) (f : Labelled → Labelled) (x : Labelled) (xs : List Labelled) (b : Bool) → p x ≡ b → p (f x) ≡ p x
    → find p (update_first p f xs) ≡ option_map f (find p xs)
    → find p (if b then f x ∷ xs else x ∷ update_first p f xs) ≡ option_map f (if b then Some x else find p xs)
updated_at p f x xs true e same later = find_here p (f x) xs (same ∙ e)
updated_at p f x xs false e same later = find_later p x (update_first p f xs) e ∙ later

updated : (p : Labelled → Bool) (f : Labelled → Labelled) → ((x : Labelled) → p (f x) ≡ p x) → (xs : List Labelled)
    → find p (update_first p f xs) ≡ option_map f (find p xs)
updated p f same [] = refl
updated p f same (x ∷ xs) = updated_at p f x xs (p x) refl (same x) (updated p f same xs)

then_held : (found : Option Labelled) (old connection : Option Connection) → option_map (λ (l : Labelled). l.connection) found ≡ Some old
    → option_map (λ (l : Labelled). l.connection) (option_map (holding connection) found) ≡ Some connection
then_held None old connection e = cc
then_held (Some l) old connection e = refl

pub with_here : (xs : List Labelled) (label : ℕ) (old connection : Option Connection) → connection_of xs label ≡ Some old
    → connection_of (with_connection xs label connection) label ≡ Some connection
with_here xs label old connection e =
    ap (option_map (λ (l : Labelled). l.connection)) (updated (has_label label) (holding connection) (λ x. refl) xs)
    ∙ then_held (find (has_label label) xs) old connection e

pub with_elsewhere : (xs : List Labelled) (label other : ℕ) (connection : Option Connection) → (label ≡ other → ⊥)
    → connection_of (with_connection xs label connection) other ≡ connection_of xs other
with_elsewhere xs label other connection apart =
    ap (option_map (λ (l : Labelled). l.connection)) (find_apart (has_label other) (has_label label) (holding connection) not_it xs) where
      not_it : (x : Labelled) → has_label label x ≡ true → (has_label other x ≡ false) × (has_label other (holding connection x) ≡ false)
      not_it x e =
          let none : has_label other x ≡ false = other_number x.label other (λ same. apart (sym (the_label x e) ∙ same)) in (none, none) where
            the_label : (x : Labelled) → has_label label x ≡ true → x.label ≡ label
            the_label x e = grind (arith, nat_tests)

-- the lines of a delivery
abbrev pub out_part : ℕ → List ℕ → List TranscriptLine
out_part label [] = []
out_part label (b ∷ bytes) = out label (b ∷ bytes) ∷ []

abbrev pub shut_part : ℕ → Option (List ℕ) → List TranscriptLine
shut_part label None = []
shut_part label (Some word) = shut label word ∷ []

abbrev pub answer : ℕ → List ℕ → Option (List ℕ) → List TranscriptLine
answer label bytes word = out_part label bytes ++ shut_part label word

pub written_joined : (lines more : List TranscriptLine) → transcript_text (lines ++ more) ≡ transcript_text lines ++ transcript_text more
written_joined lines more = flat_map-append line_text lines more

pub given_joined : (lines more : List TranscriptLine) (label : ℕ) → given (lines ++ more) label ≡ given lines label ++ given more label
given_joined lines more label = flat_map-append (λ (line : TranscriptLine). given_in line label) lines more

out_written : (label : ℕ) (bytes : List ℕ) → transcript_text (out_part label bytes) ≡ out_lines label bytes
out_written label [] = refl
out_written label (b ∷ bytes) = append-nil (out_line label (b ∷ bytes))

shut_written : (label : ℕ) (word : Option (List ℕ)) → transcript_text (shut_part label word) ≡ shut_lines label word
shut_written label None = refl
shut_written label (Some word) = append-nil (shut_line label word)

pub answer_written : (label : ℕ) (bytes : List ℕ) (word : Option (List ℕ)) → transcript_text (answer label bytes word) ≡ answer_lines label bytes word
unfolding answer_lines
answer_written label bytes word =
    written_joined (out_part label bytes) (shut_part label word)
    ∙ ap (λ (xs : List ℕ). xs ++ transcript_text (shut_part label word)) (out_written label bytes)
    ∙ ap (λ (xs : List ℕ). out_lines label bytes ++ xs) (shut_written label word)

shut_gives : (label other : ℕ) (word : Option (List ℕ)) → given (shut_part label word) other ≡ []
shut_gives label other None = refl
shut_gives label other (Some word) = refl

abbrev no_bytes_at : List ℕ
no_bytes_at = []

no_bytes : (b : Bool) → no_bytes_at ≡ (if b then no_bytes_at else no_bytes_at)
no_bytes true = refl
no_bytes false = refl

out_gives : (label other : ℕ) (bytes : List ℕ) → given (out_part label bytes) other ≡ (if label == other then bytes else [])
out_gives label other [] = no_bytes (label == other)
out_gives label other (b ∷ bytes) = append-nil (if label == other then b ∷ bytes else [])

answer_gives : (label other : ℕ) (bytes : List ℕ) (word : Option (List ℕ)) → given (answer label bytes word) other ≡ (if label == other then bytes else [])
answer_gives label other bytes word =
    given_joined (out_part label bytes) (shut_part label word) other
    ∙ ap (λ (xs : List ℕ). given (out_part label bytes) other ++ xs) (shut_gives label other word)
    ∙ append-nil (given (out_part label bytes) other)
    ∙ out_gives label other bytes

pub answer_here : (label : ℕ) (bytes : List ℕ) (word : Option (List ℕ)) → given (answer label bytes word) label ≡ bytes
answer_here label bytes word = answer_gives label label bytes word ∙ ap (λ (b : Bool). if b then bytes else []) (itself label)

pub answer_elsewhere : (label other : ℕ) (bytes : List ℕ) (word : Option (List ℕ)) → (label ≡ other → ⊥) → given (answer label bytes word) other ≡ []
answer_elsewhere label other bytes word apart =
    answer_gives label other bytes word ∙ ap (λ (b : Bool). if b then bytes else []) (other_number label other apart)
