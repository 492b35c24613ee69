-- Where an end of a head lies, and that it depends on the bytes before it alone.
use Rattle.std.proofs.Common.{◌≡◌, ℕ, ◌+◌, ◌-◌, ◌<◌, ◌≤◌, max, inl, inr, false, ltb, List, ◌++◌, length, take, Some, None, sym, ◌∙◌, subst, arith}
use Rattle.std.specs.Prelude.{slice_index, position}
use Rattle.std.specs.List.{position_or_len}
use Rattle.std.proofs.lemmas.Bool.{cases_lt, both_ways, lt-ltb, cond-true}
use Rattle.std.proofs.lemmas.List.{length-take, get_or_past, get_or-take, get_or_append_left}
use Rattle.std.proofs.lemmas.List.Quantifiers.{position-Some}
use Rattle.std.proofs.lemmas.List.Sums.{fails_before_first}
use Rattle.httparse.specs.Ascii.{line_feed}
use Rattle.radio_heads.specs.Search.{is_text, IsEmptyLine, EndsAt, HasNoEnd, IsHeadEnd}

-- ---- text

-- before the first text there is none
pub no_text_before : (bytes : List ℕ) (at : ℕ) → position is_text bytes ≡ Some at
    → (k : ℕ) → k < at → is_text (slice_index bytes k) ≡ false
no_text_before bytes at e = (position-Some is_text bytes at 0 e).2

-- where no text is found, there is none
pub no_text : (bytes : List ℕ) → position is_text bytes ≡ None
    → (k : ℕ) → k < length bytes → is_text (slice_index bytes k) ≡ false
no_text bytes e k h = elim (cases_lt (position_or_len is_text bytes) (length bytes)) [
  | inl lt ↦ (let found = cond-true (ltb (position_or_len is_text bytes) (length bytes)) (Some (position_or_len is_text bytes)) None
      (lt-ltb (position_or_len is_text bytes) (length bytes) lt) in cc (found, e))
  | inr le ↦ fails_before_first is_text bytes k 0 (omega arith)
]

-- ---- the size of an end

-- a byte that is not 0 lies within the list
pub index-in_range : (xs : List ℕ) (k b : ℕ) → slice_index xs k ≡ b → 0 < b → k < length xs
index-in_range xs k b e h = elim (cases_lt k (length xs)) [
  | inl lt ↦ lt
  | inr le ↦ absurd (let z = get_or_past xs k 0 le in omega (arith, z, e))
]

-- how far an end is from its place, and that it is within the bytes
pub record IsEndSize (bytes : List ℕ) (place end : ℕ) : Type 0 where
  pub low : place + 2 ≤ end
  pub high : end ≤ place + 3
  pub within : end ≤ length bytes

pub EndsAt-size : (bytes : List ℕ) (place end : ℕ) → EndsAt bytes place end → IsEndSize bytes place end
EndsAt-size bytes place end h = elim (h.empty) [
  | inl p ↦ (let lt = index-in_range bytes (place + 1) 10 p.0 (omega arith) in
      record { low = omega arith; high = omega arith; within = omega arith })
  | inr p ↦ (let lt = index-in_range bytes (place + 1 + 1) 10 p.1 (omega arith) in
      record { low = omega arith; high = omega arith; within = omega arith })
]

-- ---- other bytes

-- the lists are the same below n
abbrev pub AreSame : List ℕ → List ℕ → ℕ → Type 0
AreSame xs ys n = (k : ℕ) → k < n → slice_index xs k ≡ slice_index ys k

pub AreSame-sym : (xs ys : List ℕ) (n : ℕ) → AreSame xs ys n → AreSame ys xs n
AreSame-sym xs ys n same k h = sym (same k h)

pub AreSame-take : (xs : List ℕ) (n : ℕ) → AreSame (take n xs) xs n
AreSame-take xs n k h = get_or-take n xs k 0 h

pub AreSame-append : (xs ys : List ℕ) → AreSame xs (xs ++ ys) (length xs)
AreSame-append xs ys k h = sym (get_or_append_left xs ys 0 k h)

-- an end depends on the bytes before it alone
pub EndsAt-same : (xs ys : List ℕ) (n : ℕ) → AreSame xs ys n → (place end : ℕ) → end ≤ n
    → EndsAt xs place end → EndsAt ys place end
EndsAt-same xs ys n same place end short h =
    let size = EndsAt-size xs place end h in
    record {
      text = (h.text.0, h.text.1, rw (← same h.text.0 (omega (arith, h.text.1))) h.text.2);
      line = sym (same place (omega arith)) ∙ h.line;
      empty = elim (h.empty) [
        | inl p ↦ inl (sym (same (place + 1) (omega arith)) ∙ p.0, p.1)
        | inr p ↦ inr (sym (same (place + 1) (omega arith)) ∙ p.0, sym (same (place + 1 + 1) (omega arith)) ∙ p.1, p.2)
      ];
    }

pub IsHeadEnd-same : (xs ys : List ℕ) (n : ℕ) → AreSame xs ys n → (end : ℕ) → end ≤ n
    → IsHeadEnd xs end → IsHeadEnd ys end
IsHeadEnd-same xs ys n same end short h =
    let size = EndsAt-size xs h.place end h.ends in
    record {
      place = h.place;
      ends = EndsAt-same xs ys n same h.place end short h.ends;
      first = λ earlier other lt there.
          let other_size = EndsAt-size ys earlier other there in
          h.first earlier other lt (EndsAt-same ys xs n (AreSame-sym xs ys n same) earlier other (omega arith) there);
    }

-- ---- the search

-- where there is no text, nothing ends a head
pub HasNoEnd-no_text : (bytes : List ℕ) → position is_text bytes ≡ None → HasNoEnd bytes
HasNoEnd-no_text bytes e place end h =
    let size = EndsAt-size bytes place end h in
    both_ways _ (no_text bytes e h.text.0 (omega (arith, h.text.1))) h.text.2

-- no place before the start of the search ends a head
pub none_before_start : (bytes : List ℕ) (at seen : ℕ) → position is_text bytes ≡ Some at → HasNoEnd (take seen bytes)
    → (earlier other : ℕ) → earlier < max (at + 1) (seen - 2) → ¬ (EndsAt bytes earlier other)
none_before_start bytes at seen e none earlier other lt there = elim (cases_lt earlier (at + 1)) [
  | inl before ↦ both_ways _ (no_text_before bytes at e there.text.0 (omega (arith, there.text.1))) there.text.2
  | inr after ↦ (let size = EndsAt-size bytes earlier other there in
      none earlier other (EndsAt-same bytes (take seen bytes) seen
      (AreSame-sym (take seen bytes) bytes seen (AreSame-take bytes seen)) earlier other (omega arith) there))
]

-- one place more that ends no head
pub none_more : (bytes : List ℕ) (place : ℕ)
    → ((earlier other : ℕ) → earlier < place → ¬ (EndsAt bytes earlier other))
    → ((end : ℕ) → slice_index bytes place ≡ line_feed → ¬ (IsEmptyLine bytes (place + 1) end))
    → (earlier other : ℕ) → earlier < place + 1 → ¬ (EndsAt bytes earlier other)
none_more bytes place below here earlier other lt there = elim (cases_lt earlier place) [
  | inl before ↦ below earlier other before there
  | inr after ↦ (let same : earlier ≡ place = omega arith in
      let there' = subst (λ (k : ℕ). EndsAt bytes k other) same there in
      here other there'.line there'.empty)
]

-- no place at all, once all places of the bytes are told
pub HasNoEnd-from_all : (bytes : List ℕ) (n : ℕ) → length bytes ≤ n
    → ((earlier other : ℕ) → earlier < n → ¬ (EndsAt bytes earlier other)) → HasNoEnd bytes
HasNoEnd-from_all bytes n all none place end there =
    let size = EndsAt-size bytes place end there in none place end (omega arith) there

-- what ends no head within some first bytes ends none within fewer
pub HasNoEnd-fewer : (bytes : List ℕ) (n window seen : ℕ) → n ≤ seen → HasNoEnd (take seen bytes)
    → HasNoEnd (take n (take window bytes))
HasNoEnd-fewer bytes n window seen fewer none place end there =
    let size = EndsAt-size (take n (take window bytes)) place end there in
    let within : (end ≤ n) × (end ≤ window) = (omega (arith, size.within, length-take {A = ℕ}), omega (arith, size.within, length-take {A = ℕ})) in
    none place end (EndsAt-same (take n (take window bytes)) (take seen bytes) end
    (λ k lt. get_or-take n (take window bytes) k 0 (omega (arith, within.0))
    ∙ (get_or-take window bytes k 0 (omega (arith, within.1)) ∙ sym (get_or-take seen bytes k 0 (omega (arith, within.0)))))
    place end (omega arith) there)
