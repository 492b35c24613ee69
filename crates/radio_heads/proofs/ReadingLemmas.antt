-- What readings say of longer and of shorter bytes, for any kind of head.
use Rattle.std.proofs.Common.{◌≡◌, ℕ, ◌+◌, ◌<◌, ◌≤◌, ◌⊎◌, inl, inr, List, ◌++◌, length, take, Ok, Err, refl, sym, ◌∙◌, subst, arith, length-append}
use Rattle.std.proofs.lemmas.Bool.{cases_order}
use Rattle.std.proofs.lemmas.List.{take-append-le, take_all}
use Rattle.radio_heads.specs.declared.outcome.Progress.TheVariants.{More, Whole}
use Rattle.radio_heads.specs.declared.outcome.HeadFault.{HeadFault}
use Rattle.radio_heads.specs.declared.outcome.HeadFault.TheVariants.{BadHead, TooManyHeaders, HeadTooLong}
use Rattle.radio_heads.specs.Search.{IsEmptyLine, HasNoEnd, IsHeadEnd}
use Rattle.radio_heads.specs.Reading.{IsFront, IsHead, IsNoHead, IsUnfinished, IsTooLong, IsReading}
use Rattle.radio_heads.specs.Laws.{ReadingsAgree, IsStableReading}
use Rattle.radio_heads.proofs.SearchLemmas.{EndsAt-size, EndsAt-same, IsHeadEnd-same, AreSame-take, AreSame-append, AreSame-sym}

-- ---- fronts

-- a front is not longer than the bytes
pub IsHeadEnd-within : (bytes : List ℕ) (end : ℕ) → IsHeadEnd bytes end → end ≤ length bytes
IsHeadEnd-within bytes end h = (EndsAt-size bytes h.place end h.ends).within

-- an empty line ends at one place
pub IsEmptyLine-unique : (bytes : List ℕ) (start m n : ℕ) → IsEmptyLine bytes start m → IsEmptyLine bytes start n → m ≡ n
IsEmptyLine-unique bytes start m n a b = elim a [
  | inl p ↦ (elim b [ inl q ↦ p.1 ∙ sym q.1 | inr q ↦ absurd (omega (arith, p.0, q.0)) ])
  | inr p ↦ (elim b [ inl q ↦ absurd (omega (arith, p.0, q.0)) | inr q ↦ p.2 ∙ sym q.2 ])
]

-- a head ends at one place
pub IsHeadEnd-unique : (bytes : List ℕ) (m n : ℕ) → IsHeadEnd bytes m → IsHeadEnd bytes n → m ≡ n
IsHeadEnd-unique bytes m n a b = elim (cases_order a.place b.place) [
  | inl same ↦ IsEmptyLine-unique bytes (b.place + 1) m n (subst (λ (k : ℕ). IsEmptyLine bytes (k + 1) m) same a.ends.empty) b.ends.empty
  | inr order ↦ (elim order [
    | inl lt ↦ absurd (b.first a.place m lt a.ends)
    | inr lt ↦ absurd (a.first b.place n lt b.ends)
  ])
]

-- where the first bytes end no head, no end is that early
pub no_end_within : (bytes : List ℕ) (n end : ℕ) → HasNoEnd (take n bytes) → IsHeadEnd bytes end → end ≤ n → ⊥
no_end_within bytes n end none h short =
    none h.place end (EndsAt-same bytes (take n bytes) n (AreSame-sym (take n bytes) bytes n (AreSame-take bytes n)) h.place end short h.ends)

pub IsFront-append : (bytes more : List ℕ) (n : ℕ) → IsFront bytes n → IsFront (bytes ++ more) n
IsFront-append bytes more n h = record {
  end = IsHeadEnd-same bytes (bytes ++ more) (length bytes) (AreSame-append bytes more) n (IsHeadEnd-within bytes n h.end) h.end;
  short = h.short;
}

pub IsFront-unique : (bytes : List ℕ) (m n : ℕ) → IsFront bytes m → IsFront bytes n → m ≡ n
IsFront-unique bytes m n a b = IsHeadEnd-unique bytes m n a.end b.end

-- bytes that are unfinished have no front
pub no_front-unfinished : (bytes : List ℕ) (n : ℕ) → IsUnfinished bytes → IsFront bytes n → ⊥
no_front-unfinished bytes n u f = u.open_end f.end.place n f.end.ends

-- nor have bytes that are too long
pub no_front-too_long : (bytes : List ℕ) (n : ℕ) → IsTooLong bytes → IsFront bytes n → ⊥
no_front-too_long bytes n t f = no_end_within bytes 8192 n t.open_end f.end f.short

-- ---- the first bytes, among which the end is searched

pub IsFront-window : (bytes : List ℕ) (window end : ℕ) → window ≤ 8192 → end ≤ window → IsHeadEnd (take window bytes) end
    → IsFront bytes end
IsFront-window bytes window end small within h = record {
  end = IsHeadEnd-same (take window bytes) bytes window (AreSame-take bytes window) end within h;
  short = omega arith;
}

pub IsUnfinished-window : (bytes : List ℕ) (window : ℕ) → length bytes ≤ window → length bytes < 8192
    → HasNoEnd (take window bytes) → IsUnfinished bytes
IsUnfinished-window bytes window all room none = record {
  open_end = subst (λ (xs : List ℕ). HasNoEnd xs) (take_all window bytes all) none;
  room = room;
}

pub IsTooLong-window : (bytes : List ℕ) (window : ℕ) → window ≡ 8192 → 8192 ≤ length bytes
    → HasNoEnd (take window bytes) → IsTooLong bytes
IsTooLong-window bytes window e full none = record {
  open_end = subst (λ (n : ℕ). HasNoEnd (take n bytes)) e none;
  full = full;
}

-- ---- more bytes

pub IsTooLong-append : (bytes more : List ℕ) → IsTooLong bytes → IsTooLong (bytes ++ more)
IsTooLong-append bytes more h = record {
  open_end = rw (take-append-le 8192 bytes more h.full) h.open_end;
  full = omega (arith, length-append bytes more, h.full);
}

-- the front that the bytes begin with stays as it was
pub take-front : (bytes more : List ℕ) (n : ℕ) → IsFront bytes n → take n (bytes ++ more) ≡ take n bytes
take-front bytes more n f = take-append-le n bytes more (IsHeadEnd-within bytes n f.end)

pub IsHead-append : {P : Type 0} (Shows : List ℕ → P → Type 0) (bytes more : List ℕ) (parts : P) (n : ℕ)
    → IsHead Shows bytes parts n → IsHead Shows (bytes ++ more) parts n
IsHead-append Shows bytes more parts n h = record {
  front = IsFront-append bytes more n h.front;
  shows = subst (λ (front : List ℕ). Shows front parts) (sym (take-front bytes more n h.front)) h.shows;
}

pub IsNoHead-append : {P : Type 0} (Shows : List ℕ → P → Type 0) (bytes more : List ℕ)
    → IsNoHead Shows bytes → IsNoHead Shows (bytes ++ more)
IsNoHead-append Shows bytes more h = record {
  length = h.length;
  front = IsFront-append bytes more h.length h.front;
  no_parts = λ parts shows. h.no_parts parts
      (subst (λ (front : List ℕ). Shows front parts) (take-front bytes more h.length h.front) shows);
}

pub is_settled : {P : Type 0} (Shows : List ℕ → P → Type 0) → IsStableReading Shows
is_settled Shows bytes more (Ok (Whole parts n)) h other = IsHead-append Shows bytes more parts n h
is_settled Shows bytes more (Ok More) h other = absurd (other refl)
is_settled Shows bytes more (Err BadHead) h other = IsNoHead-append Shows bytes more h
is_settled Shows bytes more (Err TooManyHeaders) h other = IsNoHead-append Shows bytes more h
is_settled Shows bytes more (Err HeadTooLong) h other = IsTooLong-append bytes more h

-- ---- fewer bytes

pub IsUnfinished-front : (bytes more : List ℕ) → IsUnfinished (bytes ++ more) → IsUnfinished bytes
IsUnfinished-front bytes more h = record {
  open_end = λ place end there.
      let size = EndsAt-size bytes place end there in
      h.open_end place end (EndsAt-same bytes (bytes ++ more) (length bytes) (AreSame-append bytes more) place end size.within there);
  room = omega (arith, length-append bytes more, h.room);
}

-- ---- two readings

-- a front shows the same parts each time
abbrev pub IsUnambiguous : {P : Type 0} → (List ℕ → P → Type 0) → Type 0
IsUnambiguous {P} Shows = (front : List ℕ) (a b : P) → Shows front a → Shows front b → a ≡ b

-- bytes with a head are not bytes with none
pub head_or_none : {P : Type 0} (Shows : List ℕ → P → Type 0) (bytes : List ℕ) (parts : P) (n : ℕ)
    → IsHead Shows bytes parts n → IsNoHead Shows bytes → ⊥
head_or_none Shows bytes parts n a b = b.no_parts parts
    (subst (λ (k : ℕ). Shows (take k bytes) parts) (IsFront-unique bytes n b.length a.front b.front) a.shows)

pub heads_agree : {P : Type 0} (Shows : List ℕ → P → Type 0) → IsUnambiguous Shows → (bytes : List ℕ) (a b : P) (m n : ℕ)
    → IsHead Shows bytes a m → IsHead Shows bytes b n → (a ≡ b) × (m ≡ n)
heads_agree Shows one bytes a b m n x y =
    let same = IsFront-unique bytes m n x.front y.front in
    (one (take n bytes) a b (subst (λ (k : ℕ). Shows (take k bytes) a) same x.shows) y.shows, same)

-- a fault of the front, or of its length
abbrev pub HasFault : {P : Type 0} → (List ℕ → P → Type 0) → List ℕ → Type 0
HasFault Shows bytes = IsNoHead Shows bytes ⊎ IsTooLong bytes

pub fault_of : {P : Type 0} (Shows : List ℕ → P → Type 0) (bytes : List ℕ) (e : HeadFault)
    → IsReading Shows bytes (Err e) → HasFault Shows bytes
fault_of Shows bytes BadHead h = inl h
fault_of Shows bytes TooManyHeaders h = inl h
fault_of Shows bytes HeadTooLong h = inr h

pub head_no_fault : {P : Type 0} (Shows : List ℕ → P → Type 0) (bytes : List ℕ) (parts : P) (n : ℕ)
    → IsHead Shows bytes parts n → HasFault Shows bytes → ⊥
head_no_fault Shows bytes parts n h (inl none) = head_or_none Shows bytes parts n h none
head_no_fault Shows bytes parts n h (inr long) = no_front-too_long bytes n long h.front

pub unfinished_no_fault : {P : Type 0} (Shows : List ℕ → P → Type 0) (bytes : List ℕ)
    → IsUnfinished bytes → HasFault Shows bytes → ⊥
unfinished_no_fault Shows bytes u (inl none) = no_front-unfinished bytes none.length u none.front
unfinished_no_fault Shows bytes u (inr long) = omega (arith, u.room, long.full)

pub readings_agree : {P : Type 0} (Shows : List ℕ → P → Type 0) → IsUnambiguous Shows → ReadingsAgree Shows
readings_agree Shows one bytes (Ok (Whole a m)) (Ok (Whole b n)) x y =
    inl (let same = heads_agree Shows one bytes a b m n x y in cc)
readings_agree Shows one bytes (Ok (Whole a m)) (Ok More) x y = absurd (no_front-unfinished bytes m y x.front)
readings_agree Shows one bytes (Ok (Whole a m)) (Err e) x y =
    absurd (head_no_fault Shows bytes a m x (fault_of Shows bytes e y))
readings_agree Shows one bytes (Ok More) (Ok (Whole b n)) x y = absurd (no_front-unfinished bytes n x y.front)
readings_agree Shows one bytes (Ok More) (Ok More) x y = inl refl
readings_agree Shows one bytes (Ok More) (Err e) x y =
    absurd (unfinished_no_fault Shows bytes x (fault_of Shows bytes e y))
readings_agree Shows one bytes (Err e) (Ok (Whole b n)) x y =
    absurd (head_no_fault Shows bytes b n y (fault_of Shows bytes e x))
readings_agree Shows one bytes (Err e) (Ok More) x y =
    absurd (unfinished_no_fault Shows bytes y (fault_of Shows bytes e x))
readings_agree Shows one bytes (Err d) (Err e) x y = inr (refl, refl)
