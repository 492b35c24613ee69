-- Sorted places of which no two neighbours are equal have none twice.
use Rattle.std.proofs.Common.{◌≡◌, ◌≢◌, ◌⊎◌, inl, inr, Bool, true, false, ℕ, ◌+◌, ◌<◌, ◌≤◌, ◌==◌, ◌&&◌, List, [], ◌∷◌, cond, length}
use Rattle.std.proofs.Common.{get_or, nat_lt, suc, subst, refl, ap, ◌∙◌, arith}
use Rattle.radio_hall.proofs.Words.{nat_tests, sum_by-cons, sum_by-IsPermutation, IsPermutation, IsSorted, Stamp, stamp, HasNoTwins, IsEachOnce, is_same_place, place_order, times}
use Rattle.std.specs.Ordering.{is_lt, ordering_then}
use Rattle.std.specs.declared.cmp.Ordering.TheVariants.{Less, Equal, Greater}

-- before in the order
abbrev IsBelow : Stamp → Stamp → Type 0
IsBelow x y = (x.list < y.list) ⊎ ((x.list ≡ y.list) × (x.serial < y.serial))

below_all : (x y z : Stamp) → IsBelow x y → IsBelow y z → IsBelow x z
below_all x y z (inl a) (inl b) = inl (omega (arith, a, b))
below_all x y z (inl a) (inr b) = inl (omega (arith, a, b.0))
below_all x y z (inr a) (inl b) = inl (omega (arith, a.0, b))
below_all x y z (inr a) (inr b) = inr (omega (arith, a.0, b.0), omega (arith, a.1, b.1))

by_numbers : (a b c d : ℕ) (l e s t : Bool) → nat_lt b a ≡ l → (b == a) ≡ e → nat_lt d c ≡ s → (d == c) ≡ t
    → is_lt (ordering_then (cond l Less (cond e Equal Greater)) (cond s Less (cond t Equal Greater))) ≡ false
    → (a ≡ b → c ≡ d → ⊥) → (a < b) ⊎ ((a ≡ b) × (c < d))
by_numbers a b c d true e s t lists same serials equal test apart = cc
by_numbers a b c d false false s t lists same serials equal test apart = inl (grind (arith, nat_tests))
by_numbers a b c d false true true t lists same serials equal test apart = cc
by_numbers a b c d false true false true lists same serials equal test apart =
    let one : a ≡ b = grind (arith, nat_tests) in let other : c ≡ d = grind (arith, nat_tests) in absurd (apart one other)
by_numbers a b c d false true false false lists same serials equal test apart =
    let one : a ≡ b = grind (arith, nat_tests) in inr (one, grind (arith, nat_tests))

same_place : (x y : Stamp) → x.list ≡ y.list → x.serial ≡ y.serial → x ≡ y
same_place x y lists serials = ap (λ (list : ℕ). stamp list x.serial) lists ∙ ap (λ (serial : ℕ). stamp y.list serial) serials

is_below : (x y : Stamp) → is_lt (place_order y x) ≡ false → x ≢ y → IsBelow x y
is_below x y test apart =
    by_numbers x.list y.list x.serial y.serial (nat_lt y.list x.list) (y.list == x.list) (nat_lt y.serial x.serial) (y.serial == x.serial) refl refl refl refl
    test (λ lists serials. apart (same_place x y lists serials))

-- each is below those after it
abbrev AllAbove : Stamp → List Stamp → Type 0
AllAbove x [] = Unit {0}
AllAbove x (y ∷ ys) = IsBelow x y × AllAbove x ys

abbrev Climb : List Stamp → Type 0
Climb [] = Unit {0}
Climb (x ∷ xs) = AllAbove x xs × Climb xs

above_all : (x y : Stamp) (ys : List Stamp) → IsBelow x y → AllAbove y ys → AllAbove x ys
above_all x y [] below above = tt
above_all x y (z ∷ ys) below above = (below_all x y z below above.0, above_all x y ys below above.1)

-- behind the first of them
shifted : (x : Stamp) (xs : List Stamp) (k : ℕ) → get_or (x ∷ xs) (k + 1) (stamp 0 0) ≡ get_or xs k (stamp 0 0)
shifted x xs k = let up : k + 1 ≡ suc k = omega arith in ap (λ (n : ℕ). get_or (x ∷ xs) n (stamp 0 0)) up

climb : (xs : List Stamp) → ((k : ℕ) → k + 1 < length xs → IsBelow (get_or xs k (stamp 0 0)) (get_or xs (k + 1) (stamp 0 0))) → Climb xs
climb [] next = tt
climb (x ∷ []) next = (tt, tt)
climb (x ∷ y ∷ ys) next =
    let all = x ∷ y ∷ ys in
    let rest = climb (y ∷ ys) (λ k below.
    subst (λ (s : Stamp). IsBelow s (get_or (y ∷ ys) (k + 1) (stamp 0 0))) (shifted x (y ∷ ys) k)
    (subst (λ (s : Stamp). IsBelow (get_or all (k + 1) (stamp 0 0)) s) (shifted x (y ∷ ys) (k + 1)) (next (k + 1) (omega (arith, below))))) in
    let first : IsBelow x y = next 0 (omega arith) in
    ((first, above_all x y ys first rest.0), rest)

-- how often a place is there
abbrev pub one_at : Stamp → Stamp → ℕ
one_at at x = cond (is_same_place at x) 1 0

and_false : (b : Bool) → (b && false) ≡ false
and_false true = refl
and_false false = refl

is_other : (at x y : Stamp) → at.list ≡ x.list → at.serial ≡ x.serial → IsBelow x y → is_same_place at y ≡ false
is_other at x y lists serials (inl low) =
    let apart : (at.list == y.list) ≡ false = grind (arith, nat_tests) in ap (λ (b : Bool). b && (at.serial == y.serial)) apart
is_other at x y lists serials (inr low) =
    let apart : (at.serial == y.serial) ≡ false = grind (arith, nat_tests) in
    ap (λ (b : Bool). (at.list == y.list) && b) apart ∙ and_false (at.list == y.list)

none_above : (at x : Stamp) (ys : List Stamp) → at.list ≡ x.list → at.serial ≡ x.serial → AllAbove x ys → times at ys ≡ 0
none_above at x [] lists serials above = refl
none_above at x (y ∷ ys) lists serials above =
    let first : one_at at y ≡ 0 = ap (λ (b : Bool). cond b 1 0) (is_other at x y lists serials above.0) in
    omega (arith, sum_by-cons (one_at at) y ys, first, none_above at x ys lists serials above.1)

once_more : (at x : Stamp) (xs : List Stamp) → AllAbove x xs → times at xs ≤ 1 → (l s : Bool) → (at.list == x.list) ≡ l → (at.serial == x.serial) ≡ s
    → times at (x ∷ xs) ≤ 1
once_more at x xs above few true true lists serials =
    let first : one_at at x ≡ 1 = ap (λ (b : Bool). cond (b && (at.serial == x.serial)) 1 0) lists ∙ ap (λ (b : Bool). cond b 1 0) serials in
    let none : times at xs ≡ 0 = none_above at x xs (grind (arith, nat_tests)) (grind (arith, nat_tests)) above in
    omega (arith, sum_by-cons (one_at at) x xs, first, none)
once_more at x xs above few true false lists serials =
    let first : one_at at x ≡ 0 = ap (λ (b : Bool). cond (b && (at.serial == x.serial)) 1 0) lists ∙ ap (λ (b : Bool). cond b 1 0) serials in
    omega (arith, sum_by-cons (one_at at) x xs, first, few)
once_more at x xs above few false s lists serials =
    let first : one_at at x ≡ 0 = ap (λ (b : Bool). cond (b && (at.serial == x.serial)) 1 0) lists in
    omega (arith, sum_by-cons (one_at at) x xs, first, few)

once : (at : Stamp) (xs : List Stamp) → Climb xs → times at xs ≤ 1
once at [] climbs = omega arith
once at (x ∷ xs) climbs = once_more at x xs climbs.0 (once at xs climbs.1) (at.list == x.list) (at.serial == x.serial) refl refl

pub each_once : (places sorted : List Stamp) → IsPermutation places sorted → IsSorted place_order sorted → HasNoTwins sorted → IsEachOnce places
each_once places sorted shuffled in_order apart at =
    let same = sum_by-IsPermutation (one_at at) places sorted shuffled in
    let few = once at sorted (climb sorted (λ k below.
    is_below (get_or sorted k (stamp 0 0)) (get_or sorted (k + 1) (stamp 0 0)) (in_order k (stamp 0 0) (omega arith) below) (apart k below))) in
    omega (arith, same, few)
