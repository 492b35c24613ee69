-- A settled history is woven of the entries of all passes.
use Rattle.std.proofs.Common.{◌≡◌, inl, inr, ◌+◌, ◌≤◌, ◌==◌, ◌&&◌, Bool, true, List, [], ◌∷◌, All, cond, length, map, sum_by}
use Rattle.std.proofs.Common.{refl, sym, ap, subst, ◌∙◌, arith}
use Rattle.radio_hall.proofs.Words.{nat_tests, All-cons, All-head, All-nil, All-tail, sum_by-IsPermutation, sum_by-append, sum_by-cons, Entry, ControlLine, Stamp, MountItem, receipt_entry, ReceiptOf, IsSubsequence}
use Rattle.radio_hall.proofs.Words.{IsEachOnce, StandsIn, all_places, all_stamps, entry_at, stamps, times}
use Rattle.std.proofs.lemmas.Option.{same_Some}
use Rattle.radio_hall.specs.Woven.{AreWoven, IsInterleaved, SettledHistoriesAreWoven, entries_of, nothing_left, takes_one, takes_other}
use Rattle.radio_hall.proofs.Once.{places_are_once}
use Rattle.radio_hall.proofs.Placed.{ArePlaced, merge_is_placed}
use Rattle.radio_hall.proofs.Twins.{one_at}

woven_alone : {A : Type 0} (all : List A) → IsInterleaved [] all all
woven_alone [] = nothing_left
woven_alone (item ∷ all) = takes_other [] all all item (woven_alone all)

-- no place is in both, nor in one of them twice
abbrev AreApart : List Stamp → List Stamp → Type 0
AreApart one other = (at : Stamp) → times at one + times at other ≤ 1

itself : (at : Stamp) (others : List Stamp) → times at (at ∷ others) ≡ 1 + times at others
itself at others =
    let lists : (at.list == at.list) ≡ true = grind (arith, nat_tests) in
    let serials : (at.serial == at.serial) ≡ true = grind (arith, nat_tests) in
    let one : one_at at at ≡ 1 = ap (λ (b : Bool). cond (b && (at.serial == at.serial)) 1 0) lists ∙ ap (λ (b : Bool). cond b 1 0) serials in
    omega (arith, sum_by-cons (one_at at) at others, one)

not_in_both : (one other : List Stamp) (at : Stamp) → AreApart (at ∷ one) (at ∷ other) → ⊥
not_in_both one other at apart = omega (arith, apart at, itself at one, itself at other)

apart_first : (one other : List Stamp) (x : Stamp) → AreApart (x ∷ one) other → AreApart one other
apart_first one other x apart at = omega (arith, apart at, sum_by-cons (one_at at) x one)

apart_second : (one other : List Stamp) (x : Stamp) → AreApart one (x ∷ other) → AreApart one other
apart_second one other x apart at = omega (arith, apart at, sum_by-cons (one_at at) x other)

module _ (control : List ControlLine) (mounts : List (List MountItem)) where
  -- what is left of an order and its entries without those of a pass
  record IsWithout (pass : List ReceiptOf) (order : List Stamp) (history : List Entry) : Type 0 where
    pub left : List Stamp
    pub rest : List Entry
    pub placed : ArePlaced control mounts left rest
    pub woven : IsInterleaved (entries_of pass) rest history
    pub long : length history ≡ length pass + length rest
    pub keeps : (other : List Stamp) → AreApart (stamps pass) other → IsSubsequence other order → IsSubsequence other left

  -- the first place of the order is that of the pass's first receipt
  keeps_behind : (r : ReceiptOf) (pass : List ReceiptOf) (x : Stamp) (order left : List Stamp) → r.stamp ≡ x
      → ((other : List Stamp) → AreApart (stamps pass) other → IsSubsequence other order → IsSubsequence other left)
      → (other : List Stamp) → AreApart (stamps (r ∷ pass)) other → IsSubsequence other (x ∷ order) → IsSubsequence other left
  keeps_behind r pass x order left same keeps [] apart sub = tt
  keeps_behind r pass x order left same keeps (s ∷ other) apart (inl here) =
      absurd (not_in_both (stamps pass) other r.stamp (subst (λ (y : Stamp). AreApart (stamps (r ∷ pass)) (y ∷ other)) (here.0 ∙ sym same) apart))
  keeps_behind r pass x order left same keeps (s ∷ other) apart (inr later) =
      keeps (s ∷ other) (apart_first (stamps pass) (s ∷ other) r.stamp apart) later

  -- the first place of the order is another's
  keeps_first : (pass : List Stamp) (x : Stamp) (order left : List Stamp)
      → ((other : List Stamp) → AreApart pass other → IsSubsequence other order → IsSubsequence other left)
      → (other : List Stamp) → AreApart pass other → IsSubsequence other (x ∷ order) → IsSubsequence other (x ∷ left)
  keeps_first pass x order left keeps [] apart sub = tt
  keeps_first pass x order left keeps (s ∷ other) apart (inl here) = inl (here.0, keeps other (apart_second pass other s apart) here.1)
  keeps_first pass x order left keeps (s ∷ other) apart (inr later) = inr (keeps (s ∷ other) apart later)

  without : (pass : List ReceiptOf) (order : List Stamp) (history : List Entry) → ArePlaced control mounts order history
      → All (StandsIn control mounts) pass → IsSubsequence (stamps pass) order → IsWithout pass order history
  without [] order history placed stand sub = record {
    left = order;
    rest = history;
    placed = placed;
    woven = woven_alone history;
    long = omega arith;
    keeps = λ other apart kept. kept;
  }
  without (r ∷ pass) [] history placed stand sub = absurd sub
  without (r ∷ pass) (x ∷ order) [] placed stand sub = absurd placed
  without (r ∷ pass) (x ∷ order) (e ∷ history) placed stand (inl here) =
      let next = without pass order history placed.1 (All-tail (StandsIn control mounts) r pass stand) here.1 in
      let stands = All-head (StandsIn control mounts) r pass stand in
      let same : receipt_entry r ≡ e = same_Some (receipt_entry r) e (sym stands.1 ∙ ap (entry_at control mounts) here.0 ∙ placed.0) in
      record {
        left = next.left;
        rest = next.rest;
        placed = next.placed;
        woven = subst (λ (y : Entry). IsInterleaved (receipt_entry r ∷ entries_of pass) next.rest (y ∷ history)) same
            (takes_one (entries_of pass) next.rest history (receipt_entry r) next.woven);
        long = omega (arith, next.long);
        keeps = keeps_behind r pass x order next.left here.0 next.keeps;
      }
  without (r ∷ pass) (x ∷ order) (e ∷ history) placed stand (inr later) =
      let next = without (r ∷ pass) order history placed.1 stand later in
      record {
        left = x ∷ next.left;
        rest = e ∷ next.rest;
        placed = (placed.0, next.placed);
        woven = takes_other (entries_of (r ∷ pass)) next.rest history e next.woven;
        long = omega (arith, next.long);
        keeps = keeps_first (stamps (r ∷ pass)) x order next.left next.keeps;
      }

  all_keep : (pass : List ReceiptOf) (order left : List Stamp) (passes : List (List ReceiptOf)) → AreApart (stamps pass) (all_stamps passes)
      → ((other : List Stamp) → AreApart (stamps pass) other → IsSubsequence other order → IsSubsequence other left)
      → All (λ other. IsSubsequence (stamps other) order) passes → All (λ other. IsSubsequence (stamps other) left) passes
  all_keep pass order left [] apart keeps subs = All-nil (λ other. IsSubsequence (stamps other) left)
  all_keep pass order left (other ∷ passes) apart keeps subs =
      let sum = λ (at : Stamp). sum_by-append (one_at at) (stamps other) (all_stamps passes) in
      All-cons (λ other. IsSubsequence (stamps other) left) other passes
      (keeps (stamps other) (λ at. omega (arith, apart at, sum at)) (All-head (λ other. IsSubsequence (stamps other) order) other passes subs))
      (all_keep pass order left passes (λ at. omega (arith, apart at, sum at)) keeps (All-tail (λ other. IsSubsequence (stamps other) order) other passes subs))

  woven_of : (passes : List (List ReceiptOf)) (order : List Stamp) (history : List Entry) → ArePlaced control mounts order history
      → All (λ pass. All (StandsIn control mounts) pass) passes → All (λ pass. IsSubsequence (stamps pass) order) passes → IsEachOnce (all_stamps passes)
      → length history ≡ sum_by length passes → AreWoven (map entries_of passes) history
  woven_of [] order [] placed stand subs once long = refl
  woven_of [] order (e ∷ history) placed stand subs once long = absurd (omega (arith, long))
  woven_of (pass ∷ passes) order history placed stand subs once long =
      let sum = λ (at : Stamp). sum_by-append (one_at at) (stamps pass) (all_stamps passes) in
      let out = without pass order history placed (All-head (λ pass. All (StandsIn control mounts) pass) pass passes stand)
      (All-head (λ pass. IsSubsequence (stamps pass) order) pass passes subs) in (
        out.rest,
        out.woven,
        woven_of passes out.left out.rest out.placed (All-tail (λ pass. All (StandsIn control mounts) pass) pass passes stand)
            (all_keep pass order out.left passes (λ at. omega (arith, once at, sum at)) out.keeps
            (All-tail (λ pass. IsSubsequence (stamps pass) order) pass passes subs))
            (λ at. omega (arith, once at, sum at)) (omega (arith, long, out.long, sum_by-cons length pass passes)),
      )

pub settled_are_woven : SettledHistoriesAreWoven
settled_are_woven control mounts passes history settled total =
    let merges = settled.merges in
    let placed = merge_is_placed control mounts merges.order history merges.merge.at merges.merge.merged in
    woven_of control mounts passes merges.order history placed.0 settled.stand merges.keeps
    (λ at. omega (
      arith,
      places_are_once control mounts at,
      sum_by-IsPermutation (one_at at) (all_places control mounts) (all_stamps passes) settled.once,
    ))
    total
