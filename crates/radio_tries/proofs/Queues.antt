-- A queue that grows by one.
use Rattle.std.proofs.Common.{◌≡◌, ◌<◌, ℕ, ◌+◌, List, [], ◌∷◌, ◌++◌, length, map, take, get_or, arith, ap, sym, ◌∙◌, Global}
use Rattle.std.specs.List.{enumerate_from}
use Rattle.radio_tries.proofs.Words.{arc_value, RelaySetting, Trials, queue, waiting_of}
use Rattle.std.specs.declared.sync.Arc.{Arc}
use Rattle.std.proofs.lemmas.List.{map-append, take_more, length-map, length-take-le}

module _ {X : Type 0} where
  pub enumerate-append : (n : ℕ) (xs ys : List X) → enumerate_from n (xs ++ ys) ≡ enumerate_from n xs ++ enumerate_from (n + length xs) ys
  enumerate-append n [] ys = ap (λ m. enumerate_from m ys) (omega arith)
  enumerate-append n (x ∷ xs) ys =
      let same : n + 1 + length xs ≡ n + length (x ∷ xs) = omega arith in
      ap (λ (rest : List (ℕ × X)). (n, x) ∷ rest) (enumerate-append (n + 1) xs ys ∙ ap (λ m. enumerate_from (n + 1) xs ++ enumerate_from m ys) same)

-- the queue of one relay more
pub queue_more : (trials : Trials) (xs : List (Arc RelaySetting Global)) (n : ℕ) (x : Arc RelaySetting Global) → n < length xs → x ≡ get_or xs n x
    → queue trials (map arc_value (take (n + 1) xs)) ≡ queue trials (map arc_value (take n xs)) ++ waiting_of trials (n, arc_value x) ∷ []
queue_more trials xs n x low is =
    let front : List RelaySetting = map arc_value (take n xs) in
    let last : List RelaySetting = arc_value x ∷ [] in
    let taken : take (n + 1) xs ≡ take n xs ++ x ∷ [] = take_more xs n x low ∙ ap (λ y. take n xs ++ y ∷ []) (sym is) in
    let relays : map arc_value (take (n + 1) xs) ≡ front ++ last = ap (map arc_value) taken ∙ map-append arc_value (take n xs) (x ∷ []) in
    let long : 0 + length front ≡ n = omega (arith, length-map (take n xs) (arc_value {X = RelaySetting} {Z = Global}), length-take-le n xs (omega arith)) in
    ap (queue trials) relays
    ∙ ap (map (waiting_of trials)) (enumerate-append 0 front last ∙ ap (λ m. enumerate_from 0 front ++ enumerate_from m last) long)
    ∙ map-append (waiting_of trials) (enumerate_from 0 front) ((n, arc_value x) ∷ [])
