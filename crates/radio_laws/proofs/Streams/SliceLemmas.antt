-- slices of data that grows, and stretches made of them
use Rattle.std.proofs.Common.{◌≡◌, ℕ, ◌+◌, ◌-◌, ◌≤◌, List, [], ◌∷◌, ◌++◌, zero, suc}
use Rattle.std.proofs.Common.{length, take, drop, refl, ap, sym, ◌∙◌, arith, append_assoc, length-drop}
use Rattle.std.proofs.Math.Seq.{take-add}
use Rattle.radio_laws.proofs.Words.{take-append-le, drop-append-le, drop-drop, concat, between, Sitting, AreStretches, AreSlices, Cut, cut_behind}

pub between_grown : (start stop : ℕ) (xs ys : List ℕ) → start ≤ stop → stop ≤ length xs → between start stop (xs ++ ys) ≡ between start stop xs
between_grown start stop xs ys low high = ap (take (stop - start)) (drop-append-le start xs ys (omega arith)) ∙ take-append-le (stop - start)
    (drop start xs) ys (omega (arith, length-drop start xs))

-- a slice goes on where it ended
taken_length : (n : ℕ) (xs : List ℕ) → take n xs ≡ take (length (take n xs)) xs
taken_length zero xs = refl
taken_length (suc n) [] = refl
taken_length (suc n) (x ∷ xs) = ap (λ ys. x ∷ ys) (taken_length n xs)

pub between_drawn : (place room : ℕ) (xs : List ℕ) → take room (drop place xs) ≡ between place (place + length (take room (drop place xs))) xs
between_drawn place room xs =
    let size = length (take room (drop place xs)) in
    let back : (place + size) - place ≡ size = omega arith in
    taken_length room (drop place xs) ∙ ap (λ n. take n (drop place xs)) (sym back)

pub between_joined : (start place stop : ℕ) (xs : List ℕ) → start ≤ place → place ≤ stop
    → between start place xs ++ between place stop xs ≡ between start stop xs
between_joined start place stop xs low high =
    let back : start + (place - start) ≡ place = omega arith in
    let sum : (place - start) + (stop - place) ≡ stop - start = omega arith in
    ap (λ n. between start place xs ++ take (stop - place) (drop n xs)) (sym back)
    ∙ ap (λ ys. between start place xs ++ take (stop - place) ys) (sym (drop-drop (place - start) start xs))
    ∙ sym (take-add (place - start) (stop - place) (drop start xs))
    ∙ ap (λ n. take n (drop start xs)) sum

pub between_none : (place : ℕ) (xs : List ℕ) → between place place xs ≡ []
between_none place xs = let none : place - place ≡ 0 = omega arith in ap (λ n. take n (drop place xs)) none

-- slices joined in order are stretches
pub joined_slices : (sent : ℕ → List ℕ) (sittings : List Sitting) (each : List (List ℕ)) → AreSlices sent sittings each
    → AreStretches sent sittings (concat each)
joined_slices sent [] [] slices = refl
joined_slices sent (sitting ∷ others) (bytes ∷ rest) ((stop, low, high, e), slices) =
    (stop, concat rest, low, high, ap (λ xs. xs ++ concat rest) e, joined_slices sent others rest slices)
joined_slices sent [] (bytes ∷ rest) slices = elim slices [ ]
joined_slices sent (sitting ∷ others) [] slices = elim slices [ ]

-- what is cut off is joined to what comes then
pub cut_joined : (xs : List ℕ) (begun : List Sitting) (later : Cut ℕ)
    → (cut_behind xs begun later).before ++ concat (cut_behind xs begun later).each ≡ xs ++ (later.before ++ concat later.each)
cut_joined xs [] later = append_assoc xs later.before (concat later.each)
cut_joined xs (sitting ∷ others) later = refl
