-- Passes, their receipts and their places.
use Rattle.std.proofs.Common.{◌≡◌, Bool, true, ℕ, ◌+◌, ◌<◌, ◌≤◌, ◌-◌, ◌==◌, ◌&&◌, List, [], ◌∷◌, ◌++◌, All, cond, length}
use Rattle.std.proofs.Common.{inl, inr, get_or, take, map, sum_by, Vec, Global, refl, sym, ap, subst, ◌∙◌, arith, append-nil}
use Rattle.std.proofs.lemmas.List.{length-map}
use Rattle.radio_hall.proofs.Words.{nat_tests, All-cons, All-head, All-map, All-nil, All-tail, sum_by_more, sum_by-take-le, World, Stamp, stamp, ReceiptOf, MountItem, IsSubsequence, ControlLine, AllRise, AllStand}
use Rattle.radio_hall.proofs.Words.{AreMerged, IsCounted, IsEachOnce, Shows, all_places, all_stamps, is_same_place, stamps, times}
use Rattle.std.proofs.lemmas.List.{map-append, take_more}
use Rattle.std.proofs.lemmas.List.Concat.{flat_map-append, length-flat_map}
use Rattle.std.proofs.Math.Path.{fun_ext}
use Rattle.radio_hall.specs.declared.fault.SettleFault.{SettleFault}

-- the places of one pass more
pub stamps_more : (passes : List (List ReceiptOf)) (i : ℕ) (d : List ReceiptOf) (before after : List Stamp) → i < length passes
    → before ≡ all_stamps (take i passes) → after ≡ before ++ stamps (get_or passes i d) → after ≡ all_stamps (take (i + 1) passes)
stamps_more passes i d before after below are more =
    more ∙ ap (λ (xs : List Stamp). xs ++ stamps (get_or passes i d)) are
    ∙ ap (λ (xs : List Stamp). all_stamps (take i passes) ++ xs) (sym (append-nil (stamps (get_or passes i d))))
    ∙ sym (ap all_stamps (take_more passes i d below) ∙ flat_map-append stamps (take i passes) (get_or passes i d ∷ []))

pub receipts_of_all : (passes : List (List ReceiptOf)) → length (all_stamps passes) ≡ sum_by length passes
receipts_of_all passes =
    length-flat_map stamps passes
    ∙ ap (λ (f : List ReceiptOf → ℕ). sum_by f passes) (fun_ext (λ (pass : List ReceiptOf). length-map pass (λ (r : ReceiptOf). r.stamp)))

-- two neighbours that are equal
pub counted_twice : (xs : List Stamp) (i : ℕ) (at : Stamp) → i + 1 < length xs → get_or xs i (stamp 0 0) ≡ at → get_or xs (i + 1) (stamp 0 0) ≡ at
    → 2 ≤ times at xs
counted_twice xs i at below first second =
    let one : Stamp → ℕ = λ x. cond (is_same_place at x) 1 0 in
    let lists : (at.list == at.list) ≡ true = grind (arith, nat_tests) in
    let serials : (at.serial == at.serial) ≡ true = grind (arith, nat_tests) in
    let itself : one at ≡ 1 = ap (λ (b : Bool). cond (b && (at.serial == at.serial)) 1 0) lists ∙ ap (λ (b : Bool). cond b 1 0) serials in
    let more = sum_by_more one xs i (stamp 0 0) (omega (arith, below)) in
    let again = sum_by_more one xs (i + 1) (stamp 0 0) below in
    let all = sum_by-take-le one xs (i + 1 + 1) in
    omega (arith, more, again, all, ap one first, ap one second, itself)

-- the one behind the one before it
pub neighbour : (xs : List Stamp) (i : ℕ) → 1 ≤ i → get_or xs (i - 1 + 1) (stamp 0 0) ≡ get_or xs i (stamp 0 0)
neighbour xs i some = let same : i - 1 + 1 ≡ i = omega (arith, some) in ap (λ k. get_or xs k (stamp 0 0)) same

-- what holds of each image holds of each
All-unmap : {X Y : Type 0} (P : X → Type 0) (f : Y → X) (ys : List Y) → All P (map f ys) → All (λ y. P (f y)) ys
All-unmap P f [] h = All-nil (λ y. P (f y))
All-unmap P f (y ∷ ys) h = All-cons (λ y. P (f y)) y ys (All-head P (f y) (map f ys) h) (All-unmap P f ys (All-tail P (f y) (map f ys) h))

-- the order keeps that of each pass, if it does so with the copies of their places
pub keeps_passes : (order : List Stamp) (copies : List (Vec Stamp Global)) (passes : List (List ReceiptOf)) → map (λ places. places.items) copies ≡ map stamps passes
    → All (λ places. IsSubsequence places.items order) copies → All (λ pass. IsSubsequence (stamps pass) order) passes
keeps_passes order copies passes same kept =
    All-unmap (λ places. IsSubsequence places order) stamps passes
    (subst (λ (xs : List (List Stamp)). All (λ places. IsSubsequence places order) xs) same
    (All-map (λ places. IsSubsequence places order) (λ (places : Vec Stamp Global). places.items) copies kept))

-- the copy of one pass more
pub copies_more : (passes : List (List ReceiptOf)) (i : ℕ) (d : List ReceiptOf) (copies : List (Vec Stamp Global)) (copy : Vec Stamp Global) → i < length passes
    → map (λ places. places.items) copies ≡ map stamps (take i passes) → copy.items ≡ stamps (get_or passes i d)
    → map (λ places. places.items) (copies ++ copy ∷ []) ≡ map stamps (take (i + 1) passes)
copies_more passes i d copies copy below are one =
    map-append (λ (places : Vec Stamp Global). places.items) copies (copy ∷ [])
    ∙ ap (λ (xs : List (List Stamp)). xs ++ copy.items ∷ []) are ∙ ap (λ (x : List Stamp). map stamps (take i passes) ++ x ∷ []) one
    ∙ sym (ap (λ (xs : List (List ReceiptOf)). map stamps xs) (take_more passes i d below) ∙ map-append stamps (take i passes) (get_or passes i d ∷ []))

-- what a wrong count shows
pub counted : (opening : World) (control : List ControlLine) (mounts : List (List MountItem)) (passes : List (List ReceiptOf)) (receipts : ℕ) (fault : SettleFault)
    → AllStand control mounts passes → IsEachOnce (all_stamps passes) → AllRise (length mounts + 1) passes → AreMerged opening control mounts passes
    → receipts ≡ sum_by length passes → IsCounted (length (all_places control mounts)) receipts fault → Shows opening control mounts passes fault
counted opening control mounts passes receipts fault stand once rise merged are (inl refused) =
    subst (λ (f : SettleFault). Shows opening control mounts passes f) (sym refused) tt
counted opening control mounts passes receipts fault stand once rise merged are (inr wrong) =
    subst (λ (f : SettleFault). Shows opening control mounts passes f) (sym wrong) (stand, (once, rise, merged, refl, are))
