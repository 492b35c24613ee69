-- Who feeds a mount once a client has left that had begun to.
use Rattle.std.proofs.Common.{◌≡◌, ◌+◌, ◌==◌, ℕ, suc, false, Some, List, [], ◌∷◌, ◌++◌, length, take, drop, refl, ap, arith, is_some, length-append}
use Rattle.std.specs.List.{position_or_len}
use Rattle.std.proofs.lemmas.Bool.Decides.{nat_tests}
use Rattle.std.proofs.lemmas.Grind.{common_steps}
use Rattle.radio_serving.specs.Sources.{is_source_number, place_among, with_source, without_place, without_source, FeedingClients}

place_last : (id : ℕ) (ns : List ℕ) → is_some (place_among id ns) ≡ false → position_or_len (λ n. n == id) (ns ++ id ∷ []) ≡ length ns
place_last id [] none = grind (arith, nat_tests, common_steps)
place_last id (n ∷ ns) none = grind (arith, nat_tests, common_steps, place_last id ns)

removed : (id : ℕ) (ns : List ℕ) → take (length ns) (ns ++ id ∷ []) ++ drop (length ns + 1) (ns ++ id ∷ []) ≡ ns
removed id [] = refl
removed id (n ∷ ns) = let more : length (n ∷ ns) + 1 ≡ suc (length ns + 1) = omega arith in rw more (ap (λ rest. n ∷ rest) (removed id ns))

gone : (id : ℕ) (ns : List ℕ) → is_some (place_among id ns) ≡ false → without_place (place_among id (ns ++ id ∷ [])) (ns ++ id ∷ []) ≡ ns
gone id ns none =
    let place : place_among id (ns ++ id ∷ []) ≡ Some (length ns) = grind (arith, nat_tests, common_steps, place_last id ns none, length-append ns (id ∷ [])) in
    rw place (removed id ns)

pub leavers_gone : (id : ℕ) (before : FeedingClients) → is_source_number id before ≡ false → without_source id (with_source id before) ≡ before
leavers_gone id before none = ap (λ (numbers : List ℕ). record before { numbers = numbers }) (gone id before.numbers none)
