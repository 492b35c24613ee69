-- Groups that are counted while they are read.
use Rattle.std.proofs.Common.{◌≡◌, ℕ, zero, suc, ◌+◌, ◌-◌, ◌*◌, ◌^◌, ◌<◌, ◌≤◌, Bool, eqb, leb, cond, List, [], ◌∷◌, ◌++◌, length, replicate, Option, None, Some}
use Rattle.std.proofs.Common.{refl, arith, ap, ◌∙◌, sym, ⊎_elim, lit<}
use Rattle.std.specs.Prelude.{fold}
use Rattle.std.specs.Option.{option_map, option_and_then}
use Rattle.std.proofs.lemmas.Bool.{lt-ltb, le-ltb, le-leb, lt-leb, ne_eqb, cases_lt}
use Rattle.std.proofs.lemmas.List.Sums.{fold-append}
use Rattle.std.proofs.lemmas.Grind.{pow_more}
use Rattle.std.proofs.Math.Nat.{pow-le-pow_right, mul-le-mul_right}
use Rattle.std.proofs.lemmas.Nat.{pow-add}
use Rattle.std.proofs.lemmas.List.{length-replicate}
use Rattle.std.proofs.Common.{add-zero}
use Rattle.radio_addr.specs.Numbers.{group_of}
use Rattle.radio_texts.specs.Cuts.{fields_at}
use Rattle.radio_addr.specs.Addresses.{number_of_groups, groups_in, last_groups, whole_address, shortened_address}
use Rattle.radio_addr.specs.Counts.{count_with, count_all, count_between}

-- room for one group more
pub pow_room : (k : ℕ) → k < 8 → 65536 ^ k * 65536 ≤ 2 ^ 128
pow_room k few = let most : 65536 ^ k ≤ 65536 ^ 7 = pow-le-pow_right (lit< tt) {i = k} {j = 7} (omega arith) in omega (arith, most)

pub small_more : (number group k : ℕ) → number < 65536 ^ k → group < 65536 → number * 65536 + group < 65536 ^ (k + 1)
small_more number group k small fits = omega (arith, pow_more 65536 k)

-- some groups counted after others: k are there then
pub count_all-is : (n m k : ℕ) (groups : List ℕ) → n ≤ 8 → k ≡ n + length groups
    → count_all (n, m) groups ≡ cond (leb k 8) (Some (k, fold (λ j group. j * 65536 + group) m groups)) None
count_all-is n m k [] few size = let same : n ≡ k = omega arith in rw (le-leb k 8 (omega arith)) (ap (λ (j : ℕ). Some (j, m)) same)
count_all-is n m k (group ∷ groups) few size = ⊎_elim
    (λ (more : n < 8). rw (lt-ltb n 8 more) (count_all-is (n + 1) (m * 65536 + group) k groups (omega arith) (omega arith)))
    (λ (full : 8 ≤ n). rw (le-ltb n 8 full, lt-leb k 8 (omega arith)) refl)
    (cases_lt n 8)

-- the number of groups after others
pub number_after : (m : ℕ) (groups : List ℕ) → fold (λ k group. k * 65536 + group) m groups ≡ m * 65536 ^ length groups + number_of_groups groups
number_after m [] = omega arith
number_after m (group ∷ groups) =
    let next : suc (length groups) ≡ length groups + 1 = omega arith in
    let power : 65536 ^ suc (length groups) ≡ 65536 ^ length groups * 65536 = ap (λ (j : ℕ). 65536 ^ j) next ∙ pow_more 65536 (length groups) in
    number_after (m * 65536 + group) groups ∙ rw (power, number_after (0 + group) groups) (omega arith)

number_of_zeros : (k : ℕ) → number_of_groups (replicate k 0) ≡ 0
number_of_zeros zero = refl
number_of_zeros (suc k) = number_of_zeros k

-- zero groups between others
number_between : (front back : List ℕ) (k z : ℕ) → z ≡ k + length back
    → number_of_groups (front ++ (replicate k 0 ++ back)) ≡ number_of_groups front * 65536 ^ z + number_of_groups back
number_between front back k z size =
    let f = λ (j group : ℕ). j * 65536 + group in
    let m = number_of_groups front in
    let zeros : fold f m (replicate k 0) ≡ m * 65536 ^ k =
    number_after m (replicate k 0) ∙ rw (number_of_zeros k, length-replicate {A = ℕ} k 0) (add-zero (m * 65536 ^ k)) in
    let power : 65536 ^ z ≡ 65536 ^ k * 65536 ^ length back = ap (λ (j : ℕ). 65536 ^ j) size ∙ pow-add 65536 k (length back) in
    fold-append f 0 front (replicate k 0 ++ back)
    ∙ (fold-append f m (replicate k 0) back
    ∙ (ap (λ j. fold f j back) zeros
    ∙ (number_after (m * 65536 ^ k) back ∙ rw power (omega arith))))

-- a shift by one group more, and the sum of what was shifted and what follows
pub shifted_more : (n c i : ℕ) → c ≤ i → n * 65536 ^ (i - c) * 65536 ≡ n * 65536 ^ (i + 1 - c)
shifted_more n c i le =
    let next : i + 1 - c ≡ (i - c) + 1 = omega arith in
    rw (next, pow_more 65536 (i - c)) (omega arith)

pub sum_fits : (n c b d : ℕ) → n < 65536 ^ c → b < 65536 ^ d → c + d < 8 → n * 65536 ^ (8 - c) + b < 2 ^ 128
sum_fits n c b d front back few =
    let z = 8 - c in
    let whole : 65536 ^ c * 65536 ^ z ≡ 2 ^ 128 =
    sym (pow-add 65536 c z) ∙ (let all : c + z ≡ 8 = omega arith in ap (λ (j : ℕ). 65536 ^ j) all) in
    let most : (n + 1) * 65536 ^ z ≤ 65536 ^ c * 65536 ^ z = mul-le-mul_right (65536 ^ z) (omega arith) in
    let room : 65536 ^ d ≤ 65536 ^ z = pow-le-pow_right (lit< tt) {i = d} {j = z} (omega arith) in
    omega (arith, whole, most, room)

-- the address of eight groups, and of fewer with zeros between them
pub whole_by_counts : (o : Option (List ℕ)) → option_and_then (λ c. cond (eqb c.0 8) (Some c.1) None)
    (option_and_then (count_all (0, 0)) o) ≡ option_and_then whole_address o
whole_by_counts None = refl
whole_by_counts (Some groups) = ⊎_elim
    (λ (more : 8 < length groups). rw (
      count_all-is 0 0 (length groups) groups (omega arith) (omega arith),
      lt-leb (length groups) 8 more,
      ne_eqb
          (length groups) 8 (λ e. omega arith),
    ) refl)
    (λ (few : length groups ≤ 8). rw (count_all-is 0 0 (length groups) groups (omega arith) (omega arith), le-leb (length groups) 8 few) refl)
    (cases_lt 8 (length groups))

abbrev pub counted : Option (List ℕ) → Option (ℕ × ℕ)
counted o = option_and_then (count_all (0, 0)) o

between_counts : (front back : List ℕ) → option_and_then (λ f. option_and_then (λ b. count_between f b) (counted (Some back)))
    (counted (Some front)) ≡ shortened_address front back
between_counts front back =
    let f = length front in
    let b = length back in
    rw (count_all-is 0 0 f front (omega arith) (omega arith), count_all-is 0 0 b back (omega arith) (omega arith))
    (⊎_elim
    (λ (more : 8 < f). rw (lt-leb f 8 more, le-ltb (f + b) 8 (omega arith)) refl)
    (λ (few : f ≤ 8). rw (le-leb f 8 few) (⊎_elim
    (λ (more : 8 < b). rw (lt-leb b 8 more, le-ltb (f + b) 8 (omega arith)) refl)
    (λ (less : b ≤ 8). rw (le-leb b 8 less) (⊎_elim
    (λ (room : f + b < 8). rw (lt-ltb (f + b) 8 room) (ap (λ (n : ℕ). Some n) (sym (number_between front back (8 - (f + b)) (8 - f) (omega arith)))))
    (λ (full : 8 ≤ f + b). rw (le-ltb (f + b) 8 full) refl)
    (cases_lt (f + b) 8)))
    (cases_lt 8 b)))
    (cases_lt 8 f))

and_then_none : {A B : Type 0} (o : Option A) → option_and_then {T = A} {U = B} (λ _. None) o ≡ None
and_then_none None = refl
and_then_none (Some x) = refl

pub shortened_by_counts : (p q : Option (List ℕ)) → option_and_then (λ f. option_and_then (λ b. count_between f b) (counted q))
    (counted p) ≡ option_and_then (λ front. option_and_then (λ back. shortened_address front back) q) p
shortened_by_counts None q = refl
shortened_by_counts (Some front) None = and_then_none (count_all (0, 0) front)
shortened_by_counts (Some front) (Some back) = between_counts front back

-- an address read by its counts
pub whole_read : (o : Option (List ℕ)) (r : Option (ℕ × ℕ)) → r ≡ counted o
    → option_and_then (λ c. cond (eqb c.0 8) (Some c.1) None) r ≡ option_and_then whole_address o
whole_read o r read = ap (option_and_then (λ c. cond (eqb c.0 8) (Some c.1) None)) read ∙ whole_by_counts o

pub shortened_read : (p q : Option (List ℕ)) (r s : Option (ℕ × ℕ)) → r ≡ counted p → s ≡ counted q
    → option_and_then (λ f. option_and_then (λ b. count_between f b) s) r ≡ option_and_then
    (λ front. option_and_then (λ back. shortened_address front back) q) p
shortened_read p q r s front back =
    ap (λ (t : Option (ℕ × ℕ)). option_and_then (λ f. option_and_then (λ b. count_between f b) t) r) back
    ∙ (ap (option_and_then (λ f. option_and_then (λ b. count_between f b) (counted q))) front ∙ shortened_by_counts p q)

-- the groups of a text, by one cut
pub groups_in-cons : (q : Bool) (field : List ℕ) (fields : List (List ℕ)) → 0 < length fields
    → groups_in q (field ∷ fields) ≡ option_and_then (λ group. option_map (λ groups. group ∷ groups) (groups_in q fields)) (group_of field)
groups_in-cons q field [] some = absurd (omega arith)
groups_in-cons q field (next ∷ fields) some = refl

groups_at_cut : (q : Bool) (rest field later : List ℕ) → fields_at 58 rest ≡ field ∷ fields_at 58 later → 0 < length (fields_at 58 later)
    → groups_in q (fields_at 58 rest) ≡ option_and_then (λ group. option_map (λ groups. group ∷ groups) (groups_in q (fields_at 58 later))) (group_of field)
groups_at_cut q rest field later at some = ap (groups_in q) at ∙ groups_in-cons q field (fields_at 58 later) some

pub groups_at_end : (q : Bool) (rest : List ℕ) → fields_at 58 rest ≡ rest ∷ [] → groups_in q (fields_at 58 rest) ≡ last_groups q rest
groups_at_end q rest at = ap (groups_in q) at

counted_more : (c d : ℕ × ℕ) (group : ℕ) (o : Option (List ℕ)) → Some d ≡ count_with c group
    → option_and_then (count_all c) (option_map (λ groups. group ∷ groups) o) ≡ option_and_then (count_all d) o
counted_more c d group None more = refl
counted_more c d group (Some groups) more = rw (← more) refl

counted_full : (c : ℕ × ℕ) (group : ℕ) (o : Option (List ℕ)) → None ≡ count_with c group
    → option_and_then (count_all c) (option_map (λ groups. group ∷ groups) o) ≡ None
counted_full c group None full = refl
counted_full c group (Some groups) full = rw (← full) refl

-- one field more of a text of groups: it is a group, it is none, or it is one too many
pub field_more : (q : Bool) (rest field later : List ℕ) (c d : ℕ × ℕ) (group : ℕ) (all : Option (ℕ × ℕ))
    → fields_at 58 rest ≡ field ∷ fields_at 58 later → 0 < length (fields_at 58 later) → Some group ≡ group_of field → Some d ≡ count_with c group
    → option_and_then (count_all c) (groups_in q (fields_at 58 rest)) ≡ all → option_and_then (count_all d) (groups_in q (fields_at 58 later)) ≡ all
field_more q rest field later c d group all at some is more so_far =
    sym (ap (option_and_then (count_all c)) (groups_at_cut q rest field later at some ∙ rw (← is) refl)
    ∙ counted_more c d group (groups_in q (fields_at 58 later)) more) ∙ so_far

pub field_none : (q : Bool) (rest field later : List ℕ) (c : ℕ × ℕ) (all : Option (ℕ × ℕ)) → fields_at 58 rest ≡ field ∷ fields_at 58 later
    → 0 < length (fields_at 58 later) → None ≡ group_of field → option_and_then (count_all c) (groups_in q (fields_at 58 rest)) ≡ all → None ≡ all
field_none q rest field later c all at some is so_far =
    let none : option_and_then (λ group. option_map (λ groups. group ∷ groups) (groups_in q (fields_at 58 later))) (group_of field) ≡ None = rw (← is) refl in
    sym (ap (option_and_then (count_all c)) (groups_at_cut q rest field later at some ∙ none)) ∙ so_far

pub field_full : (q : Bool) (rest field later : List ℕ) (c : ℕ × ℕ) (group : ℕ) (all : Option (ℕ × ℕ))
    → fields_at 58 rest ≡ field ∷ fields_at 58 later → 0 < length (fields_at 58 later) → Some group ≡ group_of field → None ≡ count_with c group
    → option_and_then (count_all c) (groups_in q (fields_at 58 rest)) ≡ all → None ≡ all
field_full q rest field later c group all at some is full so_far =
    sym (ap (option_and_then (count_all c)) (groups_at_cut q rest field later at some ∙ rw (← is) refl)
    ∙ counted_full c group (groups_in q (fields_at 58 later)) full) ∙ so_far
