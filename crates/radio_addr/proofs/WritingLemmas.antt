-- What is written of a peer is read back as the same peer.
use Rattle.std.proofs.Common.{◌≡◌, ℕ, zero, suc, ◌+◌, ◌*◌, ◌/◌, ◌%◌, ◌^◌, ◌<◌, ◌≤◌, Bool, true, false, eqb, ltb, leb, List, [], ◌∷◌, ◌++◌, ◌&&◌, length, get_or}
use Rattle.std.proofs.Common.{None, Some, refl, arith, ap, ◌∙◌, sym, ⊎_elim}
use Rattle.std.specs.Fmt.{decimal, digits, digits_onto, digit_glyph}
use Rattle.std.specs.Char.{digit_value, is_digit}
use Rattle.std.specs.Option.{option_map}
use Rattle.std.specs.Str.Parse.{digits_value, AllDigits, IsNumeral}
use Rattle.std.proofs.lemmas.Bool.{lt-ltb, le-ltb, le-leb, eq-eqb, ne_eqb, and_from, and_left, and_right, cases_lt, cases_eq}
use Rattle.std.proofs.lemmas.Grind.{pow_more}
use Rattle.std.proofs.lemmas.List.{append-nil, append_assoc, length-append}
use Rattle.std.proofs.Math.Nat.{div-div-eq-div-mul}
use Rattle.std.proofs.lemmas.Fmt.{digits_is_IsNumeral, decimal_digit, first_decimal}
use Rattle.std.specs.List.{list_all, starts_with}
use Rattle.radio_texts.specs.Numbers.{number_of, is_numeral}
use Rattle.radio_addr.specs.Numbers.{octet_of, group_of}
use Rattle.radio_texts.specs.Cuts.{cut, cut_at_two, onto_front, fields_at, fields_by}
use Rattle.radio_addr.specs.Addresses.{quad_of, quad_number, v6_of, address_of, peer_of, groups_in, groups_of, last_groups, number_of_groups}
use Rattle.radio_addr.specs.Writing.{written, four_groups, group_at, hexadecimal, IsPeer}
use Rattle.radio_addr.specs.declared.address.Address.{Address}
use Rattle.radio_addr.specs.declared.address.Address.TheVariants.{V4, V6}
use Rattle.radio_addr.proofs.CountsLemmas.{groups_in-cons}

-- whether all bytes are digits
abbrev pub all_digits : ℕ → List ℕ → Bool
all_digits base text = list_all (λ b. is_digit b base) text

-- whether a text begins with two bytes c
abbrev pub begins_twice : ℕ → List ℕ → Bool
begins_twice c text = starts_with eqb text (c ∷ c ∷ [])

-- the fields between colons by one cut, and that there is one
abbrev pub ByCuts : Type 0
ByCuts = (at : ℕ) (text : List ℕ) → fields_at at text ≡ fields_by at text (cut at text)

abbrev pub SomeField : Type 0
SomeField = (at : ℕ) (text : List ℕ) → 0 < length (fields_at at text)

-- digits pass the test of digits
all_digits-from : (base : ℕ) (ds : List ℕ) → AllDigits base ds → all_digits base ds ≡ true
all_digits-from base [] all = refl
all_digits-from base (d ∷ ds) all = and_from (is_digit d base) _ (lt-ltb (digit_value d) base all.0) (all_digits-from base ds all.1)

-- the number of a numeral
number_of-numeral : (base most n : ℕ) (ds : List ℕ) → IsNumeral base ds → digits_value base ds ≡ n → n ≤ most → number_of base most ds ≡ Some n
unfolding number_of
number_of-numeral base most n ds numeral value fits =
    let is : is_numeral base ds ≡ true = and_from (ltb 0 (length ds)) (all_digits base ds) (lt-ltb 0 (length ds) numeral.0)
    (all_digits-from base ds numeral.1) in
    let passes = and_from (is_numeral base ds) (leb (digits_value base ds) most) is (le-leb (digits_value base ds) most (omega arith)) in
    rw passes (ap (λ (m : ℕ). Some m) value)

decimal-is : (n : ℕ) → n < 65536 → IsNumeral 10 (decimal n) × (digits_value 10 (decimal n) ≡ n)
decimal-is n small = digits_is_IsNumeral 10 false (omega arith) (omega arith) n (omega arith)

hexadecimal-is : (n : ℕ) → n < 65536 → IsNumeral 16 (digits 16 false n) × (digits_value 16 (digits 16 false n) ≡ n)
hexadecimal-is n small = digits_is_IsNumeral 16 false (omega arith) (omega arith) n (omega arith)

-- a written octet is read back
no_needless_zero : (n : ℕ) → n ≤ 255 → (ltb 1 (length (decimal n)) && eqb (get_or (decimal n) 0 0) 48) ≡ false
no_needless_zero n small = ⊎_elim
    (λ (some : 0 < n). and_right (ltb 1 (length (decimal n))) _ (ne_eqb (get_or (decimal n) 0 0) 48 (λ e. omega (arith, first_decimal n some (omega arith)))))
    (λ (none : n ≤ 0).
    let one : length (decimal n) ≡ 1 = ap length (decimal_digit n (omega arith)) in
    and_left (ltb 1 (length (decimal n))) _ (le-ltb 1 (length (decimal n)) (omega arith)))
    (cases_lt 0 n)

octet_of-decimal : (n : ℕ) → n ≤ 255 → octet_of (decimal n) ≡ Some n
unfolding octet_of
octet_of-decimal n small =
    let is = decimal-is n (omega arith) in
    rw (no_needless_zero n small) (number_of-numeral 10 255 n (decimal n) is.0 is.1 small)

-- a written group is read back
length-digits_onto : (k n fuel : ℕ) (acc : List ℕ) → n < 16 ^ k → 0 < k → k ≤ fuel → length (digits_onto fuel 16 false n acc) ≤ length acc + k
length-digits_onto zero n fuel acc small some room = absurd (omega arith)
length-digits_onto (suc k) n zero acc small some room = absurd (omega arith)
length-digits_onto (suc zero) n (suc fuel) acc small some room =
    let last : n / 16 ≡ 0 = omega arith in
    rw (eq-eqb (n / 16) 0 last) (omega arith)
length-digits_onto (suc (suc k)) n (suc fuel) acc small some room = ⊎_elim
    (λ (last : n / 16 ≡ 0). rw (eq-eqb (n / 16) 0 last) (omega arith))
    (λ (more : n / 16 ≡ 0 → ⊥).
    let next : suc (suc k) ≡ suc k + 1 = omega arith in
    let power : 16 ^ suc (suc k) ≡ 16 ^ suc k * 16 = ap (λ (j : ℕ). 16 ^ j) next ∙ pow_more 16 (suc k) in
    rw (ne_eqb (n / 16) 0 more) (omega (
      arith,
      length-digits_onto (suc k) (n / 16) fuel (digit_glyph false (n % 16) ∷ acc) (omega arith)
          (omega arith) (omega arith),
    )))
    (cases_eq (n / 16) 0)

length-hexadecimal : (n : ℕ) → n < 65536 → length (digits 16 false n) ≤ 4
unfolding digits
length-hexadecimal n small = length-digits_onto 4 n 64 [] small (omega arith) (omega arith)

group_of-hexadecimal : (n : ℕ) → n < 65536 → group_of (digits 16 false n) ≡ Some n
unfolding group_of
group_of-hexadecimal n small =
    let is = hexadecimal-is n small in
    let short = length-hexadecimal n small in
    rw (le-ltb 4 (length (digits 16 false n)) short) (number_of-numeral 16 65535 n (digits 16 false n) is.0 is.1 (omega arith))

-- digits are not cut at a byte that is none
cut_after_digits : (base c : ℕ) (ds rest : List ℕ) → base ≤ digit_value c → AllDigits base ds → cut c (ds ++ c ∷ rest) ≡ Some (ds, rest)
cut_after_digits base c [] rest other all = rw (eq-eqb c c refl) refl
cut_after_digits base c (d ∷ ds) rest other all =
    let differs = ne_eqb d c (λ e. let same : digit_value d ≡ digit_value c = ap digit_value e in omega (arith, all.0)) in
    rw differs (ap (onto_front d) (cut_after_digits base c ds rest other all.1))

cut_digits : (base c : ℕ) (ds : List ℕ) → base ≤ digit_value c → AllDigits base ds → cut c ds ≡ None
cut_digits base c [] other all = refl
cut_digits base c (d ∷ ds) other all =
    let differs = ne_eqb d c (λ e. let same : digit_value d ≡ digit_value c = ap digit_value e in omega (arith, all.0)) in
    rw differs (ap (onto_front d) (cut_digits base c ds other all.1))

-- nor at another byte behind them
cut_past_digits : (base c b : ℕ) (ds rest : List ℕ) → base ≤ digit_value c → (b ≡ c → ⊥) → AllDigits base ds → cut c rest ≡ None
    → cut c (ds ++ b ∷ rest) ≡ None
cut_past_digits base c b [] rest other apart all none = rw (ne_eqb b c apart) (ap (onto_front b) none)
cut_past_digits base c b (d ∷ ds) rest other apart all none =
    let differs = ne_eqb d c (λ e. let same : digit_value d ≡ digit_value c = ap digit_value e in omega (arith, all.0)) in
    rw differs (ap (onto_front d) (cut_past_digits base c b ds rest other apart all.1 none))

-- a written quad is read back
quad_of-written : (a b c d : ℕ) → a ≤ 255 → b ≤ 255 → c ≤ 255 → d ≤ 255
    → quad_of (decimal a ++ (46 ∷ (decimal b ++ (46 ∷ (decimal c ++ (46 ∷ decimal d)))))) ≡ Some (quad_number a b c d)
unfolding quad_of
quad_of-written a b c d small_a small_b small_c small_d =
    let third = decimal c ++ (46 ∷ decimal d) in
    let second = decimal b ++ (46 ∷ third) in
    rw (
      cut_after_digits 10 46 (decimal a) second (omega arith) (decimal-is a (omega arith)).0.1,
      cut_after_digits 10 46 (decimal b) third (omega arith) (decimal-is b (omega arith)).0.1,
      cut_after_digits 10 46 (decimal c) (decimal d) (omega arith) (decimal-is c (omega arith)).0.1,
      octet_of-decimal a small_a,
      octet_of-decimal b small_b,
      octet_of-decimal c small_c,
      octet_of-decimal d small_d,
    ) refl

quad_number-is : (n : ℕ) → quad_number (n / 2 ^ 24) (n / 2 ^ 16 % 256) (n / 2 ^ 8 % 256) (n % 256) ≡ n
quad_number-is n =
    let second : n / 2 ^ 8 / 256 ≡ n / 2 ^ 16 = div-div-eq-div-mul n (2 ^ 8) 256 in
    let first : n / 2 ^ 16 / 256 ≡ n / 2 ^ 24 = div-div-eq-div-mul n (2 ^ 16) 256 in
    omega arith

peer_of-v4 : (n : ℕ) → n < 2 ^ 32 → peer_of (written (V4 n)) ≡ Some (V4 n)
unfolding address_of
peer_of-v4 n small =
    rw (quad_of-written (n / 2 ^ 24) (n / 2 ^ 16 % 256) (n / 2 ^ 8 % 256) (n % 256) (omega arith) (omega arith) (omega arith) (omega arith))
    (ap (λ (m : ℕ). Some (V4 m)) (quad_number-is n))

-- groups with colons between them
abbrev pub joined : List ℕ → List ℕ
joined [] = []
joined (g ∷ []) = hexadecimal g
joined (g ∷ h ∷ groups) = hexadecimal g ++ (58 ∷ joined (h ∷ groups))

abbrev pub AreGroups : List ℕ → Type 0
AreGroups [] = Unit {0}
AreGroups (g ∷ groups) = (g < 65536) × AreGroups groups

-- such a text has no dot
no_dot : (groups : List ℕ) → AreGroups groups → cut 46 (joined groups) ≡ None
no_dot [] all = refl
no_dot (g ∷ []) all = cut_digits 16 46 (hexadecimal g) (omega arith) (hexadecimal-is g all.0).0.1
no_dot (g ∷ h ∷ groups) all =
    cut_past_digits 16 46 58 (hexadecimal g) (joined (h ∷ groups)) (omega arith) (λ e. omega arith) (hexadecimal-is g all.0).0.1 (no_dot (h ∷ groups) all.1)

-- its first byte is no colon
first_digit : (ds rest : List ℕ) → 0 < length ds → AllDigits 16 ds → eqb 58 (get_or (ds ++ rest) 0 0) ≡ false
first_digit [] rest some all = absurd (omega arith)
first_digit (d ∷ ds) rest some all = ne_eqb 58 d (λ e. let same : digit_value 58 ≡ digit_value d = ap digit_value e in omega (arith, all.0))

first_byte : (g : ℕ) (groups : List ℕ) → AreGroups (g ∷ groups) → eqb 58 (get_or (joined (g ∷ groups)) 0 0) ≡ false
first_byte g [] all = let is = hexadecimal-is g all.0 in ap (λ t. eqb 58 (get_or t 0 0)) (sym (append-nil (hexadecimal g)))
    ∙ first_digit (hexadecimal g) [] is.0.0 is.0.1
first_byte g (h ∷ groups) all = let is = hexadecimal-is g all.0 in first_digit (hexadecimal g) (58 ∷ joined (h ∷ groups)) is.0.0 is.0.1

-- and no two colons stand side by side
no_two_in_digits : (ds : List ℕ) → AllDigits 16 ds → cut_at_two 58 ds ≡ None
no_two_in_digits [] all = refl
no_two_in_digits (d ∷ ds) all =
    let differs : begins_twice 58 (d ∷ ds) ≡ false = and_left (eqb 58 d) _
    (ne_eqb 58 d (λ e. let same : digit_value 58 ≡ digit_value d = ap digit_value e in omega (arith, all.0))) in
    rw differs (ap (onto_front d) (no_two_in_digits ds all.1))

not_twice : (rest : List ℕ) → eqb 58 (get_or rest 0 0) ≡ false → begins_twice 58 (58 ∷ rest) ≡ false
not_twice [] other = refl
not_twice (r ∷ rest) other = and_left (eqb 58 r) _ other

no_two_past_digits : (ds rest : List ℕ) → AllDigits 16 ds → eqb 58 (get_or rest 0 0) ≡ false → cut_at_two 58 rest ≡ None
    → cut_at_two 58 (ds ++ (58 ∷ rest)) ≡ None
no_two_past_digits [] rest all other none = rw (not_twice rest other) (ap (onto_front 58) none)
no_two_past_digits (d ∷ ds) rest all other none =
    let differs : begins_twice 58 (d ∷ (ds ++ (58 ∷ rest))) ≡ false = and_left (eqb 58 d) _
    (ne_eqb 58 d (λ e. let same : digit_value 58 ≡ digit_value d = ap digit_value e in omega (arith, all.0))) in
    rw differs (ap (onto_front d) (no_two_past_digits ds rest all.1 other none))

no_two : (groups : List ℕ) → AreGroups groups → cut_at_two 58 (joined groups) ≡ None
no_two [] all = refl
no_two (g ∷ []) all = no_two_in_digits (hexadecimal g) (hexadecimal-is g all.0).0.1
no_two (g ∷ h ∷ groups) all =
    no_two_past_digits (hexadecimal g) (joined (h ∷ groups)) (hexadecimal-is g all.0).0.1 (first_byte h groups all.1) (no_two (h ∷ groups) all.1)

-- its groups are read back
last_groups-hexadecimal : (q : Bool) (g : ℕ) → g < 65536 → last_groups q (hexadecimal g) ≡ Some (g ∷ [])
unfolding last_groups
last_groups-hexadecimal q g small = rw (group_of-hexadecimal g small) refl

groups_in-joined : ByCuts → SomeField → (q : Bool) (g : ℕ) (groups : List ℕ) → AreGroups (g ∷ groups)
    → groups_in q (fields_at 58 (joined (g ∷ groups))) ≡ Some (g ∷ groups)
groups_in-joined by some q g [] all =
    ap (groups_in q) (by 58 (hexadecimal g) ∙ ap (fields_by 58 (hexadecimal g)) (cut_digits 16 58 (hexadecimal g) (omega arith) (hexadecimal-is g all.0).0.1))
    ∙ last_groups-hexadecimal q g all.0
groups_in-joined by some q g (h ∷ groups) all =
    let rest = joined (h ∷ groups) in
    let text = hexadecimal g ++ (58 ∷ rest) in
    ap (groups_in q) (by 58 text ∙ ap (fields_by 58 text) (cut_after_digits 16 58 (hexadecimal g) rest (omega arith) (hexadecimal-is g all.0).0.1))
    ∙ (groups_in-cons q (hexadecimal g) (fields_at 58 rest) (some 58 rest)
    ∙ rw (group_of-hexadecimal g all.0) (ap (option_map (λ gs. g ∷ gs)) (groups_in-joined by some q h groups all.1)))

-- the number of the groups of an address
shifted_back : (n a : ℕ) → n / (a * 65536) * 65536 + n / a % 65536 ≡ n / a
shifted_back n a = let twice = div-div-eq-div-mul n a 65536 in omega (arith, twice)

number_of-groups_at : (n : ℕ) → n < 2 ^ 128 → number_of_groups
    (group_at n 0 ∷ group_at n 1 ∷ group_at n 2 ∷ group_at n 3 ∷ group_at n 4 ∷ group_at n 5 ∷ group_at n 6 ∷ group_at n 7 ∷ []) ≡ n
number_of-groups_at n small =
    let top : 0 + group_at n 0 ≡ n / 2 ^ 112 = omega arith in
    let one : n / 2 ^ 112 * 65536 + group_at n 1 ≡ n / 2 ^ 96 = shifted_back n (2 ^ 96) in
    let two : n / 2 ^ 96 * 65536 + group_at n 2 ≡ n / 2 ^ 80 = shifted_back n (2 ^ 80) in
    let three : n / 2 ^ 80 * 65536 + group_at n 3 ≡ n / 2 ^ 64 = shifted_back n (2 ^ 64) in
    let four : n / 2 ^ 64 * 65536 + group_at n 4 ≡ n / 2 ^ 48 = shifted_back n (2 ^ 48) in
    let five : n / 2 ^ 48 * 65536 + group_at n 5 ≡ n / 2 ^ 32 = shifted_back n (2 ^ 32) in
    let six : n / 2 ^ 32 * 65536 + group_at n 6 ≡ n / 2 ^ 16 = shifted_back n (2 ^ 16) in
    let seven : n / 2 ^ 16 * 65536 + group_at n 7 ≡ n / 1 = shifted_back n 1 in
    let all : n / 1 ≡ n = omega arith in
    rw (top, one, two, three, four, five, six, seven) all

-- a written IPv6 address is read back
eight_groups : ℕ → List ℕ
eight_groups n = group_at n 0 ∷ group_at n 1 ∷ group_at n 2 ∷ group_at n 3 ∷ group_at n 4 ∷ group_at n 5 ∷ group_at n 6 ∷ group_at n 7 ∷ []

are_groups : (n : ℕ) → AreGroups (eight_groups n)
unfolding eight_groups
are_groups n = (omega arith, (omega arith, (omega arith, (omega arith, (omega arith, (omega arith, (omega arith, (omega arith, tt))))))))

-- four texts with colons between them, and more behind
append_assoc_four : (a b c d rest : List ℕ)
    → (a ++ (58 ∷ (b ++ (58 ∷ (c ++ (58 ∷ d)))))) ++ (58 ∷ rest) ≡ a ++ (58 ∷ (b ++ (58 ∷ (c ++ (58 ∷ (d ++ (58 ∷ rest)))))))
append_assoc_four a b c d rest =
    append_assoc a (58 ∷ (b ++ (58 ∷ (c ++ (58 ∷ d))))) (58 ∷ rest)
    ∙ ap (λ t. a ++ (58 ∷ t)) (append_assoc b (58 ∷ (c ++ (58 ∷ d))) (58 ∷ rest)
    ∙ ap (λ t. b ++ (58 ∷ t)) (append_assoc c (58 ∷ d) (58 ∷ rest)))

groups_of-some : (q : Bool) (text : List ℕ) → 0 < length text → groups_of q text ≡ groups_in q (fields_at 58 text)
groups_of-some q [] some = absurd (omega arith)
groups_of-some q (b ∷ text) some = refl

quad_of-none : (text : List ℕ) → cut 46 text ≡ None → quad_of text ≡ None
unfolding quad_of
quad_of-none text none = rw none refl

v6_of-written : ByCuts → SomeField → (n : ℕ) → n < 2 ^ 128 → v6_of (joined (eight_groups n)) ≡ Some n
unfolding v6_of eight_groups
v6_of-written by fields n small =
    let text = joined (eight_groups n) in
    let some : 0 < length text = omega (
      arith,
      length-append (hexadecimal (group_at n 0))
          (58 ∷ joined (group_at n 1 ∷ group_at n 2 ∷ group_at n 3 ∷ group_at n 4 ∷ group_at n 5 ∷ group_at n 6 ∷ group_at n 7 ∷ [])),
    ) in
    rw (
      no_two (eight_groups n) (are_groups n),
      groups_of-some true text some,
      groups_in-joined by fields true (group_at n 0)
          (group_at n 1 ∷ group_at n 2 ∷ group_at n 3 ∷ group_at n 4 ∷ group_at n 5 ∷ group_at n 6 ∷ group_at n 7 ∷ []) (are_groups n),
    )
    (ap (λ (m : ℕ). Some m) (number_of-groups_at n small))

-- what is written of it are its groups with colons between them
written_groups : (n : ℕ) → written (V6 n) ≡ joined (eight_groups n)
unfolding eight_groups
written_groups n =
    append_assoc_four (hexadecimal (group_at n 0)) (hexadecimal (group_at n 1)) (hexadecimal (group_at n 2)) (hexadecimal (group_at n 3))
    (four_groups (group_at n 4) (group_at n 5) (group_at n 6) (group_at n 7))

peer_of-v6 : ByCuts → SomeField → (n : ℕ) → n < 2 ^ 128 → (n / 2 ^ 32 ≡ 0xffff → ⊥) → peer_of (written (V6 n)) ≡ Some (V6 n)
unfolding address_of eight_groups
peer_of-v6 by some n small plain =
    ap peer_of (written_groups n)
    ∙ rw (quad_of-none (joined (eight_groups n)) (no_dot (eight_groups n) (are_groups n)), v6_of-written by some n small, ne_eqb (n / 2 ^ 32) 0xffff plain) refl

pub peer_of-written : ByCuts → SomeField → (p : Address) → IsPeer p → peer_of (written p) ≡ Some p
peer_of-written by some (V4 n) fits = peer_of-v4 n fits
peer_of-written by some (V6 n) fits = peer_of-v6 by some n fits.0 fits.1
