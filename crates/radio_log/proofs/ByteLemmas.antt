-- What is written of a fact is bytes.
use Rattle.std.proofs.Common.{ℕ, ◌/◌, ◌%◌, ◌^◌, ◌<◌, ◌≤◌, false, List, [], ◌∷◌, ◌++◌, arith}
use Rattle.std.specs.List.{AllByRecursion}
use Rattle.std.specs.Fmt.{decimal}
use Rattle.std.specs.Char.{digit_value}
use Rattle.std.specs.Str.Parse.{AllDigits}
use Rattle.std.proofs.lemmas.Bool.Decides.{nat_tests}
use Rattle.std.proofs.lemmas.Fmt.{decimal_is_IsNumeral, digits_is_IsNumeral}
use Rattle.radio_addr.specs.Writing.{written, four_groups, group_at, hexadecimal, IsPeer}
use Rattle.radio_addr.specs.declared.address.Address.{Address}
use Rattle.radio_addr.specs.declared.address.Address.TheVariants.{V4, V6}
use Rattle.radio_log.specs.declared.facts.Fact.{Fact}
use Rattle.radio_log.specs.declared.facts.Fact.TheVariants.{Started, Ended, ClientEnded, SourceUp, SourceGone, RelayUp, RelayGone, RelayFailed, MountUp, MountGone, Title, Command, Warning, Fault, Lost}
use Rattle.radio_log.specs.Lines.{Field, fields_of}
use Rattle.radio_log.specs.Laws.{IsText, IsCount, IsFact}
use Rattle.radio_log.proofs.ShownLemmas.{Each-append}

digit_is_byte : (d base : ℕ) → base ≤ 16 → digit_value d < base → d < 256
digit_is_byte d base small h = grind (arith, nat_tests)

digits_are_bytes : (base : ℕ) (ds : List ℕ) → base ≤ 16 → AllDigits base ds → IsText ds
digits_are_bytes base [] small h = tt
digits_are_bytes base (d ∷ ds) small h = (digit_is_byte d base small h.0, digits_are_bytes base ds small h.1)

count_bytes : (n : ℕ) → IsCount n → IsText (decimal n)
count_bytes n h = digits_are_bytes 10 (decimal n) (omega arith) (decimal_is_IsNumeral n h).0.1

group_bytes : (n : ℕ) → n < 65536 → IsText (hexadecimal n)
group_bytes n h = digits_are_bytes 16 (hexadecimal n) (omega arith) (digits_is_IsNumeral 16 false (omega arith) (omega arith) n (omega arith)).0.1

with_sign : (xs ys : List ℕ) (b : ℕ) → IsText xs → b < 256 → IsText ys → IsText (xs ++ b ∷ ys)
with_sign xs ys b h small k = Each-append (λ b. b < 256) xs (b ∷ ys) h (small, k)

groups_bytes : (a b c d : ℕ) → a < 65536 → b < 65536 → c < 65536 → d < 65536 → IsText (four_groups a b c d)
groups_bytes a b c d ha hb hc hd =
    with_sign (hexadecimal a) _ 58 (group_bytes a ha) (omega arith) (with_sign (hexadecimal b) _ 58 (group_bytes b hb) (omega arith)
    (with_sign (hexadecimal c) _ 58 (group_bytes c hc) (omega arith) (group_bytes d hd)))

group_small : (n k : ℕ) → group_at n k < 65536
group_small n k = omega arith

peer_bytes : (p : Address) → IsPeer p → IsText (written p)
peer_bytes (V4 n) h =
    with_sign (decimal (n / 2 ^ 24)) _ 46 (count_bytes (n / 2 ^ 24) (omega arith)) (omega arith)
    (with_sign (decimal (n / 2 ^ 16 % 256)) _ 46 (count_bytes (n / 2 ^ 16 % 256) (omega arith)) (omega arith)
    (with_sign (decimal (n / 2 ^ 8 % 256)) _ 46 (count_bytes (n / 2 ^ 8 % 256) (omega arith)) (omega arith)
    (count_bytes (n % 256) (omega arith))))
peer_bytes (V6 n) h =
    with_sign (four_groups (group_at n 0) (group_at n 1) (group_at n 2) (group_at n 3)) _ 58
    (groups_bytes _ _ _ _ (group_small n 0) (group_small n 1) (group_small n 2) (group_small n 3)) (omega arith)
    (groups_bytes _ _ _ _ (group_small n 4) (group_small n 5) (group_small n 6) (group_small n 7))

pub values_are_bytes : (fact : Fact) → IsFact fact → AllByRecursion (λ (field : Field). IsText field.1) (fields_of fact)
values_are_bytes (Started version address) h = (h.0, (h.1, tt))
values_are_bytes (Ended why) h = (h, tt)
values_are_bytes (ClientEnded c) h =
    (peer_bytes c.peer h.0, (h.1, (h.2, (h.3, (count_bytes c.status h.4, (h.5, (h.6, (count_bytes c.seconds h.7, (count_bytes c.bytes h.8, (h.9, tt))))))))))
values_are_bytes (SourceUp s) h = (h.0, (peer_bytes s.peer h.1, (h.2, (h.3, tt))))
values_are_bytes (SourceGone s) h = (h.0, (peer_bytes s.peer h.1, (h.2, (count_bytes s.seconds h.3, (count_bytes s.bytes h.4, tt)))))
values_are_bytes (RelayUp r) h = (h.0, (h.1, (h.2, tt)))
values_are_bytes (RelayGone r) h = (h.0, (h.1, (h.2, (count_bytes r.seconds h.3, (count_bytes r.bytes h.4, tt)))))
values_are_bytes (RelayFailed r) h = (h.0, (h.1, (h.2, (count_bytes r.times h.3, tt))))
values_are_bytes (MountUp mount) h = (h, tt)
values_are_bytes (MountGone mount why) h = (h.0, (h.1, tt))
values_are_bytes (Title t) h = (h.0, (h.1, tt))
values_are_bytes (Command c) h = (h.0, (h.1, (h.2, (h.3, (peer_bytes c.peer h.4, tt)))))
values_are_bytes (Warning w) h =
    (h.0, (h.1, (h.2, (count_bytes w.limit h.3, (h.4, (count_bytes w.place.line h.5, (h.6, (h.7, tt))))))))
values_are_bytes (Fault f) h =
    (h.0, (h.1, (count_bytes f.line h.2, (count_bytes f.column h.3, (h.4, (h.5, (h.6, (h.7, (h.8, (h.9, tt))))))))))
values_are_bytes (Lost lines) h = (count_bytes lines h, tt)
