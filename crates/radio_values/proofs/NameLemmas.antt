use Rattle.std.proofs.Common.{◌≡◌, Bool, true, false, ℕ, suc, ◌+◌, ◌-◌, ◌<◌, ◌≤◌, List, [], ◌∷◌, ◌++◌, length, take, replicate, get_or, set, ap, sym, ◌∙◌, refl}
use Rattle.std.proofs.Common.{arith, append_assoc}
use Rattle.std.proofs.lemmas.List.{length-take-le, take_more, set_at, take_all}
use Rattle.std.proofs.lemmas.Bool.{and_parts}
use Rattle.std.specs.Prelude.{◌&&◌, not, nat_le, nat_eq, codes}
use Rattle.std.specs.List.{starts_with, list_all}
use Rattle.std.specs.Str.{is_utf8}
use Rattle.radio_values.specs.MountName.{is_mount_name, is_name_byte, has_reserved_path}

-- zeros, one at a time
zeros_one : (n m : ℕ) → n ≡ suc m → replicate {A = ℕ} n 0 ≡ 0 ∷ replicate m 0
zeros_one n m e = ap (λ k. replicate {A = ℕ} k 0) e

-- one byte more is copied over the zeros
pub padded_more : (bytes : List ℕ) (i x : ℕ) → i < length bytes → length bytes ≤ 255 → x ≡ get_or bytes i 0
    → set (take i bytes ++ replicate {A = ℕ} (255 - i) 0) i x ≡ take (i + 1) bytes ++ replicate {A = ℕ} (255 - (i + 1)) 0
padded_more bytes i x low few e =
    let long : length (take i bytes) ≡ i = length-take-le i bytes (omega arith) in
    let zeros : replicate {A = ℕ} (255 - i) 0 ≡ 0 ∷ replicate {A = ℕ} (255 - (i + 1)) 0 = zeros_one (255 - i) (255 - (i + 1)) (omega arith) in
    ap (λ zs. set (take i bytes ++ zs) i x) zeros
    ∙ set_at (take i bytes) 0 (replicate {A = ℕ} (255 - (i + 1)) 0) x i long
    ∙ ap (λ y. take i bytes ++ y ∷ replicate {A = ℕ} (255 - (i + 1)) 0) e
    ∙ sym (append_assoc (take i bytes) (get_or bytes i 0 ∷ []) (replicate {A = ℕ} (255 - (i + 1)) 0))
    ∙ ap (λ ys. ys ++ replicate {A = ℕ} (255 - (i + 1)) 0) (sym (take_more bytes i 0 low))

-- the whole is copied
pub padded_all : (bytes all : List ℕ) (i : ℕ) → length bytes ≤ i → i ≤ length bytes → all ≡ take i bytes ++ replicate {A = ℕ} (255 - i) 0
    → all ≡ bytes ++ replicate {A = ℕ} (255 - length bytes) 0
padded_all bytes all i h k e =
    let same : i ≡ length bytes = omega arith in
    e ∙ ap (λ n. take n bytes ++ replicate {A = ℕ} (255 - n) 0) same
    ∙ ap (λ xs. xs ++ replicate {A = ℕ} (255 - length bytes) 0) (take_all (length bytes) bytes (omega arith))

-- a test that cannot be true is false
pub false_from_not_true : (b : Bool) → (b ≡ true → ⊥) → false ≡ b
false_from_not_true true no_way = absurd (no_way refl)
false_from_not_true false no_way = refl

-- a name is UTF-8
pub name-is_utf8 : (bytes : List ℕ) → is_mount_name bytes ≡ true → is_utf8 bytes ≡ true
unfolding is_mount_name
name-is_utf8 bytes h =
    let front = and_parts (nat_le (length bytes) 255 && starts_with nat_eq bytes (codes "/") && is_utf8 bytes && list_all is_name_byte bytes)
    (not (has_reserved_path bytes)) h in
    let text = and_parts (nat_le (length bytes) 255 && starts_with nat_eq bytes (codes "/") && is_utf8 bytes) (list_all is_name_byte bytes) front.0 in
    (and_parts (nat_le (length bytes) 255 && starts_with nat_eq bytes (codes "/")) (is_utf8 bytes) text.0).1
