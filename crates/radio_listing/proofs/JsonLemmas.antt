-- Listings have no float, and nest no deeper than JSON may be read.
use Rattle.std.proofs.Common.{Ordering, Less, Equal, Greater, ◌≡◌, ◌≤◌, ℕ, Bool, ◌||◌, true, false, List, [], ◌∷◌, Result, Ok, Err, Some, refl, ap, sym, subst, ◌∙◌, arith}
use Rattle.std.specs.Prelude.{map, IfOk}
use Rattle.serde_json.specs.Read.{read, max_depth}
use Rattle.std.specs.Ordering.{nat_cmp, match_ordering}
use Rattle.std.specs.Cmp.Lexicographic.{slice_cmp}
use Rattle.serde_json.specs.Data.{Data, Members, no_members, member, put, items_depth, members_depth, depth}
use Rattle.serde_json.specs.View.{items_of}
use Rattle.serde_json.specs.Written.{compact_text, has_float, items_have_float, members_have_float}

pub no_floats : {R : Type 0} (f : R → Data) → ((r : R) → has_float (f r) ≡ false) → (rows : List R) → items_have_float (items_of (map f rows)) ≡ false
no_floats f h [] = refl
no_floats f h (row ∷ rows) = rw (h row) (no_floats f h rows)

pub no_deeper : {R : Type 0} (f : R → Data) (n : ℕ) → ((r : R) → depth (f r) ≤ n) → (rows : List R) → items_depth (items_of (map f rows)) ≤ n
no_deeper f n h [] = omega arith
no_deeper f n h (row ∷ rows) = omega (arith, h row, no_deeper f n h rows)

-- a text written of a value, told of the data that the value stands for
pub text_written : {T E : Type 0} (items : T → List ℕ) (r : Result T E) (d e : Data) → d ≡ e → has_float e ≡ false
    → IfOk r (λ b. has_float d ≡ false → items b ≡ compact_text d) → IfOk r (λ b. items b ≡ compact_text e)
text_written items (Ok b) d e same quiet h = h (ap has_float same ∙ quiet) ∙ ap compact_text same
text_written items (Err x) d e same quiet h = tt

pub read_written : {T E : Type 0} (items : T → List ℕ) (r : Result T E) (d e : Data) → d ≡ e → depth e ≤ max_depth
    → IfOk r (λ b. depth d ≤ max_depth → read (items b) ≡ Some d) → IfOk r (λ b. read (items b) ≡ Some e)
read_written items (Ok b) d e same shallow h = h (subst (λ (x : Data). depth x ≤ max_depth) (sym same) shallow) ∙ ap (λ x. Some x) same
read_written items (Err x) d e same shallow h = tt

-- ---- members that are put among others

neither : (a b : Bool) → (a || b) ≡ false → (a ≡ false) × (b ≡ false)
neither true b e = cc
neither false b e = (refl, e)

both_quiet : (a b : Bool) → a ≡ false → b ≡ false → (a || b) ≡ false
both_quiet a b p q = rw p q

chosen_quiet : (o : Ordering) (a b c : Members) → members_have_float a ≡ false → members_have_float b ≡ false → members_have_float c ≡ false
    → members_have_float (match_ordering o a b c) ≡ false
chosen_quiet Less a b c p q r = p
chosen_quiet Equal a b c p q r = q
chosen_quiet Greater a b c p q r = r

pub put_quiet : (k : List ℕ) (d : Data) (ms : Members) → has_float d ≡ false → members_have_float ms ≡ false → members_have_float (put k d ms) ≡ false
put_quiet k d no_members p q = both_quiet (has_float d) false p refl
put_quiet k d (member l e ms) p q =
    let parts = neither (has_float e) (members_have_float ms) q in
    chosen_quiet (slice_cmp nat_cmp k l) (member k d (member l e ms)) (member l d ms) (member l e (put k d ms))
    (both_quiet _ _ p q) (both_quiet _ _ p parts.1) (both_quiet _ _ parts.0 (put_quiet k d ms p parts.1))

chosen_no_deeper : (o : Ordering) (a b c : Members) (n : ℕ) → members_depth a ≤ n → members_depth b ≤ n → members_depth c ≤ n
    → members_depth (match_ordering o a b c) ≤ n
chosen_no_deeper Less a b c n p q r = p
chosen_no_deeper Equal a b c n p q r = q
chosen_no_deeper Greater a b c n p q r = r

pub put_no_deeper : (k : List ℕ) (d : Data) (ms : Members) (n : ℕ) → depth d ≤ n → members_depth ms ≤ n → members_depth (put k d ms) ≤ n
put_no_deeper k d no_members n p q = omega arith
put_no_deeper k d (member l e ms) n p q =
    chosen_no_deeper _ (member k d (member l e ms)) (member l d ms) (member l e (put k d ms)) n
    (omega arith) (omega arith) (omega (arith, put_no_deeper k d ms n p (omega arith)))
