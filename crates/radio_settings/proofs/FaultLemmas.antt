-- The first fault of lists of tables.
use Rattle.std.proofs.Common.{◌≡◌, ℕ, ◌+◌, ◌<◌, ◌≤◌, List, [], ◌∷◌, ◌++◌, length, take, drop, get_or, map, Option, None, Some, refl, ap, sym, ◌∙◌, append_assoc}
use Rattle.std.proofs.lemmas.List.{drop_all, drop_more, map_more, get_or-map}
use Rattle.std.specs.List.{flat_map}
use Rattle.std.specs.Option.{option_or}
use Rattle.toml.specs.Data.{Members}
use Rattle.radio_keys.specs.declared.fault.SettingsFault.{SettingsFault}
use Rattle.radio_keys.specs.Rows.{KeyRow, faults_in, first_fault}

or_assoc : {A : Type 0} (x y z : Option A) → option_or x (option_or y z) ≡ option_or (option_or x y) z
or_assoc None y z = refl
or_assoc (Some x) y z = refl

-- the first fault of some rows and more
pub first_fault-append : (xs ys : List (Option SettingsFault)) → first_fault (xs ++ ys) ≡ option_or (first_fault xs) (first_fault ys)
first_fault-append [] ys = refl
first_fault-append (x ∷ xs) ys = ap (option_or x) (first_fault-append xs ys) ∙ or_assoc x (first_fault xs) (first_fault ys)

or_none : {A : Type 0} (x : Option A) → x ≡ option_or x None
or_none None = refl
or_none (Some x) = refl

abbrev Faults : Type 0
Faults = List (Option SettingsFault)

-- the first fault of groups of rows, by that of each
pub in_one : (a : Faults) → first_fault a ≡ first_fault (first_fault a ∷ [])
in_one a = or_none (first_fault a)

pub in_two : (a b : Faults) → first_fault (a ++ b) ≡ first_fault (first_fault a ∷ first_fault b ∷ [])
in_two a b = first_fault-append a b ∙ ap (option_or (first_fault a)) (in_one b)

pub in_three : (a b c : Faults) → first_fault (a ++ (b ++ c)) ≡ first_fault (first_fault a ∷ first_fault b ∷ first_fault c ∷ [])
in_three a b c = first_fault-append a (b ++ c) ∙ ap (option_or (first_fault a)) (in_two b c)

pub in_four : (a b c d : Faults) → first_fault (a ++ (b ++ (c ++ d))) ≡ first_fault (first_fault a ∷ first_fault b ∷ first_fault c ∷ first_fault d ∷ [])
in_four a b c d = first_fault-append a (b ++ (c ++ d)) ∙ ap (option_or (first_fault a)) (in_three b c d)

-- a group, and two groups in one
pub in_groups : (a b c : Faults) → first_fault (a ++ (b ++ c)) ≡ first_fault (first_fault a ∷ first_fault (first_fault b ∷ first_fault c ∷ []) ∷ [])
in_groups a b c = first_fault-append a (b ++ c) ∙ ap (option_or (first_fault a)) (in_two b c ∙ or_none _)

-- a group, and two groups in one with a third
pub in_nested_groups : (a b c d : Faults)
    → first_fault (a ++ (b ++ (c ++ d)))
    ≡ first_fault (first_fault a ∷ first_fault (first_fault (first_fault b ∷ first_fault c ∷ []) ∷ first_fault d ∷ []) ∷ [])
in_nested_groups a b c d =
    first_fault-append a (b ++ (c ++ d))
    ∙ ap (option_or (first_fault a))
    (ap first_fault (sym (append_assoc b c d))
    ∙ in_two (b ++ c) d
    ∙ ap (λ f. first_fault (f ∷ first_fault d ∷ [])) (in_two b c)
    ∙ or_none _)

-- the first fault of the same rows in some tables
abbrev pub first_of : List KeyRow → List Members → Option SettingsFault
first_of rows tables = first_fault (flat_map (faults_in rows) tables)

-- the first i tables are well
abbrev pub AreWell : List KeyRow → List Members → ℕ → Type 0
AreWell rows tables i = first_of rows tables ≡ first_of rows (drop i tables)

at_table : (rows : List KeyRow) (tables : List Members) (i : ℕ) (t : Members) → i < length tables → t ≡ get_or tables i t
    → first_of rows (drop i tables) ≡ option_or (first_fault (faults_in rows t)) (first_of rows (drop (i + 1) tables))
at_table rows tables i t low is =
    ap (first_of rows) (drop_more tables i t low ∙ ap (λ u. u ∷ drop (i + 1) tables) (sym is))
    ∙ first_fault-append (faults_in rows t) (flat_map (faults_in rows) (drop (i + 1) tables))

pub well_more : (rows : List KeyRow) (tables : List Members) (i : ℕ) (t : Members) → i < length tables → t ≡ get_or tables i t
    → first_fault (faults_in rows t) ≡ None → AreWell rows tables i → AreWell rows tables (i + 1)
well_more rows tables i t low is well so_far =
    so_far ∙ at_table rows tables i t low is ∙ ap (λ f. option_or f (first_of rows (drop (i + 1) tables))) well

pub fault_here : (rows : List KeyRow) (tables : List Members) (i : ℕ) (t : Members) (fault : SettingsFault) → i < length tables → t ≡ get_or tables i t
    → first_fault (faults_in rows t) ≡ Some fault → AreWell rows tables i → first_of rows tables ≡ Some fault
fault_here rows tables i t fault low is found so_far =
    so_far ∙ at_table rows tables i t low is ∙ ap (λ f. option_or f (first_of rows (drop (i + 1) tables))) found

pub all_well : (rows : List KeyRow) (tables : List Members) (i : ℕ) → length tables ≤ i → AreWell rows tables i → first_of rows tables ≡ None
all_well rows tables i past so_far = so_far ∙ ap (first_of rows) (drop_all i tables past)

-- a table behind a reference at a place
pub seen_at : {A : Type 0} (see : A → Members) (xs : List A) (i : ℕ) (x : A) → i < length xs → x ≡ get_or xs i x → see x ≡ get_or (map see xs) i (see x)
seen_at see xs i x low is = ap see is ∙ sym (get_or-map see xs i x (see x) low)

-- what one more table comes to
pub come_to_more : {B : Type 0} (of : Members → B) (tables : List Members) (i : ℕ) (t : Members) (made : List B) (b : B) → i < length tables
    → t ≡ get_or tables i t
    → b ≡ of t → made ≡ map of (take i tables) → made ++ b ∷ [] ≡ map of (take (i + 1) tables)
come_to_more of tables i t made b low is same so_far =
    ap (λ m. m ++ b ∷ []) so_far
    ∙ ap (λ c. map of (take i tables) ++ c ∷ []) (same ∙ ap of is)
    ∙ sym (map_more of tables i t low)
