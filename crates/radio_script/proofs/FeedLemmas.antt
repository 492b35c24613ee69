-- Lines and their line feeds.
use Rattle.std.proofs.Common.{◌≡◌, ℕ, ◌<◌, ◌==◌, Bool, true, false, cond, List, [], ◌∷◌, ◌++◌, length, refl, sym, subst, ap, ◌∙◌, arith}
use Rattle.std.specs.Bool.{OnTrue}
use Rattle.radio_script.proofs.Words.{has_feed, script_lines, IsLines, IsOneLine}
use Rattle.radio_script.proofs.DeviceLemmas.{or_false}
use Rattle.radio_texts.specs.Cuts.{onto_first}

OnTrue-no : (b : Bool) (P : Type 0) → b ≡ false → OnTrue b P
OnTrue-no true P e = cc
OnTrue-no false P e = tt

script_lines-onto : (b : ℕ) (script : List ℕ) → (b == 10) ≡ false → script_lines (b ∷ script) ≡ onto_first b (script_lines script)
script_lines-onto b script e = rw e refl

-- a line, its line feed, and the lines after it
pub script_lines-line : (line tail : List ℕ) → has_feed line ≡ false → script_lines (line ++ 10 ∷ tail) ≡ line ∷ script_lines tail
script_lines-line [] tail h = refl
script_lines-line (b ∷ line) tail h =
    let parts = or_false (b == 10) (has_feed line) h in
    rw (parts.0, script_lines-line line tail parts.1) refl

-- a last line that lacks its line feed
pub script_lines-last : (line : List ℕ) → has_feed line ≡ false → 0 < length line → script_lines line ≡ line ∷ []
script_lines-last [] h some = absurd (omega (arith, some))
script_lines-last (b ∷ []) h some =
    let parts = or_false (b == 10) false h in
    rw parts.0 refl
script_lines-last (b ∷ c ∷ line) h some =
    let parts = or_false (b == 10) (has_feed (c ∷ line)) h in
    rw (parts.0, script_lines-last (c ∷ line) parts.1 (omega arith)) refl

-- The first of the lines begins with this part.
pub record FirstLine (lines : List (List ℕ)) (part : List ℕ) : Type 0 where
  pub more : List ℕ
  pub others : List (List ℕ)
  pub is : lines ≡ (part ++ more) ∷ others

onto_first-cons : (b : ℕ) (lines : List (List ℕ)) → FirstLine (onto_first b lines) (b ∷ [])
onto_first-cons b [] = record { more = []; others = []; is = refl }
onto_first-cons b (line ∷ lines) = record { more = line; others = lines; is = refl }

-- the first line begins with the bytes before the first line feed
pub script_lines-long : (part left : List ℕ) → has_feed part ≡ false → 0 < length part → FirstLine (script_lines (part ++ left)) part
script_lines-long [] left h some = absurd (omega (arith, some))
script_lines-long (b ∷ []) left h some =
    let parts = or_false (b == 10) false h in
    rw parts.0 (onto_first-cons b (script_lines left))
script_lines-long (b ∷ c ∷ part) left h some =
    let parts = or_false (b == 10) (has_feed (c ∷ part)) h in
    let first = script_lines-long (c ∷ part) left parts.1 (omega arith) in
    record { more = first.more; others = first.others; is = script_lines-onto b (c ∷ part ++ left) parts.0 ∙ ap (onto_first b) first.is }

-- There is at least one line.
pub record SomeLine (lines : List (List ℕ)) : Type 0 where
  pub line : List ℕ
  pub others : List (List ℕ)
  pub is : lines ≡ line ∷ others

SomeLine-onto : (b : ℕ) (lines : List (List ℕ)) → SomeLine (onto_first b lines)
SomeLine-onto b [] = record { line = b ∷ []; others = []; is = refl }
SomeLine-onto b (line ∷ lines) = record { line = b ∷ line; others = lines; is = refl }

SomeLine-cond : (t : Bool) (xs ys : List (List ℕ)) → SomeLine xs → SomeLine ys → SomeLine (cond t xs ys)
SomeLine-cond true xs ys h k = h
SomeLine-cond false xs ys h k = k

-- a script with at least one byte has at least one line
pub script_lines-cons : (b : ℕ) (script : List ℕ) → SomeLine (script_lines (b ∷ script))
script_lines-cons b script =
    SomeLine-cond (b == 10) ([] ∷ script_lines script) (onto_first b (script_lines script))
    (record { line = []; others = script_lines script; is = refl }) (SomeLine-onto b (script_lines script))

pub IsLines-push : (bytes : List ℕ) → IsLines (bytes ++ 10 ∷ [])
IsLines-push [] = refl
IsLines-push (b ∷ []) = refl
IsLines-push (b ∷ c ∷ bytes) = IsLines-push (c ∷ bytes)

pub IsLines-append : (xs ys : List ℕ) → IsLines xs → IsLines ys → IsLines (xs ++ ys)
IsLines-append [] ys h k = k
IsLines-append (b ∷ []) [] h k = h
IsLines-append (b ∷ []) (c ∷ ys) h k = k
IsLines-append (b ∷ c ∷ xs) ys h k = IsLines-append (c ∷ xs) ys h k

-- a line with its line feed, or a part of it, is one line
pub IsOneLine-no_feed : (bytes : List ℕ) → has_feed bytes ≡ false → IsOneLine bytes
IsOneLine-no_feed [] h = tt
IsOneLine-no_feed (b ∷ bytes) h =
    let parts = or_false (b == 10) (has_feed bytes) h in
    (OnTrue-no (b == 10) (bytes ≡ []) parts.0, IsOneLine-no_feed bytes parts.1)

pub IsOneLine-push : (line : List ℕ) → has_feed line ≡ false → IsOneLine (line ++ 10 ∷ [])
IsOneLine-push [] h = (refl, tt)
IsOneLine-push (b ∷ line) h =
    let parts = or_false (b == 10) (has_feed line) h in
    (OnTrue-no (b == 10) (line ++ 10 ∷ [] ≡ []) parts.0, IsOneLine-push line parts.1)

onto_first-append : (b : ℕ) (xs ys : List (List ℕ)) → SomeLine xs → onto_first b (xs ++ ys) ≡ onto_first b xs ++ ys
onto_first-append b [] ys h = let is = h.is in cc
onto_first-append b (x ∷ xs) ys h = refl

script_lines-test : (b : ℕ) (xs ys : List ℕ) (t : Bool) → (b == 10) ≡ t → SomeLine (script_lines xs) → script_lines (xs ++ ys) ≡ script_lines xs ++ script_lines ys
    → script_lines (b ∷ xs ++ ys) ≡ script_lines (b ∷ xs) ++ script_lines ys
script_lines-test b xs ys true e some h = rw e (ap (λ ls. [] ∷ ls) h)
script_lines-test b xs ys false e some h = rw e (ap (onto_first b) h ∙ onto_first-append b (script_lines xs) (script_lines ys) some)

-- the lines of whole lines, and of the bytes after them
pub script_lines-append : (xs ys : List ℕ) → IsLines xs → script_lines (xs ++ ys) ≡ script_lines xs ++ script_lines ys
script_lines-append [] ys h = refl
script_lines-append (b ∷ []) ys h = subst (λ x. script_lines (x ∷ ys) ≡ script_lines (x ∷ []) ++ script_lines ys) (sym h) refl
script_lines-append (b ∷ c ∷ xs) ys h =
    script_lines-test b (c ∷ xs) ys (b == 10) refl (script_lines-cons c xs) (script_lines-append (c ∷ xs) ys h)
