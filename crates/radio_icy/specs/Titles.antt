-- The title in the text of a metadata block.
use Rattle.std.specs.Prelude.{◌≡◌, ℕ, Bool, true, false, ◌&&◌, ◌||◌, ◌==◌, nat_eq, List, [], ◌∷◌, ◌++◌, length, drop, Option, None, Some, codes, if◌then◌else◌}
use Rattle.std.specs.List.{starts_with}
use Rattle.std.specs.Option.{option_map}

-- a title ends at `';`, if the text's end or `StreamUrl=` follows
unfoldable pub ends_title : List ℕ → Bool
ends_title text =
    starts_with nat_eq text (codes "';")
    && (length (drop 2 text) == 0 || starts_with nat_eq (drop 2 text) (codes "StreamUrl="))

-- the bytes before the first end of a title
abbrev pub before_title_end : List ℕ → Option (List ℕ)
before_title_end [] = None
before_title_end (b ∷ text) =
    if ends_title (b ∷ text) then Some [] else option_map (λ title. b ∷ title) (before_title_end text)

-- the title of a text that begins with `StreamTitle='`
-- rule: Title of a block
unfoldable pub title_of : List ℕ → Option (List ℕ)
title_of text =
    if starts_with nat_eq text (codes "StreamTitle='") then before_title_end (drop 13 text) else None

-- `';StreamUrl=` is nowhere in the title
abbrev pub HasNoUrlInside : List ℕ → Type 0
HasNoUrlInside title = (before after : List ℕ) → title ≡ before ++ (codes "';StreamUrl=" ++ after) → ⊥

-- The title is in the text between `StreamTitle='` and an end of a title. No title ends before that.
-- rule: Title of a block
pub record IsTitleIn (text title : List ℕ) : Type 0 where
  pub rest : List ℕ
  pub parts : text ≡ codes "StreamTitle='" ++ (title ++ rest)
  pub ends : ends_title rest ≡ true
  pub is_first : (before after : List ℕ) (b : ℕ) → title ≡ before ++ b ∷ after → ends_title ((b ∷ after) ++ rest) ≡ false
