-- Where the head that some bytes begin with ends.
use Rattle.std.specs.Prelude.{◌≡◌, ℕ, ◌+◌, ◌<◌, ◌⊎◌, ◌==◌, Bool, not, ◌&&◌, IsTrue, List, slice_index}
use Rattle.httparse.specs.Ascii.{line_feed, carriage_return}

-- a byte of text: neither CR nor LF
abbrev pub is_text : ℕ → Bool
is_text b = not (b == carriage_return) && not (b == line_feed)

-- a byte before the place is text
abbrev pub HasTextBefore : List ℕ → ℕ → Type 0
HasTextBefore bytes place = (k : ℕ) × (k < place) × IsTrue (is_text (slice_index bytes k))

-- from start to end there is an empty line: LF, or CR LF
abbrev pub IsEmptyLine : List ℕ → ℕ → ℕ → Type 0
IsEmptyLine bytes start end =
    ((slice_index bytes start ≡ line_feed) × (end ≡ start + 1))
    ⊎ ((slice_index bytes start ≡ carriage_return) × (slice_index bytes (start + 1) ≡ line_feed) × (end ≡ start + 2))

-- after some text, an LF at the place is followed by an empty line, which ends at end
pub record EndsAt (bytes : List ℕ) (place end : ℕ) : Type 0 where
  pub text : HasTextBefore bytes place
  pub line : slice_index bytes place ≡ line_feed
  pub empty : IsEmptyLine bytes (place + 1) end

-- no place ends a head
abbrev pub HasNoEnd : List ℕ → Type 0
HasNoEnd bytes = (place end : ℕ) → ¬ (EndsAt bytes place end)

-- the first place that ends a head ends it at end
-- rule: Longest head
pub record IsHeadEnd (bytes : List ℕ) (end : ℕ) : Type 0 where
  pub place : ℕ
  pub ends : EndsAt bytes place end
  pub first : (earlier other : ℕ) → earlier < place → ¬ (EndsAt bytes earlier other)
