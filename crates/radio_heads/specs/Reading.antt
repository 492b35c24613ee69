-- What a reading of some bytes says of them, for any kind of head.
-- `Shows front parts` says that the whole front is a head of that kind with those parts.
use Rattle.std.specs.Prelude.{ℕ, ◌<◌, ◌≤◌, List, length, take, Result, Ok, Err, ⊤}
use Rattle.radio_heads.specs.declared.outcome.Progress.{Progress}
use Rattle.radio_heads.specs.declared.outcome.Progress.TheVariants.{More, Whole}
use Rattle.radio_heads.specs.declared.outcome.HeadFault.{HeadFault}
use Rattle.radio_heads.specs.declared.outcome.HeadFault.TheVariants.{BadHead, TooManyHeaders, HeadTooLong}
use Rattle.radio_heads.specs.Search.{HasNoEnd, IsHeadEnd}

-- the first n bytes, at most 8192, are the shortest front that ends a head
pub record IsFront (bytes : List ℕ) (n : ℕ) : Type 0 where
  pub end : IsHeadEnd bytes n
  pub short : n ≤ 8192

-- the first n bytes are a head, and it shows these parts
-- rule: Grammar of heads
pub record IsHead {P : Type 0} (Shows : List ℕ → P → Type 0) (bytes : List ℕ) (parts : P) (n : ℕ) : Type 0 where
  pub front : IsFront bytes n
  pub shows : Shows (take n bytes) parts

-- a front ends as a head does, but is none
pub record IsNoHead {P : Type 0} (Shows : List ℕ → P → Type 0) (bytes : List ℕ) : Type 0 where
  pub length : ℕ
  pub front : IsFront bytes length
  pub no_parts : (parts : P) → ¬ (Shows (take length bytes) parts)

-- fewer than 8192 bytes have come, and none of them ends a head
-- rule: Longest head
pub record IsUnfinished (bytes : List ℕ) : Type 0 where
  pub open_end : HasNoEnd bytes
  pub room : length bytes < 8192

-- the first 8192 bytes hold no end of a head
pub record IsTooLong (bytes : List ℕ) : Type 0 where
  pub open_end : HasNoEnd (take 8192 bytes)
  pub full : 8192 ≤ length bytes

-- what each answer of a reading says of the bytes
-- rule: Longest head
abbrev pub IsReading : {P : Type 0} → (List ℕ → P → Type 0) → List ℕ → Result (Progress P) HeadFault → Type 0
IsReading Shows bytes (Ok (Whole parts n)) = IsHead Shows bytes parts n
IsReading Shows bytes (Ok More) = IsUnfinished bytes
IsReading Shows bytes (Err BadHead) = IsNoHead Shows bytes
IsReading Shows bytes (Err TooManyHeaders) = IsNoHead Shows bytes
IsReading Shows bytes (Err HeadTooLong) = IsTooLong bytes

-- the fault of a front, and not of its length
abbrev pub IsFrontFault : HeadFault → Type 0
IsFrontFault BadHead = Unit {0}
IsFrontFault TooManyHeaders = Unit {0}
IsFrontFault HeadTooLong = ⊥

-- the length of a head that has come is at most that of the bytes
abbrev pub IsWithin : {P : Type 0} → List ℕ → Progress P → Type 0
IsWithin bytes More = ⊤
IsWithin bytes (Whole parts n) = n ≤ length bytes
