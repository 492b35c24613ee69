-- What the playing of a script reads and writes.
use Rattle.std.specs.Prelude.{ℕ, ◌+◌, ◌≡◌, ◌≤◌, ◌==◌, false, List, [], ◌∷◌, ◌++◌, length, Option, None, Some, Result, Ok, Err, ⊤}
use Rattle.std.specs.Bool.{OnTrue}
use Rattle.std.specs.Io.{StartsWith}
use Rattle.std.specs.Io.KnownBytes.{Appends}
use Rattle.radio_script.specs.declared.faults.PlayFault.{PlayFault}
use Rattle.radio_script.specs.declared.faults.PlayFault.TheVariants.{Read, Write, Line, TooMuch, OutOfMemory}
use Rattle.radio_script.specs.Feeds.{has_feed}
use Rattle.radio_script.specs.Script.{script_lines}
use Rattle.radio_script.specs.Runs.{Conduct}
use Rattle.radio_script.specs.Transcripts.{IsTranscript}

-- P holds for the bytes that a reader had and those that it has left, if both are known.
abbrev pub IfKnown : Option (List ℕ) → Option (List ℕ) → (List ℕ → List ℕ → Type 0) → Type 0
IfKnown None left P = ⊤
IfKnown (Some script) None P = ⊥
IfKnown (Some script) (Some left) P = P script left

-- A writer took some bytes in at most this many calls, and P holds for both.
pub record Writes (before after : Option (List ℕ)) (calls_before calls_after : ℕ)
    (P : List ℕ → ℕ → Type 0) : Type 0 where
  pub written : List ℕ
  pub most_calls : ℕ
  pub appends : Appends before after written
  pub called : calls_after ≤ calls_before + most_calls
  pub holds : P written most_calls

-- each line has its line feed
abbrev pub IsLines : List ℕ → Type 0
IsLines [] = ⊤
IsLines (b ∷ []) = b ≡ 10
IsLines (b ∷ c ∷ bytes) = IsLines (c ∷ bytes)

-- if there is a line feed, it is only at the end
abbrev pub IsOneLine : List ℕ → Type 0
IsOneLine [] = ⊤
IsOneLine (b ∷ bytes) = OnTrue (b == 10) (bytes ≡ []) × IsOneLine bytes

-- A script is played, beginning with the performer old. Its first line has this number.
module _ {P : Type 0} (performs : Conduct P) (old : P) (number : ℕ) where
  -- The bytes written are the transcript of the script, up to its first fault, in at most one call
  -- for each byte.
  pub record IsPlayed (script : List ℕ) (fault : Option PlayFault) (written : List ℕ) (most_calls : ℕ) (new : P) : Type 0 where
    pub transcript : IsTranscript performs old number (script_lines script) written fault new
    pub in_calls : most_calls ≤ length written

  -- The bytes written are the transcript of the whole lines before the rest of the script.
  pub record IsPlayedBefore (script rest written : List ℕ) (most_calls : ℕ) (new : P) : Type 0 where
    pub lines : List ℕ
    pub parts : script ≡ lines ++ rest
    pub whole : IsLines lines
    pub played : IsPlayed lines None written most_calls new

  -- The whole transcript of the whole lines was written, and then a front of the next line's. There was at most one call for each
  -- byte. Nothing after that line was read.
  pub record IsCutOff (script left written : List ℕ) (most_calls : ℕ) (new : P) : Type 0 where
    pub lines : List ℕ
    pub line : List ℕ
    pub parts : script ≡ lines ++ line ++ left
    pub whole : IsLines lines
    pub one_line : IsOneLine line
    pub between : P
    pub before : List ℕ
    pub text : List ℕ
    pub front : List ℕ
    pub answered : IsTranscript performs old number (script_lines lines) before None between
    pub transcript : IsTranscript performs old number (script_lines (lines ++ line)) (before ++ text) None new
    pub cut : StartsWith text front
    pub is_written : written ≡ before ++ front
    pub in_calls : most_calls ≤ length (before ++ text)

  -- The playing leaves this part of the script unread, and has this result.
  abbrev pub Plays : List ℕ → List ℕ → Result (Unit {0}) PlayFault → List ℕ → ℕ → P → Type 0
  -- All was read, and the whole transcript was written.
  Plays script left (Ok done) written most_calls new = (left ≡ []) × IsPlayed script None written most_calls new
  -- The script has this fault, and the transcript of the lines before was written.
  Plays script left (Err (Line here)) written most_calls new = IsPlayed script (Some (Line here)) written most_calls new
  Plays script left (Err TooMuch) written most_calls new = IsPlayed script (Some TooMuch) written most_calls new
  -- The reader failed within a line. The lines before it were answered already.
  Plays script left (Err Read) written most_calls new =
      (part : List ℕ) × (has_feed part ≡ false) × IsPlayedBefore script (part ++ left) written most_calls new
  Plays script left (Err Write) written most_calls new = IsCutOff script left written most_calls new
  -- At most one line was read after the lines that were answered. Nothing is said of the performer.
  Plays script left (Err OutOfMemory) written most_calls new =
      (part : List ℕ) × (last : P) × IsOneLine part × IsPlayedBefore script (part ++ left) written most_calls last

-- The reader is called once more: it is at its end, or it has a byte too many, or it fails.
abbrev pub EndsThere : Option (List ℕ) → Option (List ℕ) → Result (Unit {0}) PlayFault → Type 0
EndsThere old new (Ok done) = IfKnown old new (λ script left. (script ≡ []) × (left ≡ []))
EndsThere old new (Err TooMuch) = IfKnown old new (λ script left. (b : ℕ) × (script ≡ b ∷ left))
EndsThere old new (Err Read) = IfKnown old new (λ script left. script ≡ left)
EndsThere old new (Err fault) = ⊥
