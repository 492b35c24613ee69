-- The answering of one line.
use Rattle.std.specs.Prelude.{ℕ, ◌≡◌, ◌≤◌, ◌⊎◌, Bool, true, false, List, [], ◌∷◌, ◌++◌, length, None, Some, Result, Ok, Err, ⊤}
use Rattle.std.specs.Io.{StartsWith}
use Rattle.radio_script.specs.declared.delivery.Delivery.{Delivery}
use Rattle.radio_script.specs.declared.faults.PlayFault.{PlayFault}
use Rattle.radio_script.specs.declared.faults.PlayFault.TheVariants.{Write, Line, OutOfMemory}
use Rattle.radio_script.specs.Feeds.{has_feed}
use Rattle.radio_script.specs.Script.{meaning_of}
use Rattle.radio_script.specs.Runs.{Conduct}
use Rattle.radio_script.specs.Plays.{Plays}

-- The performer old answers the line of this number.
module _ {P : Type 0} (performs : Conduct P) (old : P) (number : ℕ) where
  -- The line is a delivery, and yields this text.
  pub record YieldsText (line text : List ℕ) (new : P) : Type 0 where
    pub delivery : Delivery
    pub means : meaning_of number line ≡ Ok delivery
    pub performed : performs old delivery (Some text) new

  -- The line is a delivery that the performer refuses.
  pub record IsStopped (line : List ℕ) (fault : PlayFault) (new : P) : Type 0 where
    pub delivery : Delivery
    pub means : meaning_of number line ≡ Ok delivery
    pub refused : performs old delivery None new
    pub here : fault ≡ Line number

  -- The line is no delivery.
  pub record IsMeaningless (line : List ℕ) (fault : PlayFault) (new : P) : Type 0 where
    pub means : meaning_of number line ≡ Err fault
    pub unchanged : new ≡ old

  -- The line has this fault.
  abbrev pub IsAtFault : List ℕ → PlayFault → P → Type 0
  IsAtFault line fault new = IsMeaningless line fault new ⊎ IsStopped line fault new

  -- The line was performed, and this text is its transcript. Or it was not performed.
  abbrev pub IsLineResult : List ℕ → Result (Unit {0}) PlayFault → List ℕ → P → Type 0
  IsLineResult line (Ok done) text new = YieldsText line text new
  IsLineResult line (Err (Line here)) text new = IsAtFault line (Line here) new
  IsLineResult line (Err OutOfMemory) text new = ⊤
  IsLineResult line (Err fault) text new = ⊥

  -- A front of the text was written, in at most one call for each byte of the text.
  pub record IsWrittenInPart (line written : List ℕ) (most_calls : ℕ) (new : P) : Type 0 where
    pub text : List ℕ
    pub answer : YieldsText line text new
    pub front : StartsWith text written
    pub in_calls : most_calls ≤ length text

  -- The line was answered. Or it was not, and at most a part of its text was written.
  abbrev pub AnswersLine : List ℕ → Result (Unit {0}) PlayFault → List ℕ → ℕ → P → Type 0
  AnswersLine line (Ok done) written most_calls new = YieldsText line written new × (most_calls ≤ length written)
  AnswersLine line (Err (Line here)) written most_calls new =
      IsAtFault line (Line here) new × (written ≡ []) × (most_calls ≡ 0)
  AnswersLine line (Err Write) written most_calls new = IsWrittenInPart line written most_calls new
  AnswersLine line (Err OutOfMemory) written most_calls new = (written ≡ []) × (most_calls ≡ 0)
  AnswersLine line (Err fault) written most_calls new = ⊥

  -- A whole line was read and answered.
  pub record IsLinePlayed (script left written : List ℕ) (most_calls : ℕ) (new : P) : Type 0 where
    pub line : List ℕ
    pub parts : script ≡ line ++ 10 ∷ left
    pub one_line : has_feed line ≡ false
    pub answer : YieldsText line written new
    pub in_calls : most_calls ≤ length written

  -- The next line was played and there may be more, or the script was played to its end, or the playing failed.
  abbrev pub PlaysLine : List ℕ → List ℕ → Result Bool PlayFault → List ℕ → ℕ → P → Type 0
  PlaysLine script left (Ok true) written most_calls new = IsLinePlayed script left written most_calls new
  PlaysLine script left (Ok false) written most_calls new =
      Plays performs old number script left (Ok tt) written most_calls new
  PlaysLine script left (Err fault) written most_calls new =
      Plays performs old number script left (Err fault) written most_calls new
