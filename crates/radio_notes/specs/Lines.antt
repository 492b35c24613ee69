-- Lines of the log, and what becomes of those that wait.
use Rattle.std.specs.Prelude.{◌≡◌, ◌⊎◌, ℕ, ◌+◌, ◌==◌, List, [], ◌++◌, if◌then◌else◌}
use Rattle.std.specs.List.{flat_map}
use Rattle.radio_log.specs.declared.facts.Fact.{Fact}
use Rattle.radio_log.specs.declared.facts.Fact.TheVariants.{Lost}
use Rattle.radio_log.specs.declared.moment.Moment.{Moment}
use Rattle.radio_log.specs.Lines.{note_line}
use Rattle.radio_notes.specs.Counts.{capped}
use Rattle.radio_notes.specs.Waiting.{Waiting}

-- the line of a fact at a moment
abbrev pub line_at : Moment → Fact → List ℕ
line_at moment fact = note_line (record { moment = moment; fact = fact })

-- the lines of facts, one behind the other
abbrev pub lines_at : Moment → List Fact → List ℕ
lines_at moment facts = flat_map (line_at moment) facts

-- the line that says how many were lost, if some were
abbrev pub report_of : Moment → ℕ → List ℕ
report_of moment lost = if lost == 0 then [] else line_at moment (Lost lost)

-- so many lines more are lost, and those that wait stay
abbrev pub losing : ℕ → Waiting → Waiting
losing count w = record w { lost = capped (w.lost + count) }

-- a report and lines wait behind the others, and no loss is left to be reported; or these lines, so many of them, are lost
-- too
abbrev pub IsPushed : List ℕ → List ℕ → ℕ → Waiting → Waiting → Type 0
IsPushed report lines count old new =
    (new ≡ record { lines = old.lines ++ (report ++ lines); lost = 0 }) ⊎ (new ≡ losing count old)

-- the same with the report of what was lost before
-- rule: Log queue
abbrev pub IsAdded : Moment → List ℕ → ℕ → Waiting → Waiting → Type 0
IsAdded moment lines count old new = IsPushed (report_of moment old.lost) lines count old new

-- the same of the line of a fact
abbrev pub IsNoted : Moment → Fact → Waiting → Waiting → Type 0
IsNoted moment fact old new = IsAdded moment (line_at moment fact) 1 old new
