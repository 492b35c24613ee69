-- Reading a line from a reader.
use Rattle.std.specs.Prelude.{ℕ, ◌≡◌, ◌<◌, ◌≤◌, false, List, [], ◌∷◌, ◌++◌, length, Option, Result, Ok, Err}
use Rattle.std.specs.Io.KnownBytes.{Consumes, IsAtEnd}
use Rattle.radio_script.specs.Feeds.{has_feed}
use Rattle.radio_script.specs.Devices.{bumped}
use Rattle.radio_script.specs.Limits.{max_line}
use Rattle.radio_script.specs.declared.faults.PlayFault.{PlayFault}
use Rattle.radio_script.specs.declared.faults.PlayFault.TheVariants.{Read, Write, OutOfMemory}
use Rattle.radio_script.specs.declared.reading.LineRead.{LineRead}
use Rattle.radio_script.specs.declared.reading.LineRead.TheVariants.{Whole, Last, Nothing, TooLong}

-- The reader gave a line, or a part of it. Both are known if the bytes are known that it had and has left.
abbrev pub ReadsLine : Option (List ℕ) → Option (List ℕ) → Result LineRead PlayFault → List ℕ → Type 0
-- the line and its line feed
ReadsLine old new (Ok Whole) line =
    Consumes old new (line ++ 10 ∷ []) × (has_feed line ≡ false) × (length line ≤ max_line)
-- the last line, which lacks its line feed
ReadsLine old new (Ok Last) line =
    Consumes old new line × IsAtEnd new × (has_feed line ≡ false) × (0 < length line)
    × (length line ≤ max_line)
-- no byte was left
ReadsLine old new (Ok Nothing) line = Consumes old new [] × IsAtEnd new
-- more bytes than a line may have, and no line feed
ReadsLine old new (Ok TooLong) line =
    (part : List ℕ) × Consumes old new part × (has_feed part ≡ false) × (max_line < length part)
-- the reader failed, or memory was refused, within a line
ReadsLine old new (Err Read) line =
    (part : List ℕ) × Consumes old new part × (has_feed part ≡ false)
ReadsLine old new (Err OutOfMemory) line =
    (part : List ℕ) × Consumes old new part × (has_feed part ≡ false)
ReadsLine old new (Err fault) line = ⊥

-- the reader has one failure more exactly if the fault is the reader's
abbrev pub reader_failures : {A : Type 0} → Result A PlayFault → ℕ → ℕ
reader_failures (Err Read) n = bumped n
reader_failures result n = n

-- the writer has one failure more exactly if the fault is the writer's
abbrev pub writer_failures : {A : Type 0} → Result A PlayFault → ℕ → ℕ
writer_failures (Err Write) n = bumped n
writer_failures result n = n
