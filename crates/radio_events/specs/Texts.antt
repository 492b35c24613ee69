-- What is answered to a command, or to one who is shown something of the station.
use Rattle.std.specs.Prelude.{ℕ, List, ◌++◌, codes, decimal}
use Rattle.radio_events.specs.declared.text.ReplyText.{ReplyText}
use Rattle.radio_events.specs.declared.text.ReplyText.TheVariants.{Done, Moved, Ended, Json, Streams, Public, Page}

-- a line that a command was done
-- rule: Commands are done
abbrev pub done_line : List ℕ
done_line = codes "done\n"

-- a line that says how many listeners went to another mount
-- rule: Move clients
abbrev pub moved_line : ℕ → List ℕ
moved_line count = codes "moved: " ++ decimal count ++ codes "\n"

-- a line that says how many listeners have finished
abbrev pub ended_line : ℕ → List ℕ
ended_line count = codes "ended: " ++ decimal count ++ codes "\n"

-- it is neither a listing nor the page
abbrev pub IsShort : ReplyText → Type 0
IsShort Done = Unit {0}
IsShort (Moved count) = Unit {0}
IsShort (Ended count) = Unit {0}
IsShort (Json bytes) = ⊥
IsShort (Streams bytes) = ⊥
IsShort (Public bytes origin) = ⊥
IsShort (Page origin) = ⊥
