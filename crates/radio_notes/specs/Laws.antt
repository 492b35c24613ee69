-- What the record of a connection has after all that has happened on it, in the order in which it has happened.
use Rattle.std.specs.Prelude.{ℕ, Bool, false, List, [], ◌∷◌, fold, Option, None, Some}
use Rattle.radio_notes.specs.declared.ends.End.{End}
use Rattle.radio_notes.specs.declared.visit.Happening.{Happening}
use Rattle.radio_notes.specs.declared.visit.Happening.TheVariants.{Replied, Handed, Fed, Ended}
use Rattle.radio_notes.specs.declared.visit.Part.{Part}
use Rattle.radio_notes.specs.declared.visit.Visit.{Visit}
use Rattle.radio_notes.specs.Ends.{code_of_end}
use Rattle.radio_notes.specs.Visits.{visit_after, new_visit, first_of, reply_shows_station, part_given, status_of_note}

-- what has happened on a connection that came at this moment
abbrev pub visit_of : ℕ → List Happening → Visit
visit_of ms happenings = fold visit_after (new_visit ms) happenings

-- the end that comes first
-- rule: Line of a client
abbrev pub first_end_of : List Happening → Option End
first_end_of [] = None
first_end_of (Replied reply_note ∷ later) = first_end_of later
first_end_of (Handed count ∷ later) = first_end_of later
first_end_of (Fed count ∷ later) = first_end_of later
first_end_of (Ended end ∷ later) = Some end

-- the status that a happening has, if it has one
abbrev pub status_of_happening : Happening → ℕ
status_of_happening (Replied reply_note) = status_of_note reply_note
status_of_happening (Handed count) = 0
status_of_happening (Fed count) = 0
status_of_happening (Ended end) = code_of_end end

-- the status that comes first
-- rule: Line of a client
abbrev pub first_status_of : List Happening → ℕ
first_status_of [] = 0
first_status_of (happening ∷ later) = first_of (status_of_happening happening) (first_status_of later)

-- how many bytes the line takes by it
abbrev pub handed_in : Happening → ℕ
handed_in (Handed count) = count
handed_in happening = 0

-- how many bytes of a stream come by it
abbrev pub fed_in : Happening → ℕ
fed_in (Fed count) = count
fed_in happening = 0

-- something of the station is shown by it
abbrev pub shows_station : Happening → Bool
shows_station (Replied reply_note) = reply_shows_station reply_note
shows_station happening = false

-- the part of the reply that gave one last
abbrev pub last_part_of : Part → List Happening → Part
last_part_of part [] = part
last_part_of part (Replied reply_note ∷ later) = last_part_of (part_given reply_note part) later
last_part_of part (Handed count ∷ later) = last_part_of part later
last_part_of part (Fed count ∷ later) = last_part_of part later
last_part_of part (Ended end ∷ later) = last_part_of part later
