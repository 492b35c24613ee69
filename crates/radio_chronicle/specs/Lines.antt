-- The lines of the control's list.
use Rattle.std.specs.Prelude.{Option, Some, None}
use Rattle.radio_events.specs.declared.entry.Entry.{Entry}
use Rattle.radio_chronicle.specs.declared.line.ControlLine.{ControlLine}
use Rattle.radio_chronicle.specs.declared.line.ControlLine.TheVariants.{Cut, Made}

-- the entry of a line of the control's list, if it is no cut
abbrev pub line_entry : ControlLine → Option Entry
line_entry (Made entry) = Some entry
line_entry (Cut list from to) = None
