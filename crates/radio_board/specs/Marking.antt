-- What threads mark for one another.
use Rattle.std.specs.Prelude.{Bool, ◌&&◌, ◌||◌}
use Rattle.radio_board.specs.declared.marks.Marks.{Marks}

-- whether the acceptor has something to do: all are to stop, or it waits for a connection to be closed, and one was
-- rule: Failed accepts
abbrev pub calls_acceptor : Marks → Bool
calls_acceptor marks = marks.is_over || (marks.wants_closing && marks.has_closed)
