-- What a line gives and takes in a turn. Moments are in milliseconds.
use Rattle.std.specs.Prelude.{ℕ, Bool, true, false, ◌+◌, ◌-◌, ◌^◌, ◌==◌, min, nat_lt, not, ◌&&◌, ◌||◌, Option, None, Some, if◌then◌else◌}
use Rattle.std.specs.Option.{unwrap_or}
use Rattle.radio_connections.specs.declared.line.Received.{Received}
use Rattle.radio_connections.specs.declared.line.Received.TheVariants.{Bytes, Nothing, Closed, Fault}
use Rattle.radio_connections.specs.declared.line.Sent.{Sent}
use Rattle.radio_connections.specs.declared.line.Sent.TheVariants.{Took, Nothing as TookNothing, Fault as HasFailed}
use Rattle.radio_lines.specs.declared.activity.LineTurn.{LineTurn}
use Rattle.radio_lines.specs.declared.activity.Need.{Need}
use Rattle.radio_lines.specs.declared.activity.Need.TheVariants.{Nothing as NeedsNothing, Held as NeedsSome}
use Rattle.radio_lines.specs.declared.closing.FoundClosing.{FoundClosing}
use Rattle.radio_lines.specs.declared.course.ReadCall.{ReadCall}
use Rattle.radio_lines.specs.declared.course.ReadCall.TheVariants.{Made, Skipped, Held}
use Rattle.radio_lines.specs.declared.course.Course.{Course}
use Rattle.radio_lines.specs.declared.course.Reading.{Reading}
use Rattle.radio_lines.specs.declared.course.Writing.{Writing}
use Rattle.radio_lines.specs.declared.ready.Ready.{Ready}
use Rattle.radio_lines.specs.Closings.{answers_closing}
use Rattle.radio_lines.specs.Paces.{holds, is_source_line, more_if}
use Rattle.radio_lines.specs.Ready.{after_read, has_more, may_read, without_room}

-- a line that has given nothing
abbrev pub fresh_course : Course
fresh_course = record { gave_ms = 0; gave = 0; closing = None }

-- whether a socket is asked for bytes in a turn: not if it is not worth a read, and not if it is a source's that is held back
abbrev pub call_of : Ready → LineTurn → Course → ReadCall
call_of ready turn course =
    if not (may_read turn.ms ready) then Skipped
    else if is_source_line course.gave ready.is_passed_over && holds turn.pace course.gave_ms turn.ms then Held else Made

-- so many bytes have come at a moment; a count has 64 bits
abbrev pub course_after_bytes : ℕ → ℕ → Course → Course
course_after_bytes count ms course = record course { gave_ms = ms; gave = min (2 ^ 64 - 1) (course.gave + count) }

-- how many of the bytes that came last count as those of a source
abbrev pub source_bytes : Ready → ℕ → Course → ℕ
source_bytes ready count course = if is_source_line course.gave ready.is_passed_over then count else 0

-- a closing is answered at once if nothing was wanted of what came
abbrev pub passes_closing : Ready → Course → Bool
passes_closing ready course = (course.gave == 0) || ready.is_passed_over

-- the closing that was found first, in this turn if none was before
abbrev pub closing_found : LineTurn → Course → FoundClosing
closing_found turn course = unwrap_or course.closing (record { ms = turn.ms; raised = turn.news.raised })

-- a closing was found in this turn
abbrev pub after_closing : Ready → LineTurn → Course → Course
after_closing ready turn course =
    if passes_closing ready course then course else record course { closing = Some (closing_found turn course) }

-- whether a closing is not answered yet
-- rule: Closing of a source
abbrev pub holds_closing : Ready → LineTurn → Course → Bool
holds_closing ready turn course =
    not (passes_closing ready course) && not (answers_closing (closing_found turn course) turn.news.drawn turn.ms)

-- what a line answers whose socket was asked: bytes as they came, a closing once it is not held back, and else the same
abbrev pub line_reading : Received → ℕ → Ready → LineTurn → Course → Reading
line_reading (Bytes count) room ready turn course = record {
  received = Bytes count;
  need = more_if (has_more (after_read (count == room) turn.ms ready));
  sourced = source_bytes ready count (course_after_bytes count turn.ms course);
  course = course_after_bytes count turn.ms course;
  ready = after_read (count == room) turn.ms ready;
}
line_reading Closed room ready turn course = record {
  received = if holds_closing ready turn course then Nothing else Closed;
  need = if holds_closing ready turn course then NeedsSome else NeedsNothing;
  sourced = 0;
  course = after_closing ready turn course;
  ready = ready;
}
line_reading Nothing room ready turn course = record { received = Nothing; need = NeedsNothing; sourced = 0; course = course; ready = ready }
line_reading Fault room ready turn course = record { received = Fault; need = NeedsNothing; sourced = 0; course = course; ready = ready }

-- what becomes of a line that was written to: it has no room if it took a part, and may have something to do if it took anything
abbrev pub writing_of : Sent → ℕ → Ready → ℕ → Writing
writing_of (Took taken) count ready ms = record { need = more_if (not ready.is_passed_over); ready = if nat_lt taken count then without_room ms ready else ready }
writing_of TookNothing count ready ms = record { need = NeedsNothing; ready = ready }
writing_of HasFailed count ready ms = record { need = NeedsNothing; ready = ready }
