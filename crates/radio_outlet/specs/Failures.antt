-- What the system's code of a failed write means (Linux, errno(3)).
use Rattle.std.specs.Prelude.{ℕ, Option, Some, None, ◌==◌, ◌||◌, if◌then◌else◌}
use Rattle.radio_outlet.specs.declared.failure.Failure.{Failure}
use Rattle.radio_outlet.specs.declared.failure.Failure.TheVariants.{Later, Failed, Closed}

abbrev pub interrupted : ℕ
interrupted = 4

abbrev pub bad_descriptor : ℕ
bad_descriptor = 9

abbrev pub would_block : ℕ
would_block = 11

abbrev pub broken_pipe : ℕ
broken_pipe = 32

-- a call that was interrupted, or would wait, is made again; a closed descriptor or pipe takes nothing ever; all else may pass
-- rule: Log failures
abbrev pub means : Option ℕ → Failure
means None = Failed
means (Some code) =
    if (code == interrupted) || (code == would_block) then Later
    else if (code == bad_descriptor) || (code == broken_pipe) then Closed
    else Failed
