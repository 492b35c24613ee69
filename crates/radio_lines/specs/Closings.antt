-- When a line answers that its peer has closed.
use Rattle.std.specs.Prelude.{ℕ, Bool, ◌-◌, ◌||◌, nat_le}
use Rattle.radio_lines.specs.declared.closing.FoundClosing.{FoundClosing}

-- it is held back for so many milliseconds at most
abbrev pub most_held : ℕ
most_held = 500

-- whether a closing is answered at this moment: all have drawn what had come when news was raised so often
-- rule: Closing of a source
abbrev pub answers_closing : FoundClosing → ℕ → ℕ → Bool
answers_closing found drawn ms = nat_le found.raised drawn || nat_le most_held (ms - found.ms)
