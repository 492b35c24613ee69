-- The result of a check of settings.
use Rattle.std.specs.Prelude.{ℕ, Bool, ◌&&◌, nat_lt, if◌then◌else◌, List, [], codes, Result, Ok, Err}
use Rattle.radiod.specs.declared.fault.Fault.{Fault}
use Rattle.radiod.specs.declared.fault.Fault.TheVariants.{Warnings}

-- warnings are a fault if the check is strict
-- rule: Settings check
abbrev pub verdict : Bool → ℕ → Result (Unit {0}) Fault
verdict is_strict warnings = if is_strict && nat_lt 0 warnings then Err Warnings else Ok tt

-- the last line of a check: it says that all is well only if there is no fault
abbrev pub verdict_line : Result (Unit {0}) Fault → List ℕ
verdict_line (Ok done) = codes "ok\n"
verdict_line (Err fault) = []
