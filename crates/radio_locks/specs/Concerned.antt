-- How many parts an event of the control is lent.
use Rattle.radio_locks.specs.declared.concerned.Concerned.{Concerned}
use Rattle.radio_locks.specs.declared.concerned.Concerned.TheVariants.{Nobody, One, Few, All}

-- one at most
abbrev pub IsOneAtMost : Concerned → Type 0
IsOneAtMost Nobody = Unit {0}
IsOneAtMost (One list) = Unit {0}
IsOneAtMost (Few lists) = ⊥
IsOneAtMost All = ⊥
