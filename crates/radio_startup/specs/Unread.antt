-- Why a file that the settings name is not taken.
use Rattle.std.specs.Prelude.{◌≡◌, ℕ, List}
use Rattle.std.specs.String.{string_bytes}
use Rattle.radio_startup.specs.declared.fault.FileFault.{FileFault}
use Rattle.radio_startup.specs.declared.fault.FileFault.TheVariants.{CannotRead, Line, OutOfMemory}

-- the file of this path cannot be read, or memory was refused
abbrev pub IsUnread : List ℕ → FileFault → Type 0
IsUnread path (CannotRead of error) = string_bytes of ≡ path
IsUnread path OutOfMemory = Unit {0}
IsUnread path fault = ⊥

-- this line of the file of this path is no address, or memory was refused
abbrev pub IsBadLine : List ℕ → ℕ → FileFault → Type 0
IsBadLine path line (Line of number) = (string_bytes of ≡ path) × (number ≡ line)
IsBadLine path line OutOfMemory = Unit {0}
IsBadLine path line fault = ⊥
