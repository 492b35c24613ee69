-- What comes past a key.
use Rattle.std.specs.Prelude.{Bool, true, Option, None, Some}
use Rattle.std.specs.declared.cmp.Ordering.{Ordering}
use Rattle.std.specs.Ordering.{is_lt}

-- the key is past the last one; all keys are if there is no last one
abbrev pub is_past : {K : Type 0} → (K → K → Ordering) → Option K → K → Bool
is_past compare None key = true
is_past compare (Some last) key = is_lt (compare last key)
