-- What a reader says of its part of a text.
use Rattle.std.specs.Prelude.{◌≡◌, ◌≢◌, Option, None, Some, Result}
use Rattle.std.specs.Result.{MatchResult}
use Rattle.radio_keys.specs.declared.fault.SettingsFault.{SettingsFault}
use Rattle.radio_keys.specs.declared.fault.SettingsFault.TheVariants.{OutOfMemory}

-- There is no fault, and what was read is the value; or else the fault is the one that was found, if it was not for want
-- of memory.
abbrev pub ReadsAs : {A V : Type 0} → (A → V) → Option SettingsFault → V → Result A SettingsFault → Type 0
ReadsAs see fault value result =
    MatchResult result (λ a. (fault ≡ None) × (see a ≡ value)) (λ e. e ≢ OutOfMemory → fault ≡ Some e)

abbrev pub Reads : {A : Type 0} → Option SettingsFault → A → Result A SettingsFault → Type 0
Reads fault value result = ReadsAs (λ a. a) fault value result
