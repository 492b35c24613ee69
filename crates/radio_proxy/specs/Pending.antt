-- Connections of proxies whose headers have not come. Moments are in milliseconds.
use Rattle.std.specs.Prelude.{ℕ, Bool, false, ◌-◌, ◌||◌, nat_le, if◌then◌else◌, List, Option, None, Some}
use Rattle.std.specs.Io.KnownBytes.{Keeps}
use Rattle.radio_addr.specs.declared.address.Address.{Address}
use Rattle.radio_addr.specs.declared.lines.AddressRange.{AddressRange}
use Rattle.radio_addr.specs.Lists.{is_listed}
use Rattle.radio_proxy.specs.Greetings.{IsGreeted}
use Rattle.radio_proxy.specs.declared.greeting.HeaderLook.TheVariants.{Named as NamedBy}
use Rattle.radio_proxy.specs.declared.pending.HeaderOutcome.{HeaderOutcome}
use Rattle.radio_proxy.specs.declared.pending.HeaderOutcome.TheVariants.{Named, Bad, Left}

-- whether a peer is one of the proxies, if there are any
-- rule: Proxy header
abbrev pub is_proxy : Option (List AddressRange) → Address → Bool
is_proxy None peer = false
is_proxy (Some proxies) peer = is_listed proxies peer

-- whether a look may settle it: something may have come, it is over, or its time is
-- rule: Missing proxy header
abbrev pub due : Bool → Bool → ℕ → ℕ → ℕ → Bool
due is_readable is_over since ms patience = is_readable || is_over || nat_le patience (ms - since)

-- what became of it if no header came: its peer has left, or its time is over
-- rule: Missing proxy header
abbrev pub overdue : Bool → ℕ → ℕ → ℕ → Option HeaderOutcome
overdue is_over since ms patience = if is_over then Some Left else if nat_le patience (ms - since) then Some Bad else None

-- somebody is named only by the header that was read off the stream, which is where it was if it is awaited on
abbrev pub IsEnded : Option (List ℕ) → Option (List ℕ) → Option HeaderOutcome → Type 0
IsEnded before after (Some (Named named)) = IsGreeted before after (NamedBy named)
IsEnded before after (Some Bad) = Unit {0}
IsEnded before after (Some Left) = Unit {0}
IsEnded before after None = Keeps before after
