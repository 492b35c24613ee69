-- The result of a look at a stream whose header is awaited.
use Rattle.std.specs.Prelude.{◌≡◌, ℕ, List, take, Option, IfSome}
use Rattle.std.specs.Io.KnownBytes.{Consumes, Keeps}
use Rattle.radio_proxy.specs.Headers.{header_of}
use Rattle.radio_proxy.specs.declared.greeting.HeaderLook.{HeaderLook}
use Rattle.radio_proxy.specs.declared.greeting.HeaderLook.TheVariants.{Waits, Named, Bad, Over}
use Rattle.radio_proxy.specs.declared.header.Header.TheVariants.{Whole, Bad as BadHeader}

-- By this answer to a stream that had these bytes left, if they are known: the header of all of them was read, and no byte more; or it is
-- bad, and nothing was read. Of a stream that is over nothing is said.
-- rule: Proxy header
abbrev pub IsGreeted : Option (List ℕ) → Option (List ℕ) → HeaderLook → Type 0
IsGreeted before after Waits = Keeps before after
IsGreeted before after (Named named) = IfSome before (λ bytes. (len : ℕ) × (header_of bytes ≡ Whole len named) × Consumes before after (take len bytes))
IsGreeted before after Bad = Keeps before after × IfSome before (λ bytes. header_of bytes ≡ BadHeader)
IsGreeted before after Over = Unit {0}
