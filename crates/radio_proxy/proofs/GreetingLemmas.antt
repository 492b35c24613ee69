-- What is read off a stream.
use Rattle.std.proofs.Common.{◌≡◌, ℕ, List, ◌++◌, length, take, drop, Option, None, Some, IfSome, refl, sym, ap, subst, ◌∙◌}
use Rattle.std.specs.Io.{StartsWith}
use Rattle.std.specs.Io.KnownBytes.{Consumes, Keeps}
use Rattle.std.proofs.lemmas.List.{take-append-drop, take_at}
use Rattle.radio_proxy.proofs.LawLemmas.{any_pieces}
use Rattle.radio_proxy.specs.Greetings.{IsGreeted}
use Rattle.radio_proxy.specs.Headers.{header_of}
use Rattle.radio_proxy.specs.declared.greeting.HeaderLook.TheVariants.{Named as NamedBy}
use Rattle.radio_proxy.specs.declared.header.Header.{Header}
use Rattle.radio_proxy.specs.declared.header.Header.TheVariants.{Partial, Whole, Bad}
use Rattle.radio_proxy.specs.declared.header.NamedClient.{NamedClient}

-- what their front decides, the bytes decide
decided : (bytes front : List ℕ) (header : Header) → StartsWith bytes front → header_of front ≡ header → (header ≡ Partial → ⊥) → header_of bytes ≡ header
decided bytes front header starts is some =
    let whole : front ++ drop (length front) bytes ≡ bytes = ap (λ t. t ++ drop (length front) bytes) (sym starts) ∙ take-append-drop (length front) bytes in
    ap header_of (sym whole) ∙ (any_pieces front (drop (length front) bytes) (λ e. some (sym is ∙ e)) ∙ is)

pub greeted : (before after : Option (List ℕ)) (front taken : List ℕ) (len : ℕ) (named : NamedClient) → IfSome before (λ bytes. StartsWith bytes front)
    → Consumes before after taken → length taken ≡ len → header_of front ≡ Whole len named → IsGreeted before after (NamedBy named)
greeted None after front taken len named starts consumes counted is = tt
greeted (Some bytes) None front taken len named starts consumes counted is = absurd consumes
greeted (Some bytes) (Some rest) front taken len named starts consumes counted is =
    let front_is : take len bytes ≡ taken = ap (take len) consumes ∙ take_at taken rest len counted in
    (len, decided bytes front (Whole len named) starts is (λ e. cc), subst (Consumes (Some bytes) (Some rest)) (sym front_is) consumes)

pub found_bad : (before : Option (List ℕ)) (front : List ℕ) → IfSome before (λ bytes. StartsWith bytes front) → header_of front ≡ Bad
    → IfSome before (λ bytes. header_of bytes ≡ Bad)
found_bad None front starts is = tt
found_bad (Some bytes) front starts is = decided bytes front Bad starts is (λ e. cc)

pub keeps_same : (a : Option (List ℕ)) → Keeps a a
keeps_same None = tt
keeps_same (Some bytes) = refl
