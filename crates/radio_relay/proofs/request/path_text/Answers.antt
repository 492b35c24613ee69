use Rattle.std.proofs.Common.{List, ℕ, ◌++◌, ap, ◌∙◌, refl}
use Rattle.radio_relay.proofs.Words.{AsciiSet, percent_encode}
use Rattle.radio_relay.proofs.RequestLemmas.{escaped_is_path}
use Rattle.radio_relay.proofs.request.path_text.Goals as goal

-- the bits of the escaped bytes
abbrev escaped : AsciiSet
escaped = record { mask = 244577951340790884343731537887740559359 }

pub returns : goal.returns
returns c =
    c.in_ok-append_to.ensures.ok
    ∙ ap (λ (text : List ℕ). text ++ percent_encode c.percent_encode.result.ascii_set c.percent_encode.result.bytes.now) c.new-text.ensures.bytes
    ∙ c.percent_encode.ensures.text
    ∙ escaped_is_path escaped refl c.args.mount.now
