use Rattle.std.proofs.Common.{◌≡◌, List, [], ◌∷◌, ◌++◌, ap, ◌∙◌}
use Rattle.std.specs.Prelude.{if◌then◌else◌}
use Rattle.radio_pullers.proofs.Words.{append_assoc, RelaySetting}
use Rattle.radio_pullers.proofs.roster.Roster.add_settings.Goals as goal

pub relays-preserved : goal.relays-preserved
relays-preserved c =
    let relay = c.deref.result.now in
    let more : List RelaySetting = if c.is_stopped.result then [] else relay.setting ∷ [] in
    let grown = c.in_ok-add_setting.ensures ∙ ap (λ (xs : List RelaySetting). xs ++ more) c.relays.invariant.1 in
    (c.relays.invariant.0 ++ more, search (grown, append_assoc))
