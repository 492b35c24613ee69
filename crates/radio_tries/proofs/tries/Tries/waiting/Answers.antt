use Rattle.std.proofs.Common.{◌<◌, ℕ, List, [], ◌∷◌, ◌++◌, length, arith, ap, sym, ◌∙◌}
use Rattle.radio_tries.proofs.Words.{arc_value, RelaySetting, due_of, tried_at, waiting_of}
use Rattle.radio_masters.specs.declared.turns.WaitingRelay.{WaitingRelay}
use Rattle.radio_tries.proofs.Queues.{queue_more}
use Rattle.radio_tries.proofs.tries.Tries.waiting.Goals as goal

pub relays-preserved : goal.relays-preserved
relays-preserved c =
    let tries = c.args.self.now in
    let n = c.relays.number in
    let low : n < length c.args.wished.now = omega arith in
    let grown = queue_more tries c.args.wished.now n c.index-wished-number.result low c.index-wished-number.is in
    let due = c.due_ms-due_ms.ensures ∙ ap (λ (relay : RelaySetting). due_of (tried_at relay.local_mount tries)) c.deref.ensures in
    let with_due : ℕ → List WaitingRelay = λ ms. c.relays.waiting.items ++ record { due_ms = ms; number = n } ∷ [] in
    c.in_ok-push.ensures.items
    ∙ ap with_due due
    ∙ ap (λ (waiting : List WaitingRelay). waiting ++ waiting_of tries (n, arc_value c.index-wished-number.result) ∷ []) c.relays.invariant
    ∙ sym grown
