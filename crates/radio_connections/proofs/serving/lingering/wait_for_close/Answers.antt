use Rattle.std.proofs.Common.{◌≡◌, ◌-◌, nat_le, ℕ, true, false, [], refl, sym, subst, ◌∙◌, ap}
use Rattle.radio_connections.specs.declared.conn.ConnStatus.{ConnStatus}
use Rattle.radio_connections.specs.declared.conn.Fate.TheVariants.{Ended}
use Rattle.radio_connections.specs.Connections.{Connection}
use Rattle.radio_connections.specs.Leaving.{is_over}
use Rattle.radio_connections.proofs.Calling.{later_same, once_between, unread_same}
use Rattle.radio_connections.proofs.Deeds.{served_then, served_as, served_by_close, ended_is_written}
use Rattle.radio_connections.proofs.Lingerings.{ended_by_close, ended_by_lingering, closed_status}
use Rattle.radio_connections.proofs.serving.lingering.wait_for_close.Goals as goal

pub returns-then-is_over : goal.returns-then-is_over
returns-then-is_over g c =
    let ended : c.conn.inside.status.fate ≡ Ended = ap (λ (o : Connection). o.status.fate) c.conn.view_is
    ∙ ap (λ (s : ConnStatus). s.fate) c.pass_over.ensures.status ∙ c.finish.ensures.fate ∙ c.requires.fate in
    let none : c.conn.inside.outgoing ≡ [] = ap (λ (o : Connection). o.outgoing) c.conn.view_is ∙ c.pass_over.ensures.outgoing ∙ c.finish.ensures.outgoing ∙ c.requires.all in
    ended_by_close c.finish.new.conn c.pass_over.new.conn c.requires.fate c.finish.ensures.finished c.finish.ensures.noted c.finish.ensures.calls
    c.pass_over.result c.pass_over.ensures.answer
    (subst (λ (n : ℕ). is_over c.pass_over.result (nat_le 1000 (c.args.now.ms - n)) ≡ true)
    (ap (λ (o : Connection). o.status.moved_ms) c.conn.view_is ∙ ap (λ (s : ConnStatus). s.moved_ms) c.pass_over.ensures.status)
    (sym c.is_over.ensures ∙ c.if-is_over.true)) c.pass_over.ensures.status
    (served_then _ _ _ [] [] c.finish.ensures.served
    (served_then _ _ _ [] [] c.pass_over.ensures.served
    (served_as c.conn.view_is
    (served_by_close _ _ (record { id = refl; sits = refl; left = refl }) (later_same refl refl refl) (ended_is_written _ ended) none refl refl refl))))
    (once_between _ _ _ _ (unread_same c.finish.ensures.calls) c.pass_over.ensures.once (unread_same (ap (λ (o : Connection). o.calls) c.conn.view_is)))
    (ap (λ (o : Connection). o.calls) c.conn.view_is)
    (ap (λ (o : Connection). o.taken) c.conn.view_is ∙ c.pass_over.ensures.taken ∙ c.finish.ensures.taken)
    (closed_status (ap (λ (o : Connection). o.status) c.conn.view_is))
    (ap (λ (s : ConnStatus). s.has_taken) c.pass_over.ensures.status ∙ c.finish.ensures.has_taken)

pub returns-else-is_over : goal.returns-else-is_over
returns-else-is_over g c =
    ended_by_lingering c.finish.new.conn c.requires.fate c.requires.written c.finish.ensures.finished c.finish.ensures.noted c.finish.ensures.calls
    c.pass_over.result c.pass_over.ensures.answer
    (subst (λ (n : ℕ). is_over c.pass_over.result (nat_le 1000 (c.args.now.ms - n)) ≡ false)
    (ap (λ (o : Connection). o.status.moved_ms) c.conn.view_is ∙ ap (λ (s : ConnStatus). s.moved_ms) c.pass_over.ensures.status)
    (sym c.is_over.ensures ∙ c.if-is_over.false)) c.pass_over.ensures.status c.finish.ensures.fate
    (served_then _ _ _ [] [] c.finish.ensures.served c.pass_over.ensures.served)
    (once_between _ _ _ _ (unread_same c.finish.ensures.calls) c.pass_over.ensures.once (unread_same refl))
    (c.pass_over.ensures.taken ∙ c.finish.ensures.taken) c.finish.ensures.has_taken
