use Rattle.std.proofs.Common.{◌≡◌, [], inl, inr, refl, sym, ◌∙◌, ap, arith}
use Rattle.radio_connections.specs.declared.conn.Fate.TheVariants.{Open}
use Rattle.radio_connections.specs.Connections.{Connection}
use Rattle.radio_connections.specs.Lines.{Calls}
use Rattle.radio_connections.specs.declared.line.Received.TheVariants.{Bytes, Nothing, Closed, Fault}
use Rattle.radio_connections.proofs.Calling.{later_by_read, read_by}
use Rattle.radio_connections.proofs.Deeds.{served_by_hearing, served_by_note, served_by_close, open_is_written, not_closed, not_cut, closed_not_cut}
use Rattle.radio_connections.proofs.DeedChains.{listens_as, listens_by_hearing, listens_to_none}
use Rattle.radio_connections.proofs.serving.listening.listen.Goals as goal

pub returns-in-Bytes : goal.returns-in-Bytes
returns-in-Bytes g c =
    let h = c.hear.ensures in
    listens_as g.S.Server.steps c.conn.view_is
    (listens_by_hearing g.S.Server.steps h.1
    (served_by_hearing _ _ _ _ h.0 (record { id = refl; sits = refl; left = refl })
    (later_by_read (Bytes c.in-Bytes.count) _ c.in-Bytes.ensures.calls c.read.ensures.taken refl) c.in-Bytes.ensures.given.1 c.read.ensures.taken refl refl
    refl h.2)
    (read_by (Bytes c.in-Bytes.count) c.in-Bytes.ensures.calls (c.read.auto.buffer ∙ c.told-buffer)) refl c.in-Bytes.ensures.given.1 refl
    (record { taken = c.read.ensures.taken; moved = refl; has_taken = refl; finished = refl }) refl h.2)

pub returns-in-Nothing : goal.returns-in-Nothing
returns-in-Nothing g c =
    let goes : c.conn.inside.status.fate ≡ Open = ap (λ (o : Connection). o.status.fate) c.conn.view_is ∙ c.requires.open in
    listens_as g.S.Server.steps c.conn.view_is
    (listens_to_none g.S.Server.steps
    (served_by_note _ _ (record { id = refl; sits = refl; left = refl })
    (later_by_read Nothing _ c.in-Nothing.ensures.calls c.read.ensures.taken refl)
    (record { id = refl; given = c.in-Nothing.ensures.given; taken = c.read.ensures.taken; outgoing = refl; session = refl }) refl)
    (read_by Nothing c.in-Nothing.ensures.calls (c.read.auto.buffer ∙ c.told-buffer)) (λ e. absurd (not_cut (sym e ∙ goes)))
    (λ e. absurd (not_closed (sym e ∙ goes))) (record { taken = c.read.ensures.taken; moved = refl; has_taken = refl; finished = refl }) refl)

pub returns-in-Closed : goal.returns-in-Closed
returns-in-Closed g c =
    let goes : c.conn.inside.status.fate ≡ Open = ap (λ (o : Connection). o.status.fate) c.conn.view_is ∙ c.requires.open in
    let none : c.conn.inside.outgoing ≡ [] = ap (λ (o : Connection). o.outgoing) c.conn.view_is ∙ c.requires.all in
    listens_as g.S.Server.steps c.conn.view_is
    (listens_to_none g.S.Server.steps
    (served_by_close _ _ (record { id = refl; sits = refl; left = refl }) (later_by_read Closed _ c.in-Closed.ensures.calls c.read.ensures.taken refl)
    (open_is_written _ goes) none c.in-Closed.ensures.given c.read.ensures.taken refl)
    (read_by Closed c.in-Closed.ensures.calls (c.read.auto.buffer ∙ c.told-buffer)) (λ e. absurd (closed_not_cut e))
    (λ e. inl (omega (arith, ap (λ (x : Calls). x.closings) c.in-Closed.ensures.calls)))
    (record { taken = c.read.ensures.taken; moved = refl; has_taken = refl; finished = refl }) refl)

pub returns-in-Fault : goal.returns-in-Fault
returns-in-Fault g c =
    let goes : c.conn.inside.status.fate ≡ Open = ap (λ (o : Connection). o.status.fate) c.conn.view_is ∙ c.requires.open in
    let none : c.conn.inside.outgoing ≡ [] = ap (λ (o : Connection). o.outgoing) c.conn.view_is ∙ c.requires.all in
    listens_as g.S.Server.steps c.conn.view_is
    (listens_to_none g.S.Server.steps
    (served_by_close _ _ (record { id = refl; sits = refl; left = refl }) (later_by_read Fault _ c.in-Fault.ensures.calls c.read.ensures.taken refl)
    (open_is_written _ goes) none c.in-Fault.ensures.given c.read.ensures.taken refl)
    (read_by Fault c.in-Fault.ensures.calls (c.read.auto.buffer ∙ c.told-buffer)) (λ e. absurd (closed_not_cut e))
    (λ e. inr (omega (arith, ap (λ (x : Calls). x.faults) c.in-Fault.ensures.calls)))
    (record { taken = c.read.ensures.taken; moved = refl; has_taken = refl; finished = refl }) refl)
