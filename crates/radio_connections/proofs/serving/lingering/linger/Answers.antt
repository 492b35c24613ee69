use Rattle.std.proofs.Common.{◌≡◌, [], inl, refl, ◌∙◌, ap}
use Rattle.radio_connections.specs.declared.conn.Fate.TheVariants.{Ended}
use Rattle.radio_connections.specs.Connections.{Connection}
use Rattle.radio_connections.proofs.Calling.{later_same, unread_same}
use Rattle.radio_connections.specs.Duties.{NothingWritten}
use Rattle.radio_connections.proofs.Deeds.{served_as, served_by_close, ended_is_written, closed_not_ended}
use Rattle.radio_connections.proofs.serving.lingering.linger.Goals as goal

pub returns-else-conn : goal.returns-else-conn
returns-else-conn g c =
    let ended : c.conn.inside.status.fate ≡ Ended = ap (λ (o : Connection). o.status.fate) c.conn.view_is ∙ c.requires.fate in
    let none : c.conn.inside.outgoing ≡ [] = ap (λ (o : Connection). o.outgoing) c.conn.view_is ∙ c.requires.all in
    record {
      served =
          served_as c.conn.view_is
          (served_by_close _ _ (record { id = refl; sits = refl; left = refl }) (later_same refl refl refl) (ended_is_written _ ended) none refl refl refl);
      over = refl;
      whole = λ e. cc;
      once = inl (unread_same (ap (λ (o : Connection). o.calls) c.conn.view_is));
      taken = ap (λ (o : Connection). o.taken) c.conn.view_is;
      has_taken = ap (λ (o : Connection). o.status.has_taken) c.conn.view_is;
      noted = inl (ap (λ (o : Connection). o.status.is_finished) c.conn.view_is, ap (λ (o : Connection). o.status.moved_ms) c.conn.view_is);
      closed = λ e. NothingWritten c.requires.fate c.if-conn.false;
      lingers = λ e. absurd (closed_not_ended e);
    }
