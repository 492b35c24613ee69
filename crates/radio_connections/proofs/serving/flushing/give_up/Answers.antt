use Rattle.std.proofs.Common.{inl, inr, refl, sym, ◌∙◌}
use Rattle.radio_connections.proofs.Calling.{later_same, unread_same}
use Rattle.radio_connections.proofs.Deeds.{not_cut, closed_not_cut, patient_as, served_by_cut, served_by_note, le_by, lt_by}
use Rattle.radio_connections.proofs.serving.flushing.give_up.Goals as goal

pub returns-then-is_past-clause-patient : goal.returns-then-is_past-clause-patient
returns-then-is_past-clause-patient g c =
    patient_as c.conn.view_is (record {
      served = served_by_cut _ _ (record { id = refl; sits = refl; left = refl }) (later_same refl refl refl) refl refl refl;
      goes = λ e. absurd (not_cut e);
      unread = unread_same refl;
      closed = λ e. absurd (closed_not_cut (sym e));
      cut = λ e. inr (le_by _ _ (sym c.is_past.ensures ∙ c.if-is_past.true));
      in_time = λ written. absurd written;
      noted = refl;
      taken = refl;
      outgoing = refl;
    })

pub returns-else-is_past-clause-patient : goal.returns-else-is_past-clause-patient
returns-else-is_past-clause-patient g c =
    patient_as c.conn.view_is (record {
      served =
          served_by_note _ _ (record { id = refl; sits = refl; left = refl }) (later_same refl refl refl)
          (record { id = refl; given = refl; taken = refl; outgoing = refl; session = refl }) refl;
      goes = λ e. e;
      unread = unread_same refl;
      closed = λ e. e;
      cut = λ e. inl e;
      in_time = λ written. lt_by _ _ (sym c.is_past.ensures ∙ c.if-is_past.false);
      noted = refl;
      taken = refl;
      outgoing = refl;
    })
