use Rattle.std.proofs.Common.{◌≡◌, ◌<◌, inl, inr, length, append-nil, arith, ◌∙◌, ap, take, drop, List, ℕ, zero, suc, [], ◌++◌, refl, sym, subst}
use Rattle.radio_connections.specs.Lines.{Calls}
use Rattle.radio_connections.specs.Connections.{Connection}
use Rattle.radio_connections.specs.declared.line.Sent.TheVariants.{Took, Nothing, Fault}
use Rattle.radio_connections.specs.Duties.{IsWritten}
use Rattle.radio_connections.specs.Leaving.{TookNone, TookSome}
use Rattle.radio_connections.proofs.Calling.{later_by_write, written_once, unread_by_write, taken_all, none_of_some}
use Rattle.radio_connections.proofs.Deeds.{not_cut, none_behind, takes_some, flushed_as, served_by_cut, served_by_write, served_by_note}
use Rattle.radio_connections.proofs.serving.flushing.write.Goals as goal

drop_nil : (n : ℕ) → drop {A = ℕ} n [] ≡ []
drop_nil zero = refl
drop_nil (suc n) = refl

pub returns-in-Took : goal.returns-in-Took
returns-in-Took g c =
    let taken = c.in-Took.ensures.taken.2 ∙ ap (λ (xs : List ℕ). g.L.Line.taken c.conn.inside.line ++ take c.in-Took.count xs) c.rest.ensures in
    flushed_as c.conn.view_is (record {
      served =
          served_by_write _ _ c.in-Took.count (record { id = refl; sits = refl; left = refl })
          (later_by_write (Took c.in-Took.count) (take c.in-Took.count c.conn.inside.outgoing) c.in-Took.ensures.calls taken refl)
          (subst (λ (o : Connection). IsWritten o.status.fate) (sym c.conn.view_is) c.requires.fate) c.take_off.ensures c.write-sent.ensures.given taken refl
          refl;
      goes = λ e. e;
      sits = refl;
      none = λ e. c.take_off.ensures ∙ ap (λ (xs : List ℕ). drop c.in-Took.count xs) e ∙ drop_nil c.in-Took.count;
      all = λ e. taken
          ∙ ap (λ (xs : List ℕ). g.L.Line.taken c.conn.inside.line ++ xs) (taken_all c.in-Took.count c.conn.inside.outgoing (sym c.take_off.ensures ∙ e));
      idle = λ e. refl;
      unread = unread_by_write (Took c.in-Took.count) c.in-Took.ensures.calls;
      given = λ goes outgoing. written_once _ _ (Took c.in-Took.count) c.in-Took.ensures.calls;
      session = refl;
      fate = λ n. refl;
      cut = λ e. inl e;
      noted = TookSome
          (λ same. takes_some c.in-Took.count c.conn.inside.outgoing c.in-Took.ensures.taken.0
          (subst (λ (o : Connection). 0 < length o.outgoing) (sym c.conn.view_is) c.requires.some)
          (none_behind (g.L.Line.taken c.conn.inside.line) (take c.in-Took.count c.conn.inside.outgoing) (sym taken ∙ same)))
          (subst (λ (o : Connection). IsWritten o.status.fate) (sym c.conn.view_is) c.requires.fate) refl;
      given_same = c.write-sent.ensures.given;
      closings = ap (λ (x : Calls). x.closings) c.in-Took.ensures.calls;
      faults = λ whole. ap (λ (x : Calls). x.faults) c.in-Took.ensures.calls;
    })

pub returns-in-Nothing : goal.returns-in-Nothing
returns-in-Nothing g c =
    flushed_as c.conn.view_is (record {
      served =
          served_by_note _ _ (record { id = refl; sits = refl; left = refl })
          (later_by_write Nothing [] c.in-Nothing.ensures.calls (c.in-Nothing.ensures.taken ∙ sym (append-nil _)) refl)
          (record { id = refl; given = c.write-sent.ensures.given; taken = c.in-Nothing.ensures.taken; outgoing = refl; session = refl }) refl;
      goes = λ e. e;
      sits = refl;
      none = λ e. e;
      all = λ e. c.in-Nothing.ensures.taken ∙ sym (ap (λ (xs : List ℕ). g.L.Line.taken c.conn.inside.line ++ xs) e ∙ append-nil _);
      idle = λ e. refl;
      unread = unread_by_write Nothing c.in-Nothing.ensures.calls;
      given = λ goes outgoing. written_once _ _ Nothing c.in-Nothing.ensures.calls;
      session = refl;
      fate = λ n. refl;
      cut = λ e. inl e;
      noted = TookNone c.in-Nothing.ensures.taken refl;
      given_same = c.write-sent.ensures.given;
      closings = ap (λ (x : Calls). x.closings) c.in-Nothing.ensures.calls;
      faults = λ whole. ap (λ (x : Calls). x.faults) c.in-Nothing.ensures.calls;
    })

pub returns-in-Fault : goal.returns-in-Fault
returns-in-Fault g c =
    flushed_as c.conn.view_is (record {
      served =
          served_by_cut _ _ (record { id = refl; sits = refl; left = refl })
          (later_by_write Fault [] c.in-Fault.ensures.calls (c.in-Fault.ensures.taken ∙ sym (append-nil _)) refl) c.write-sent.ensures.given
          c.in-Fault.ensures.taken refl;
      goes = λ e. absurd (not_cut e);
      sits = refl;
      none = λ e. e;
      all = λ e. c.in-Fault.ensures.taken ∙ sym (ap (λ (xs : List ℕ). g.L.Line.taken c.conn.inside.line ++ xs) e ∙ append-nil _);
      idle = λ e. absurd (none_of_some (subst (λ (o : Connection). 0 < length o.outgoing) (sym c.conn.view_is) c.requires.some) e);
      unread = unread_by_write Fault c.in-Fault.ensures.calls;
      given = λ goes outgoing. written_once _ _ Fault c.in-Fault.ensures.calls;
      session = refl;
      fate = λ n. absurd (n refl);
      cut = λ e. inr (omega (arith, ap (λ (x : Calls). x.faults) c.in-Fault.ensures.calls));
      noted = TookNone c.in-Fault.ensures.taken refl;
      given_same = c.write-sent.ensures.given;
      closings = ap (λ (x : Calls). x.closings) c.in-Fault.ensures.calls;
      faults = λ whole. absurd (whole refl);
    })
