use Rattle.std.proofs.Common.{◌≡◌, ◌==◌, ℕ, Bool, [], if◌then◌else◌, vec_len, length, rules, inl, refl, sym, ◌∙◌, ap}
use Rattle.radio_connections.specs.declared.conn.Fate.TheVariants.{Open}
use Rattle.radio_connections.specs.Connections.{Connection}
use Rattle.radio_session.specs.Hearing.{EventReading}
use Rattle.radio_connections.proofs.Calling.{later_same}
use Rattle.radio_connections.proofs.Deeds.{heard_so, heard_by_cut, heard_on_one, closed_not_cut}
use Rattle.radio_connections.proofs.serving.listening.hear.Goals as goal

pub returns-in-Ok : goal.returns-in-Ok
returns-in-Ok g c =
    let a = c.answer_all.ensures in
    let goes : c.conn.inside.status.fate ≡ Open = ap (λ (o : Connection). o.status.fate) c.conn.view_is ∙ c.requires in
    let heard : EventReading = record { events = c.in-Ok.events.items; conversation = c.take.new.self } in
    let many : vec_len c.in-Ok.events ≡ length c.in-Ok.events.items = search rules in (
      a.0,
      a.1,
      heard_on_one c.conn.view_is
          (heard_so c.args.now.ms _ _ _ c.args.bytes.now heard a.0 goes c.in-Ok.ensures.events (record { id = refl; sits = refl; left = refl })
          (later_same refl refl refl) refl refl (record { taken = refl; moved = refl; has_taken = refl; finished = refl })
          (c.asked_ms-conn-inside.ensures
          ∙ ap (λ (b : Bool). if b then c.conn.inside.status.asked_ms else c.args.now.ms) (c.is_empty.ensures ∙ ap (λ (n : ℕ). n == 0) many))
          refl refl refl a.2),
    )

pub returns-in-Err : goal.returns-in-Err
returns-in-Err g c = (
  [],
  refl,
  heard_on_one c.conn.view_is
      (heard_by_cut c.args.now.ms _ _ c.args.bytes.now (record { id = refl; sits = refl; left = refl }) (later_same refl refl refl)
      (record {
        calls = refl;
        given = refl;
        unwritten = record { taken = refl; moved = refl; has_taken = refl; finished = refl };
        closed = λ e. closed_not_cut (sym e);
        cut = λ e. inl c.in-Err.ensures.fails;
      }) refl refl),
)
