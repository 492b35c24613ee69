use Rattle.std.proofs.Common.{◌≡◌, inl, inr, sym, Bool, ◌||◌, ◌&&◌, [], ◌∷◌, refl, ◌∙◌, ap}
use Rattle.radio_events.specs.Events.{entry}
use Rattle.radio_connections.specs.Connections.{Connection, one_refusal, refused_one}
use Rattle.radio_connections.specs.declared.conn.ConnStatus.{ConnStatus}
use Rattle.radio_connections.specs.declared.conn.Fate.TheVariants.{Open}
use Rattle.radio_connections.specs.Course.{is_listen, is_seated}
use Rattle.radio_connections.proofs.Standing.{answered_as}
use Rattle.radio_connections.proofs.Calling.{later_same, later_by_refusal, more_refused}
use Rattle.radio_connections.proofs.Deeds.{answered_as_one, answered_by_cut, closed_not_cut}
use Rattle.radio_connections.proofs.DeedChains.{chain_one}
use Rattle.radio_connections.proofs.serving.answering.answer.Goals as goal

pub returns-in-Ok : goal.returns-in-Ok
returns-in-Ok g c =
    let made = entry c.args.event c.in-Ok.reply in
    let before = c.conn.inside.status in
    let goes : before.fate ≡ Open = ap (λ (o : Connection). o.status.fate) c.conn.view_is ∙ c.requires in
    let sits = ap (λ (s : ConnStatus). s.sits) c.note.ensures
    ∙ ap (λ (b : Bool). b || before.sits) (c.both-sits.ensures ∙ ap (λ (b : Bool). b && c.is_seated.result) c.is_listen-listens.ensures
    ∙ ap (λ (b : Bool). is_listen c.args.event && b) c.is_seated.ensures) in
    let over = c.pass_over_if.ensures in
    let left = ap (λ (s : ConnStatus). s.has_left) c.note.ensures ∙ ap (λ (b : Bool). b || before.has_left) c.is_leave-leaves.ensures in (
      made ∷ [],
      chain_one g.S.Server.steps c.args.server.now c.apply.new.self made c.in-Ok.ensures.ok,
      answered_as_one c.conn.view_is (record {
        same = refl;
        once = inr (c.in-Ok.reply, refl);
        made = λ goes. (c.in-Ok.reply, refl);
        seat = λ other. sits ∙ ap (λ (b : Bool). (b && is_seated c.in-Ok.reply) || before.sits) other;
        stands =
            λ arrival later past st. answered_as _ _ c.args.event later past c.in-Ok.reply goes refl over.given over.taken sits left st c.append-conn-inside.result refl
            c.append-conn-inside.ensures.appended;
        later = later_same over.calls over.taken refl;
        spared = record {
          calls = over.calls;
          given = over.given;
          unwritten = record {
            taken = over.taken;
            moved = ap (λ (s : ConnStatus). s.moved_ms) c.note.ensures;
            has_taken = ap (λ (s : ConnStatus). s.has_taken) c.note.ensures;
            finished = ap (λ (s : ConnStatus). s.is_finished) c.note.ensures;
          };
          closed = c.append-conn-inside.ensures.closed;
          cut = λ e. inl (c.append-conn-inside.ensures.cut e);
        };
        asked = ap (λ (s : ConnStatus). s.asked_ms) c.note.ensures;
      }),
    )

pub returns-in-Err : goal.returns-in-Err
returns-in-Err g c =
    let before = c.conn.inside.refusals in
    let one : c.count.new.self ≡ one_refusal c.args.event before =
    c.count.ensures ∙ ap (λ (leaves : Bool). refused_one leaves before) c.is_leave-leaves.ensures in (
      [],
      c.in-Err.ensures.err,
      answered_as_one c.conn.view_is
          (answered_by_cut _ _ c.args.event (record { id = refl; sits = refl; left = refl }) (later_by_refusal c.args.event refl refl one)
          (record {
            calls = refl;
            given = refl;
            unwritten = record { taken = refl; moved = refl; has_taken = refl; finished = refl };
            closed = λ e. closed_not_cut (sym e);
            cut = λ e. inr (more_refused c.args.event _ _ one);
          }) refl refl refl),
    )
