use Rattle.std.proofs.Common.{◌≡◌, inl, inr, [], ◌∷◌, Result, IfOk, OnErr, refl, sym, subst, ◌∙◌, ap}
use Rattle.std.specs.declared.alloc.AllocError.{AllocError}
use Rattle.radio_events.specs.Events.{entry}
use Rattle.radio_events.specs.declared.event.Event.TheVariants.{Draw}
use Rattle.radio_events.specs.declared.reply.Reply.{Reply}
use Rattle.radio_connections.specs.Connections.{Connection, one_refusal}
use Rattle.radio_connections.specs.declared.conn.Fate.TheVariants.{Open}
use Rattle.radio_connections.proofs.Standing.{answered_as}
use Rattle.radio_connections.proofs.Calling.{later_same, later_by_refusal, more_refused}
use Rattle.radio_connections.proofs.Deeds.{answered_by_cut, closed_not_cut}
use Rattle.radio_connections.specs.Rooms.{fills_room}
use Rattle.radio_connections.proofs.DeedChains.{chain_one, draws_for_one, same_reply}
use Rattle.radio_connections.proofs.serving.drawing.draw_for.Goals as goal

pub returns-in-Ok : goal.returns-in-Ok
returns-in-Ok g c =
    let steps = g.S.Server.steps in
    let draw = Draw c.conn.inside.id c.args.room in
    let reply = c.in-Ok.reply in
    let made = entry draw reply in
    let applied : steps c.args.server.now draw reply c.draw-drawn.new.self =
    subst (λ (r : Result Reply AllocError). IfOk r (λ its. steps c.args.server.now draw its c.draw-drawn.new.self)) c.in-Ok.is c.draw-drawn.ensures.ok in
    let goes : c.conn.inside.status.fate ≡ Open = ap (λ (o : Connection). o.status.fate) c.conn.view_is ∙ c.requires in
    draws_for_one steps c.args.room c.conn.view_is c.requires (made ∷ [])
    (chain_one steps c.args.server.now c.draw-drawn.new.self made applied)
    (record {
      same = refl;
      once = inr (reply, refl);
      made = λ goes. (reply, refl);
      seat = λ other. refl;
      stands = λ arrival later past st. answered_as _ _ draw later past reply goes refl refl refl refl refl st c.append-conn-inside.result refl
          c.append-conn-inside.ensures.appended;
      later = later_same refl refl refl;
      spared = record {
        calls = refl;
        given = refl;
        unwritten = record { taken = refl; moved = refl; has_taken = refl; finished = refl };
        closed = c.append-conn-inside.ensures.closed;
        cut = λ e. inl (c.append-conn-inside.ensures.cut e);
      };
      asked = refl;
    })
    (λ other is. c.fills_room-conn-inside.ensures ∙ ap fills_room (same_reply c.conn.inside.id c.args.room reply other is))

pub returns-in-Err : goal.returns-in-Err
returns-in-Err g c =
    let draw = Draw c.conn.inside.id c.args.room in
    let same = subst (λ (r : Result Reply AllocError). OnErr r (c.draw-drawn.new.self ≡ c.args.server.now)) c.in-Err.is c.draw-drawn.ensures.err in
    let one : c.count.new.self ≡ one_refusal draw c.conn.inside.refusals = c.count.ensures in
    draws_for_one g.S.Server.steps c.args.room c.conn.view_is c.requires [] same
    (answered_by_cut _ _ draw (record { id = refl; sits = refl; left = refl }) (later_by_refusal draw refl refl one)
    (record {
      calls = refl;
      given = refl;
      unwritten = record { taken = refl; moved = refl; has_taken = refl; finished = refl };
      closed = λ e. closed_not_cut (sym e);
      cut = λ e. inr (more_refused draw _ _ one);
    }) refl refl refl)
    (λ reply is. let none : [] ≡ entry draw reply ∷ [] = is in cc)
