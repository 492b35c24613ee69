use Rattle.std.proofs.Common.{◌≡◌, ◌∙◌, Result, Ok, Err, IfOk, OnErr, ap, sym, subst}
use Rattle.radio_events.specs.declared.reply.Reply.{Reply}
use Rattle.radio_events.specs.declared.reply.Reply.TheVariants.{Arrived, Deny}
use Rattle.radio_policy.specs.declared.rule.Rule.{Rule}
use Rattle.radio_session.specs.Conversation.{asking}
use Rattle.radio_session.specs.Saying.{said}
use Rattle.radio_connections.specs.Connections.{Connection, ClientIsTurnedAway}
use Rattle.radio_connections.specs.Course.{Arrival}
use Rattle.radio_connections.specs.Admission.{IsTakenIn}
use Rattle.radio_connections.proofs.Comings.{comes_in, is_turned_away, lets_nobody_in}
use Rattle.radio_connections.proofs.conn.Conn.admitted.Goals as goal

if_ok_more : {A E : Type 0} (P Q : A → Type 0) → ((x : A) → P x → Q x) → (r : Result A E) → IfOk r P → IfOk r Q
if_ok_more P Q f (Ok x) p = f x p
if_ok_more P Q f (Err e) p = tt

on_err_by : {A E : Type 0} (P : Type 0) → P → (r : Result A E) → OnErr r P
on_err_by P p (Ok x) = tt
on_err_by P p (Err e) = p

pub returns-clause-taken_in : goal.returns-clause-taken_in
returns-clause-taken_in g c =
    let given = g.L.Line.given c.args.line in
    let taken = g.L.Line.taken c.args.line in
    subst (λ (r : Reply). IsTakenIn (record { web = c.args.web; peer = c.args.peer; reply = r }) given taken c.new.result) (sym c.in-Arrived.is)
    (subst (λ (x : Connection). IsTakenIn (record { web = c.args.web; peer = c.args.peer; reply = Arrived c.in-Arrived.id }) given taken x) (sym c.new.ensures)
    (comes_in c.args.web c.args.peer c.in-Arrived.id given taken (g.L.Line.calls c.args.line) c.args.ms))

pub returns-in_default-clause-taken_in : goal.returns-in_default-clause-taken_in
returns-in_default-clause-taken_in g c =
    let given = g.L.Line.given c.args.line in
    let taken = g.L.Line.taken c.args.line in
    let arrival : Arrival = record { web = c.args.web; peer = c.args.peer; reply = c.args.reply } in
    if_ok_more (λ (x : Connection). ClientIsTurnedAway c.args.web c.args.reply given taken c.args.ms x) (λ (x : Connection). IsTakenIn arrival given taken x)
    (λ x away. is_turned_away arrival given taken c.args.ms x (lets_nobody_in c.args.reply c.in_default.not-Arrived) away)
    c.turned_away.result c.turned_away.ensures

pub returns-in_default-clause-err : goal.returns-in_default-clause-err
returns-in_default-clause-err g c = on_err_by _ (lets_nobody_in c.args.reply c.in_default.not-Arrived) c.turned_away.result

pub returns-clause-answers : goal.returns-clause-answers
returns-clause-answers g c = ap (λ (x : Connection). x.session.says.web) c.new.ensures

pub returns-clause-denial : goal.returns-clause-denial
returns-clause-denial g c rule denied = let never : Arrived c.in-Arrived.id ≡ Deny rule = sym c.in-Arrived.is ∙ denied in absurd (cc)

pub returns-in_default-clause-answers : goal.returns-in_default-clause-answers
returns-in_default-clause-answers g c =
    let given = g.L.Line.given c.args.line in
    let taken = g.L.Line.taken c.args.line in
    if_ok_more (λ (x : Connection). ClientIsTurnedAway c.args.web c.args.reply given taken c.args.ms x) (λ (x : Connection). x.session.says.web ≡ c.args.web)
    (λ x away. away.web_of_it) c.turned_away.result c.turned_away.ensures

pub returns-in_default-clause-denial : goal.returns-in_default-clause-denial
returns-in_default-clause-denial g c =
    let given = g.L.Line.given c.args.line in
    let taken = g.L.Line.taken c.args.line in
    if_ok_more (λ (x : Connection). ClientIsTurnedAway c.args.web c.args.reply given taken c.args.ms x)
    (λ (x : Connection). (rule : Rule) → c.args.reply ≡ Deny rule → x.outgoing ≡ (said (asking c.args.web) (Deny rule)).bytes)
    (λ x away rule denied. away.outgoing ∙ ap (λ (r : Reply). (said (asking c.args.web) r).bytes) denied) c.turned_away.result c.turned_away.ensures
