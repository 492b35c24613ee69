use Rattle.std.proofs.Common.{◌∙◌, sym, ap, subst, ℕ, List, [], ◌++◌, append-nil, take, OnOk}
use Rattle.radio_masters.proofs.Words.{ListOver}
use Rattle.radio_masters.proofs.Called.{Came}
use Rattle.radio_masters.proofs.list_pull.ListPull.turn.Goals as goal
use Rattle.radio_masters.proofs.list_pull.ListPull.turn.Goals.{in-Ok, in-Err, in-Ok-read_list_answer, in-Err-read_list_answer}

pub returns-after-hold-clause-came : goal.returns-after-hold-clause-came
returns-after-hold-clause-came g c =
    let bytes : List ℕ = take c.in-Bytes.count c.read.new.buffer in
    let given = g.L.Line.given c.read.new.self in
    let held = c.hold.new.held.items in
    let pull = c.args.self.now in
    elim c.match-hold.branch [
      | in-Ok w ↦
          let came : Came given held pull = (
            bytes,
            c.in-Bytes.ensures.given.1 ∙ ap (λ (xs : List ℕ). xs ++ bytes) (c.write.ensures.given ∙ ap (λ (o : ListOver). o.given) c.self.view_is),
            w.in-Ok.ensures.held ∙ ap (λ (xs : List ℕ). xs ++ bytes) (ap (λ (o : ListOver). o.came) c.self.view_is),
          ) in subst (λ r. OnOk r (Came given held pull)) (sym w.result-is) came
      | in-Err w ↦ subst (λ r. OnOk r (Came given held pull)) (sym w.result-is) tt
    ]

pub returns-after-read_list_answer-clause-came : goal.returns-after-read_list_answer-clause-came
returns-after-read_list_answer-clause-came g c =
    let given = g.L.Line.given c.read.new.self in
    let held = c.self.inside.held.items in
    let pull = c.args.self.now in
    elim c.match-read_list_answer.branch [
      | in-Ok-read_list_answer w ↦
          let came : Came given held pull = (
            [],
            c.in-Closed.ensures.given ∙ c.write.ensures.given ∙ ap (λ (o : ListOver). o.given) c.self.view_is ∙ sym (append-nil pull.given),
            ap (λ (o : ListOver). o.came) c.self.view_is ∙ sym (append-nil pull.came),
          ) in subst (λ r. OnOk r (Came given held pull)) (sym w.result-is) came
      | in-Err-read_list_answer w ↦ subst (λ r. OnOk r (Came given held pull)) (sym w.result-is) tt
    ]
