use Rattle.std.proofs.Common.{◌≡◌, ℕ, false, List, ◌++◌, refl, ap, sym, subst, ◌∙◌, append-nil}
use Rattle.radio_floor.proofs.Words.{Draw, core_steps, Conversation, said, nothing_exchanged, prefixed, ended_with, LeavesAfter}
use Rattle.radio_floor.proofs.AnsweredLemmas.{alone_on, alone_last}
use Rattle.radio_floor.proofs.one_draw.exchange_draw.Goals as goal

pub returns-in-Running : goal.returns-in-Running
returns-in-Running c =
    let a = c.in_ok-answer_draw.ensures in
    let start = c.args.session.now in
    let written = said start.says a.0 in
    let mid = c.answer_draw.new.core in (
      prefixed written.bytes (nothing_exchanged written.says),
      alone_on start.id start.says (Draw start.id c.args.room) c.args.core.now mid a.0 a.1 (sym a.2.1 ∙ c.in-Running.is),
      a.2.0 ∙ ap (λ (xs : List ℕ). c.args.out.now.items ++ xs) (sym (append-nil written.bytes)),
      refl,
      a.2.2,
    )

pub returns-in_ok-leave-in-Shut : goal.returns-in_ok-leave-in-Shut
returns-in_ok-leave-in-Shut c =
    let a = c.in_ok-answer_draw.ensures in
    let start = c.args.session.now in
    let written = said start.says a.0 in
    let mid = c.answer_draw.new.core in
    let to = c.leave.new.core in
    let ending = c.in-Shut.ending in
    let id : c.id.result ≡ start.id = c.id.ensures ∙ ap (λ (x : Conversation). x.id) a.2.2 in
    let leaves = subst (λ (n : ℕ). LeavesAfter core_steps n false mid to) id c.in_ok-leave-in-Shut.ensures in (
      ended_with written ending,
      alone_last start.id start.says (Draw start.id c.args.room) c.args.core.now mid a.0 a.1 to ending (sym a.2.1 ∙ c.in-Shut.is) leaves,
      a.2.0,
      refl,
      a.2.2,
    )
