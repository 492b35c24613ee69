use Rattle.std.proofs.Common.{◌<◌, arith}
use Rattle.std.specs.Vec.{vec_len}
use Rattle.std.proofs.lemmas.Bool.Decides.{nat_tests}
use Rattle.radio_icy.specs.Items.{AreRuns}
use Rattle.radio_icy.proofs.ItemsLemmas.{AreRuns-push_text, AreRuns-push_sound, EndsInText-push}
use Rattle.radio_icy.proofs.items.Items.add_text.Goals as goal
use Rattle.radio_icy.proofs.items.Items.add_text.Goals.{then-not-is_empty+in_ok-push, else-not-is_empty}

pub invariant_of-self-2 : goal.invariant_of-self-2
invariant_of-self-2 c =
    let before = c.self.inside.items.items in
    let run = c.self.inside.run in
    let runs : AreRuns c.if-not-is_empty.self-inside.items.items =
    elim c.if-not-is_empty.branch [
      | then-not-is_empty+in_ok-push w ↦
          let some : 0 < vec_len run = grind (arith, nat_tests, w.if-not-is_empty.true, c.is_empty.ensures) in
          rw (w.self-inside-is, w.in_ok-push.ensures.items, c.in_ok-reserve.ensures.items, w.replace-run.ensures.value)
          (AreRuns-push_sound before run c.self.invariant.0 c.self.invariant.1 some)
      | else-not-is_empty w ↦ rw (w.self-inside-is, c.in_ok-reserve.ensures.items) c.self.invariant.0
    ] in
    let gathered = c.if-not-is_empty.self-inside.items.items in
    rw c.in_ok-push-2.ensures.items (AreRuns-push_text gathered c.in_ok-text.text runs, EndsInText-push gathered c.in_ok-text.text)
