use Rattle.std.proofs.Common.{◌≡◌, ◌-◌, ◌<◌, arith, subst}
use Rattle.std.proofs.lemmas.Bool.Decides.{nat_tests}
use Rattle.radio_blocks.specs.Queue.{KeptTail, trimmed}
use Rattle.radio_blocks.proofs.QueueLemmas.{trimmed_few}
use Rattle.radio_blocks.proofs.queue.BlockQueue.drop_first.Goals as goal

pub returns-then-kept-self-clause-done : goal.returns-then-kept-self-clause-done
returns-then-kept-self-clause-done c = λ no.
    let kept : c.self.inside.end - c.self.inside.offset < c.self.inside.limit = grind (arith, nat_tests, c.if-kept-self.true) in
    subst (λ (tail : KeptTail). trimmed tail ≡ tail) c.self.view_is
    (trimmed_few
    (record { offset = c.self.inside.offset; blocks = c.self.inside.blocks; limit = c.self.inside.limit })
    (omega (arith, kept, c.self.invariant)))
