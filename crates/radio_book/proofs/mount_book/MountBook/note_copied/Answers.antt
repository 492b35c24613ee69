use Rattle.std.proofs.Common.{ap, ◌∙◌}
use Rattle.radio_book.proofs.Words.{once_in, BookOfMount, BookParts, answered_here, part_here}
use Rattle.radio_book.proofs.OwnLemmas.{done_here, noted_in, once_answers, once_becomes, once_kept}
use Rattle.radio_book.proofs.mount_book.MountBook.note_copied.Goals as goal

pub returns-clause-done : goal.returns-clause-done
returns-clause-done g c can =
    let inside = c.self.inside in
    let part = c.deref_mut-parts.result.now.part in
    let stepped = c.step_twice_here-stepped.result in
    let later = c.step_twice_here-stepped.new.part in
    let after = part_here inside.queue inside.moment part c.args.event in
    let book : BookParts → BookOfMount = λ parts. record { mount = parts.mount; list = inside.list; part = parts.part; moment = inside.moment; queue = inside.queue } in
    let same = ap book c.deref_mut-parts.ensures.value ∙ c.self.view_is in
    done_here _ later c.args.event c.args.self.now c.args.held (once_in stepped) c.note_own.result same c.note_own.ensures.value (
      λ draws. once_answers (answered_here part c.args.event) stepped (c.step_twice_here-stepped.ensures.answer draws),
      λ draws. once_becomes after later stepped (c.step_twice_here-stepped.ensures.ok draws),
      λ draws. once_kept part later stepped (c.step_twice_here-stepped.ensures.elsewhere draws),
    ) can

pub returns-clause-receipts : goal.returns-clause-receipts
returns-clause-receipts g c =
    noted_in _ c.args.self.now _ c.args.event c.args.held _ _ c.note_own.result c.self.view_is c.requires.copy c.note_own.ensures.receipts
