use Rattle.std.proofs.Common.{ap, ◌∙◌}
use Rattle.radio_book.proofs.Words.{BookOfMount, BookParts}
use Rattle.radio_book.proofs.DrawLemmas.{handed_here, nothing_here}
use Rattle.radio_book.proofs.mount_book.MountBook.draw.Goals as goal

pub returns-clause-done : goal.returns-clause-done
returns-clause-done g c can =
    let inside = c.self.inside in
    let book : BookParts → BookOfMount = λ parts. record { mount = parts.mount; list = inside.list; part = parts.part; moment = inside.moment; queue = inside.queue } in
    let same = ap book c.deref_mut.ensures.value ∙ c.self.view_is in
    handed_here _ c.args.self.now _ c.draw.new.self c.args.id c.args.room c.draw.result same c.in-Some.is c.draw.ensures.reply c.draw.ensures.ok can

pub returns-in_default-clause-done : goal.returns-in_default-clause-done
returns-in_default-clause-done g c can =
    let inside = c.self.inside in
    let book : BookParts → BookOfMount = λ parts. record { mount = parts.mount; list = inside.list; part = parts.part; moment = inside.moment; queue = inside.queue } in
    let same = ap book c.deref_mut.ensures.value ∙ c.self.view_is in
    nothing_here _ c.args.self.now c.args.id c.args.room same c.in_default.is
