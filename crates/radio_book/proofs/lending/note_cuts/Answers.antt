use Rattle.std.proofs.Common.{◌≡◌, ◌+◌, List, [], ◌∷◌, ◌++◌, take, sym, subst, ◌∙◌, ap, arith, append_assoc}
use Rattle.radio_book.proofs.Words.{take_more, ControlLine, AreCuts, BookOfMount}
use Rattle.radio_book.proofs.MountBookLemmas.{cut_more}
use Rattle.radio_book.proofs.lending.note_cuts.Goals as goal

pub loop-book-preserved : goal.loop-book-preserved
loop-book-preserved g c =
    let before = c.loop-book.invariant in
    let lent = c.args.lent.now in
    let i = c.loop-book.book-index in
    let book = c.book-item.result in
    let line = c.cut.result in
    let more : take (i + 1) lent ≡ take i lent ++ book ∷ [] =
    take_more lent i book c.loop-book-test.true ∙ ap (λ (b : BookOfMount). take i lent ++ b ∷ []) (sym c.book-item.is) in record {
      kept = λ keeps.
          let cuts = before.kept keeps in (
            cuts.0 ++ line ∷ [],
            subst (λ (books : List BookOfMount). AreCuts books (cuts.0 ++ line ∷ [])) (sym more) (cut_more (take i lent) cuts.0 book line cuts.1 c.cut.ensures),
            c.note.ensures.kept (before.keeps ∙ keeps) ∙ ap (λ (lines : List ControlLine). lines ++ line ∷ []) cuts.2
                ∙ append_assoc c.args.lines.now.items cuts.0 (line ∷ []),
          );
      unkept = λ keeps. c.note.ensures.unkept (before.keeps ∙ keeps) ∙ before.unkept keeps;
      room = omega (arith, before.room, c.note.ensures.room);
      keeps = c.note.ensures.keeps ∙ before.keeps;
    }
