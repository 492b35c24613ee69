use Rattle.std.proofs.Common.{◌≡◌, ◌∙◌, ◌++◌, ◌∷◌, [], true, List, refl, ap, sym, subst}
use Rattle.radio_book.proofs.Words.{ControlLine, Made, entry, Event, Reply, entries_in, IsControlStep}
use Rattle.radio_book.proofs.HistoryLemmas.{noted_entries, made_more, made_still}
use Rattle.radio_book.proofs.accounts.Accounts.note_in_room.Goals as goal

pub invariant_of-self-clause-by_entries : goal.invariant_of-self-clause-by_entries
invariant_of-self-clause-by_entries g c =
    let lines = c.args.self.now.lines in
    let keeps : lines.keeps ≡ true = c.args.self.now.keeps ∙ c.requires.keeps in
    let cuts = c.note_cuts.ensures.kept keeps in
    let made = entry c.args.noted c.apart-first.result.0 in
    let noted = c.note.ensures.kept (c.note_cuts.ensures.keeps ∙ keeps) ∙ ap (λ (front : List ControlLine). front ++ Made made ∷ []) cuts.2 in
    let step = c.in-Ok.ensures.step in
    let replies = sym c.apart-first.ensures ∙ step.1 in
    let first : c.apart-first.result.0 ≡ step.0 = cc in
    let before = c.args.self.now.control in
    let books = c.args.lent.now in
    let back = c.step3_over.new.lent in
    let after = c.step3_over.new.control in
    let noted_so : IsControlStep books before c.args.noted step.0 back after =
    subst (λ (e : Event). IsControlStep books before e step.0 back after) (sym c.requires.copies.0) step.2 in
    made_more g.C.Chronicle.KEEPS g.H.Origin.opening lines.items c.note.new.self.items books back before after made
    (subst (λ (r : Reply). IsControlStep books before c.args.noted r back after) (sym first) noted_so)
    (λ kept. ap entries_in noted ∙ noted_entries lines.items cuts.0 c.step3_over.new.lent made cuts.1) c.args.self.now.by_entries

pub invariant_of-self-in-Err-1 : goal.invariant_of-self-in-Err-1
invariant_of-self-in-Err-1 g c =
    let before = c.args.self.now in record {
      keeps = before.keeps;
      room = before.room;
      fits = before.fits;
      left = before.left;
      none = before.none;
      by_entries =
          made_still g.C.Chronicle.KEEPS g.H.Origin.opening before.lines.items before.lines.items c.args.lent.now c.step3_over.new.lent before.control
          c.step3_over.new.control refl c.in-Err.ensures.err before.by_entries;
    }
