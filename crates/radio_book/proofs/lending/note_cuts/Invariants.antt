use Rattle.std.proofs.Common.{◌≡◌, ◌+◌, ◌≤◌, ◌++◌, true, false, List, take}
use Rattle.radio_book.proofs.Words.{ControlLine, AreCuts}
use Rattle.radio_book.proofs.lending.note_cuts.Given as goal

-- there is a cut for each before the index
abbrev pub invariant-loop-book : goal.invariant-loop-book
invariant-loop-book g l = record {
  kept : l.initial.lines.keeps ≡ true → (cuts : List ControlLine) × AreCuts (take l.book-index l.lent) cuts × (l.lines.items ≡ l.initial.lines.items ++ cuts);
  unkept : l.initial.lines.keeps ≡ false → l.lines.items ≡ l.initial.lines.items;
  room : l.initial.lines.room ≤ l.lines.room + l.book-index;
  keeps : l.lines.keeps ≡ l.initial.lines.keeps;
}
