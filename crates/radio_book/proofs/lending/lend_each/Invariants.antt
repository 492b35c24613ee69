use Rattle.std.proofs.Common.{◌≡◌, List, ◌++◌, take, drop}
use Rattle.radio_book.proofs.Words.{World, AreLent, BookOfMount}
use Rattle.radio_book.proofs.lending.lend_each.Given as goal

-- those from the index on are as they were, and once they are lent, behind those that were, each was lent
abbrev pub invariant-loop-book : goal.invariant-loop-book
invariant-loop-book g l = record {
  left : drop l.book-index l.lent ≡ drop l.book-index l.initial.lent;
  lends : (to : World) (rest : List BookOfMount) → AreLent l.initial.is_reached (drop l.book-index l.initial.lent) rest l.control to
      → AreLent l.initial.is_reached l.initial.lent (take l.book-index l.lent ++ rest) l.initial.control to;
}
