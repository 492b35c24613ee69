use Rattle.std.proofs.Common.{◌≡◌, List, ◌++◌, take, drop}
use Rattle.radio_book.proofs.Words.{World, AreBack, BookOfMount}
use Rattle.radio_book.proofs.lending.take_back_each.Given as goal

-- those from the index on are as they were, and once they are back, behind those that are, each is back
abbrev pub invariant-loop-book : goal.invariant-loop-book
invariant-loop-book g l = record {
  left : drop l.book-index l.lent ≡ drop l.book-index l.initial.lent;
  back : (to : World) (rest : List BookOfMount) → AreBack (drop l.book-index l.initial.lent) rest l.control to
      → AreBack l.initial.lent (take l.book-index l.lent ++ rest) l.initial.control to;
}
