use Rattle.std.proofs.Common.{◌≡◌, List, [], ◌++◌, take, subst, ◌∙◌, refl}
use Rattle.radio_book.proofs.Words.{append-nil, drop_all, take_all, AreBack, BookOfMount}
use Rattle.radio_book.proofs.MountBookLemmas.{none_back}
use Rattle.radio_book.proofs.lending.take_back_each.Goals as goal

pub returns : goal.returns
returns g c =
    let books = c.loop-book.lent in
    let i = c.loop-book.book-index in
    let before = c.args.lent.now in
    let none = drop_all i before c.loop-book-test.false in
    let all : take i books ++ [] ≡ books = append-nil (take i books) ∙ take_all i books (rw c.loop-book.auto.lent c.loop-book-test.false) in
    subst (λ (lent : List BookOfMount). AreBack before lent c.args.control.now c.loop-book.control) all
    (c.loop-book.invariant.back c.loop-book.control [] (none_back _ [] c.loop-book.control none refl))
