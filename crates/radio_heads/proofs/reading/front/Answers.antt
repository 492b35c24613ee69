use Rattle.std.proofs.Common.{arith, ℕ}
use Rattle.std.proofs.lemmas.List.{length-take}
use Rattle.radio_heads.proofs.SearchLemmas.{HasNoEnd-fewer}
use Rattle.radio_heads.proofs.ReadingLemmas.{IsFront-window, IsUnfinished-window, IsTooLong-window}
use Rattle.radio_heads.proofs.reading.front.Goals as goal

pub head_end-requires-clause-searched : goal.head_end-requires-clause-searched
head_end-requires-clause-searched c =
    HasNoEnd-fewer c.args.bytes.now c.min-2.result c.min.result c.args.seen (omega arith) c.requires.searched

pub returns-in-Some-clause-front : goal.returns-in-Some-clause-front
returns-in-Some-clause-front c =
    IsFront-window c.args.bytes.now c.min.result c.in-Some.end (omega arith)
    (omega (arith, c.in-Some.ensures.within, length-take {A = ℕ})) c.in-Some.ensures.end

pub returns-in-None-clause-more : goal.returns-in-None-clause-more
returns-in-None-clause-more c =
    IsUnfinished-window c.args.bytes.now c.min.result (omega arith) (omega arith) c.in-None.ensures.none

pub returns-in-None-2-clause-too_long : goal.returns-in-None-2-clause-too_long
returns-in-None-2-clause-too_long c =
    IsTooLong-window c.args.bytes.now c.min.result (omega arith) (omega arith) c.in-None-2.ensures.none
