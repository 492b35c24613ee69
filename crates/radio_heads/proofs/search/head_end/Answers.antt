use Rattle.std.proofs.Common.{arith, sym}
use Rattle.std.proofs.lemmas.List.Quantifiers.{position-Some}
use Rattle.radio_heads.specs.Search.{is_text}
use Rattle.radio_heads.proofs.SearchLemmas.{HasNoEnd-no_text, none_before_start, none_more, HasNoEnd-from_all}
use Rattle.radio_heads.proofs.search.head_end.Goals as goal

pub returns-in_err-text-clause-none : goal.returns-in_err-text-clause-none
returns-in_err-text-clause-none c =
    rw c.from_residual.ensures (HasNoEnd-no_text _ (sym c.in_err-text.ensures))

pub loop-place-init : goal.loop-place-init
loop-place-init c = λ earlier other lt.
    none_before_start _ _ _ (sym c.in_ok-text.ensures) c.requires.searched earlier other (omega arith)

pub returns-in-Some-clause-end : goal.returns-in-Some-clause-end
returns-in-Some-clause-end c =
    let text = position-Some is_text c.args.bytes.now c.in_ok-text.text 0 (sym c.in_ok-text.ensures) in
    record {
      place = c.loop-place.place;
      ends = record {
        text = (c.in_ok-text.text, omega arith, text.1);
        line = c.in-Some.ensures.found.0;
        empty = c.in-Some.ensures.found.1;
      };
      first = c.loop-place.invariant;
    }

pub loop-place-preserved : goal.loop-place-preserved
loop-place-preserved c = none_more _ _ c.loop-place.invariant c.in_default.ensures.none

pub returns-clause-none : goal.returns-clause-none
returns-clause-none c = HasNoEnd-from_all _ _ (omega arith) c.loop-place.invariant
