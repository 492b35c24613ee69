use Rattle.std.proofs.Common.{◌≡◌, ℕ, ◌-◌, ◌++◌, drop, length, List, [], ap, ◌∙◌, sym, arith}
use Rattle.std.specs.Str.{chars}
use Rattle.std.specs.String.{string_bytes, string_len}
use Rattle.std.proofs.lemmas.Iterator.{YieldsList-from_chars}
use Rattle.std.proofs.lemmas.Iterator.Consumers.{YieldsList-turn, YieldsList-end}
use Rattle.std.proofs.lemmas.List.{length_push, drop_all, append-nil}
use Rattle.radio_values.proofs.CleaningLemmas.{kept, kept_past, kept_full, kept_more}
use Rattle.radio_values.proofs.clean.shown_front.Goals as goal

pub returns-then-most-len-clause-made : goal.returns-then-most-len-clause-made
returns-then-most-len-clause-made c =
    let here = YieldsList-turn
    (YieldsList-from_chars c.args.text.now c.utf8.text cc) c.loop-c.yielded _ c.loop-c.yielded_by _ _ c.in-Some.c c.in-Some.is c.next.ensures.steps in
    kept_full (chars c.args.text.now) (length c.loop-c.yielded) c.in-Some.c _ _ _ here (sym c.if-is_shown.ensures)
    (omega (arith, c.len_utf8.ensures.value, c.len.ensures)) c.loop-c.invariant.1

pub loop-c-preserved-in-Continue-1 : goal.loop-c-preserved-in-Continue-1
loop-c-preserved-in-Continue-1 c =
    let here = YieldsList-turn
    (YieldsList-from_chars c.args.text.now c.utf8.text cc) c.loop-c.yielded _ c.loop-c.yielded_by _ _ c.in-Some.c c.in-Some.is c.next.ensures.steps in (
      omega (arith, c.in_ok-push.ensures.len, c.len_utf8.ensures.len, c.len.ensures, c.if-most-len.false),
      kept_more (chars c.args.text.now) (length c.loop-c.yielded) c.in-Some.c _ (c.args.most - string_len c.loop-c.made) _ _ _ _ here
          (sym c.if-is_shown.ensures) (omega (arith, c.len_utf8.ensures.value, c.len.ensures))
          (length_push c.loop-c.yielded c.in-Some.c)
          (omega (
            arith,
            c.in_ok-push.ensures.len,
            c.len_utf8.ensures.value,
            c.len_utf8.ensures.len,
            c.len.ensures,
          )) c.in_ok-push.ensures.bytes c.loop-c.invariant.1,
    )

pub loop-c-preserved : goal.loop-c-preserved
loop-c-preserved c =
    let here = YieldsList-turn
    (YieldsList-from_chars c.args.text.now c.utf8.text cc) c.loop-c.yielded _ c.loop-c.yielded_by _ _ c.in-Some.c c.in-Some.is c.next.ensures.steps in (
      c.loop-c.invariant.0,
      kept_past (chars c.args.text.now) (length c.loop-c.yielded) c.in-Some.c _ _ _ _ here (sym c.if-is_shown.ensures)
          (length_push c.loop-c.yielded c.in-Some.c) c.loop-c.invariant.1,
    )

pub returns-clause-made : goal.returns-clause-made
returns-clause-made c =
    let end = YieldsList-end
    (YieldsList-from_chars c.args.text.now c.utf8.text cc) c.loop-c.yielded _ c.loop-c.yielded_by _ _ c.in-None.is c.next.ensures.steps in
    let past : drop (length c.loop-c.yielded) (chars c.args.text.now) ≡ [] =
    drop_all (length c.loop-c.yielded) (chars c.args.text.now) (omega (arith, end.1)) in
    sym (append-nil (string_bytes c.loop-c.made))
    ∙ (ap (λ (cs : List ℕ). string_bytes c.loop-c.made ++ kept (c.args.most - string_len c.loop-c.made) cs) (sym past) ∙ c.loop-c.invariant.1)
