use Rattle.std.proofs.Common.{ap, arith, sym, ◌∙◌}
use Rattle.std.specs.FinMap as finite
use Rattle.radio_creds.specs.UserList.{listed, lines_of}
use Rattle.radio_creds.proofs.LinesLemmas.{with_lines, with_lines-empty, lines_of-more, lines_of-last}
use Rattle.radio_creds.proofs.user_list.Users.read.Goals as goal

pub lines-init : goal.lines-init
lines-init c =
    sym (ap (λ entries. with_lines (finite.from_entries (listed (λ key. key.items) entries)) (lines_of c.args.bytes.now)) c.new.ensures.empty
    ∙ with_lines-empty (lines_of c.args.bytes.now))

pub lines-preserved : goal.lines-preserved
lines-preserved c =
    rw (c.in_ok-add_line.ensures, c.without_return.ensures)
    (c.lines.invariant ∙ ap (with_lines c.lines.users)
    (lines_of-more c.lines.rest.now c.in-Some.line.now c.in-Some.after.now c.in-Some.ensures.fields (c.fields.ensures.some 10 c.in-Some.after.now)))

pub lines-smaller : goal.lines-smaller
lines-smaller c = omega (arith, c.in-Some.ensures.sizes)

pub returns : goal.returns
returns c =
    c.in_ok-add_line-2.ensures
    ∙ sym (c.lines.invariant ∙ ap (with_lines c.lines.users) (lines_of-last c.lines.rest.now c.in_default.ensures.fields))
