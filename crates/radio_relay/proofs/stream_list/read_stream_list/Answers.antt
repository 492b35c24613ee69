use Rattle.std.proofs.Common.{ℕ, List, map, ap, arith, sym, ◌∙◌}
use Rattle.radio_texts.specs.Lines.{without_return}
use Rattle.radio_relay.proofs.Words.{names_listed, with_names, stream_list_lines}
use Rattle.radio_relay.proofs.stream_list.read_stream_list.Goals as goal

pub lines-init : goal.lines-init
unfolding names_listed
lines-init c = ap (λ (names : List (List ℕ)). with_names names (stream_list_lines c.args.text.now)) (sym c.new-names.ensures.empty)

pub lines-preserved : goal.lines-preserved
lines-preserved c =
    c.lines.invariant
    ∙ ap (λ (lines : List (List ℕ)). with_names c.lines.names.keys (map without_return lines)) c.in-Some.ensures.fields
    ∙ ap (λ (names : List (List ℕ)). with_names names (stream_list_lines c.in-Some.after.now)) (sym (rw c.without_return.ensures at c.in_ok-add_name.ensures))

pub lines-smaller : goal.lines-smaller
lines-smaller c = omega (arith, c.in-Some.ensures.sizes)

pub returns : goal.returns
returns c =
    rw c.without_return-2.ensures at c.in_ok-add_name-2.ensures
    ∙ sym (c.lines.invariant ∙ ap (λ (lines : List (List ℕ)). with_names c.lines.names.keys (map without_return lines)) c.in_default.ensures.fields)
