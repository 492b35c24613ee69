use Rattle.std.proofs.Common.{List, ℕ, codes, ap, ◌∙◌, ◌++◌}
use Rattle.radio_heads.specs.Answer.{header_line}
use Rattle.radio_heads.proofs.WritingLemmas.{pushed_with_end}
use Rattle.radio_heads.proofs.writing.write_sized_head.Goals as goal

pub returns : goal.returns
returns c = pushed_with_end _ _ _ _ _ _ _ _ _ _ _ _
    c.new-text.ensures.items
    c.in_ok-push_status.ensures
    (c.in_ok-push_header.ensures
    ∙ ap (λ (type : List ℕ). c.push_status.new.text.items ++ header_line (codes "Content-Type") type) c.content_type.ensures)
    c.in_ok-push_number.ensures
    c.in_ok-push_challenge.ensures
    c.in_ok-push_end.ensures
