use Rattle.std.proofs.Common.{◌∙◌, refl}
use Rattle.radio_icy.proofs.ItemsLemmas.{take-without_padding}
use Rattle.radio_icy.proofs.items.unpadded_text.Goals as goal

pub returns : goal.returns
returns c =
    let fits = rw c.as_slice.ensures.value at c.unpadded_len.ensures in
    c.truncate.ensures.items
    ∙ (take-without_padding c.unpadded_len.result _ fits
    ∙ rw (c.in_ok-extend_from_slice.ensures.items, c.in_ok-text.ensures.items) refl)
