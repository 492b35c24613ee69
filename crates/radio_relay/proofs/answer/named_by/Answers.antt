use Rattle.radio_relay.proofs.answer.named_by.Goals as goal

pub returns : goal.returns
returns c = rw (c.value_or-content_type.ensures, c.value_or-name.ensures, c.value_or-genre.ensures) at c.clean.ensures
