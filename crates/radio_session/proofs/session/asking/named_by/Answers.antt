use Rattle.radio_session.proofs.session.asking.named_by.Goals as goal

pub returns : goal.returns
returns c = rw (c.value_or-content_type.ensures, c.value_or-name.ensures, c.value_or-genre.ensures) at c.clean.ensures
