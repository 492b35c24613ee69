use Rattle.std.proofs.Common.{◌≡◌, true, false, refl}
use Rattle.radio_tables.specs.Lists.{Each}
use Rattle.radio_texts.specs.Blanks.{without_blanks}
use Rattle.radio_access.specs.ContentTypes.{is_refused_type}
use Rattle.radio_access.specs.TypeExamples.{refused_examples, carried_examples}
use Rattle.radio_access.proofs.content_type.refused_types_are_named.Goals as goal

refused : Each (λ type. is_refused_type type ≡ true) refused_examples
unfolding without_blanks
refused = (refl, (refl, (refl, (refl, (refl, (refl, (refl, (refl, (refl, (refl, (refl, (refl, tt))))))))))))

carried : Each (λ type. is_refused_type type ≡ false) carried_examples
unfolding without_blanks
carried = (refl, (refl, (refl, (refl, (refl, (refl, (refl, tt)))))))

pub returns-clause-refused : goal.returns-clause-refused
returns-clause-refused c = refused

pub returns-clause-carried : goal.returns-clause-carried
returns-clause-carried c = carried
