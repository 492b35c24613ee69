use Rattle.std.proofs.Common.{refl, sym, ⊎_elim}
use Rattle.radio_startup.proofs.fault.FileFault.reason.Goals as goal

pub returns-in-NotToml : goal.returns-in-NotToml
returns-in-NotToml c = rw (c.in-NotToml.is, sym c.as_str.ensures.value) (c.words_of-in-NotToml.ensures _ refl)

pub returns-in-Line : goal.returns-in-Line
returns-in-Line c = ⊎_elim (λ line. rw line.2 (c.words_of-in-Line.ensures _ refl)) (⊎_elim (λ settings. rw settings.2 (c.words_of-in-Line.ensures _ refl)) (λ none. rw none (c.words_of-in-Line.ensures _ refl))) c.in-Line.is
