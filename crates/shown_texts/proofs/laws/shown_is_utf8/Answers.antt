use Rattle.shown_texts.proofs.CharacterLemmas.{shown_utf8}
use Rattle.shown_texts.proofs.laws.shown_is_utf8.Goals as goal

pub returns : goal.returns
returns c = λ text bytes. shown_utf8 text bytes 0
