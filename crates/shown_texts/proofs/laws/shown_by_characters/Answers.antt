use Rattle.shown_texts.proofs.CharacterLemmas.{by_characters}
use Rattle.shown_texts.proofs.laws.shown_by_characters.Goals as goal

pub returns : goal.returns
returns c = by_characters
