use Rattle.shown_texts.proofs.ShownLemmas.{same_shown}
use Rattle.shown_texts.proofs.laws.shown_tells_text.Goals as goal

pub returns : goal.returns
returns c = same_shown
