use Rattle.meaning_texts.proofs.Found.{found}
use Rattle.meaning_texts.proofs.laws.each_text_is_answered.Goals as goal

pub returns : goal.returns
returns c = found
