use Rattle.meaning_texts.proofs.Cuts.{one_cut, lines_from_cut}
use Rattle.meaning_texts.proofs.laws.lines_are_one.Goals as goal

pub returns : goal.returns
returns c = λ text full last. (one_cut text full last, lines_from_cut text full last)
