use Rattle.odin_answers.proofs.OtherLemmas.{others_dont_matter as dont_matter}
use Rattle.odin_answers.proofs.laws.others_dont_matter.Goals as goal

pub returns : goal.returns
returns c = dont_matter
