use Rattle.call_layout.proofs.WordCuts.{cut_by}
use Rattle.call_layout.proofs.told.cut_word.Goals as goal

pub returns : goal.returns
returns c = cut_by c.args.text.now c.cut_at.result c.cut_at.ensures.some c.cut_at.ensures.none
