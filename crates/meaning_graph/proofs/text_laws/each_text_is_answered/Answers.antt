use Rattle.meaning_graph.proofs.Answered.{answered}
use Rattle.meaning_graph.proofs.text_laws.each_text_is_answered.Goals as goal

pub returns : goal.returns
returns c = answered
