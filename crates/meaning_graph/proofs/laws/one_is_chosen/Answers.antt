use Rattle.meaning_graph.proofs.Paths.{one_chosen}
use Rattle.meaning_graph.proofs.laws.one_is_chosen.Goals as goal

pub returns : goal.returns
returns c = one_chosen
