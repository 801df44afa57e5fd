use Rattle.meaning_graph.proofs.Paths.{path_chosen}
use Rattle.meaning_graph.proofs.laws.path_is_chosen.Goals as goal

pub returns : goal.returns
returns c = path_chosen
