use Rattle.meaning_graph.proofs.Faults.{one_graph}
use Rattle.meaning_graph.proofs.text_laws.graph_is_one.Goals as goal

pub returns : goal.returns
returns c = one_graph
