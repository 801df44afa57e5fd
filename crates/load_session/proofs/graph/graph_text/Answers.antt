use Rattle.std.proofs.Common.{rules}
use Rattle.load_session.specs.Graph.{graph_text}
use Rattle.load_session.proofs.graph.graph_text.Goals as goal

pub returns : goal.returns
unfolding graph_text
returns c = search rules
