use Rattle.meaning_graph.proofs.Types.{is_a_so, so_is_a}
use Rattle.meaning_graph.proofs.laws.is_a_is_reachability.Goals as goal

pub returns : goal.returns
returns c = λ g a b. (is_a_so g a b, so_is_a g a b)
