use Rattle.meaning_graph.proofs.Suffixes.{one_suffix}
use Rattle.meaning_graph.proofs.laws.one_is_longest.Goals as goal

pub returns : goal.returns
returns c = one_suffix
