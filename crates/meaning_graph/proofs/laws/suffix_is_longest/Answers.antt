use Rattle.meaning_graph.proofs.Suffixes.{suffix_longest}
use Rattle.meaning_graph.proofs.laws.suffix_is_longest.Goals as goal

pub returns : goal.returns
returns c = suffix_longest
