use Rattle.meaning_graph.proofs.Named.{named_so, so_named}
use Rattle.meaning_graph.proofs.text_laws.named_is_reachability.Goals as goal

pub returns : goal.returns
returns c = λ g a b. (named_so g a b, so_named g a b)
