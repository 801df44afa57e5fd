use Rattle.meaning_graph.proofs.CheckedGraphs.{checked_has_spelling as has_spelling}
use Rattle.meaning_graph.proofs.text_laws.checked_has_spelling.Goals as goal

pub returns : goal.returns
returns c = has_spelling
