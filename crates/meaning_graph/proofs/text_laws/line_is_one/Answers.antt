use Rattle.meaning_graph.proofs.Faults.{one_line}
use Rattle.meaning_graph.proofs.text_laws.line_is_one.Goals as goal

pub returns : goal.returns
returns c = one_line
