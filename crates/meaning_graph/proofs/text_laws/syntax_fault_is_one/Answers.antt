use Rattle.meaning_graph.proofs.Faults.{one_fault}
use Rattle.meaning_graph.proofs.text_laws.syntax_fault_is_one.Goals as goal

pub returns : goal.returns
returns c = λ text line column m d f g. let h = one_fault text line column m d f g in record { line_is = h.0; column_is = h.1 }
