use Rattle.meaning_graph.proofs.Faults.{each_begins}
use Rattle.meaning_graph.proofs.text_laws.each_declaration_begins.Goals as goal

pub returns : goal.returns
returns c = each_begins
