use Rattle.meaning_graph.proofs.Firsts.{first_or_checked}
use Rattle.meaning_graph.proofs.text_laws.first_fault_is_computed.Goals as goal

pub returns : goal.returns
returns c = first_or_checked
