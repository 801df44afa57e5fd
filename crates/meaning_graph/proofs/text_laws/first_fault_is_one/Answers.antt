use Rattle.meaning_graph.proofs.Firsts.{OneFault, one_first}
use Rattle.meaning_graph.proofs.text_laws.first_fault_is_one.Goals as goal

pub returns : goal.returns
returns c = λ g number other fault second f h. let o : OneFault number other fault second = one_first g number other fault second f h in record { number_is = o.number_is; fault_is = o.fault_is }
