use Rattle.meaning_tasks.proofs.Local.{one_list_of_needs as one_list}
use Rattle.meaning_tasks.proofs.laws.one_list_of_needs.Goals as goal

pub returns : goal.returns
returns c = one_list
