use Rattle.meaning_tasks.proofs.Reached.{one_list}
use Rattle.meaning_tasks.proofs.laws.one_list_of_names.Goals as goal

pub returns : goal.returns
returns c = one_list
