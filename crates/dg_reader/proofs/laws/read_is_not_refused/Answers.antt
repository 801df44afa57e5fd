use Rattle.dg_reader.proofs.RefusalLemmas.{not_refused}
use Rattle.dg_reader.proofs.laws.read_is_not_refused.Goals as goal

pub returns : goal.returns
returns c = not_refused
