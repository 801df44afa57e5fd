use Rattle.dg_reader.proofs.RefusalLemmas.{read_or_refused}
use Rattle.dg_reader.proofs.laws.each_is_read_or_refused.Goals as goal

pub returns : goal.returns
returns c = read_or_refused
