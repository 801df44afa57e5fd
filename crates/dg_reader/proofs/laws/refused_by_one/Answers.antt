use Rattle.dg_reader.proofs.RefusalLemmas.{refused_by_one}
use Rattle.dg_reader.proofs.laws.refused_by_one.Goals as goal

pub returns : goal.returns
returns c = refused_by_one
