use Rattle.std.proofs.Common.{refl}
use Rattle.meaning_derive.proofs.Samples.{circular as chained}
use Rattle.meaning_derive.proofs.examples.circular.Goals as goal

pub returns : goal.returns
returns c = record { chain = chained; texts = refl }
