use Rattle.std.proofs.Common.{refl}
use Rattle.meaning_derive.proofs.Samples.{self_reference as chained}
use Rattle.meaning_derive.proofs.examples.self_reference.Goals as goal

pub returns : goal.returns
returns c = record { chain = chained; text = refl }
