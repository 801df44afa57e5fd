use Rattle.std.proofs.Common.{refl}
use Rattle.project_kits.proofs.examples.names_of_units.Goals as goal

pub returns : goal.returns
returns c = record { list = refl; ask = refl; name = refl }
