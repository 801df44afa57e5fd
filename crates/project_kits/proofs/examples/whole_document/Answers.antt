use Rattle.std.proofs.Common.{refl}
use Rattle.project_kits.proofs.examples.whole_document.Goals as goal

pub returns : goal.returns
returns c = record { units = refl; settings = refl; kit = refl; word = refl }
