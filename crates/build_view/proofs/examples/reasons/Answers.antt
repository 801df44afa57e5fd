use Rattle.std.proofs.Common.{refl}
use Rattle.build_view.proofs.examples.reasons.Goals as goal

pub returns : goal.returns
returns c = record { same = refl; changed = refl; comes = refl; goes = refl; found = refl; order = refl }
