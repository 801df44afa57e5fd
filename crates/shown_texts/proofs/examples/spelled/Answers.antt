use Rattle.std.proofs.Common.{refl}
use Rattle.shown_texts.specs.Shown.{staying_size, spelling}
use Rattle.shown_texts.proofs.examples.spelled.Goals as goal

pub returns : goal.returns
unfolding staying_size spelling
returns c = record { backslash = refl; tab = refl; clear = refl; delete = refl }
