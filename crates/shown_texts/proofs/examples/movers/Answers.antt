use Rattle.std.proofs.Common.{refl}
use Rattle.shown_texts.specs.Shown.{staying_size, spelling}
use Rattle.shown_texts.proofs.examples.movers.Goals as goal

pub returns : goal.returns
unfolding staying_size spelling
returns c = record { control = refl; override = refl; isolate = refl }
