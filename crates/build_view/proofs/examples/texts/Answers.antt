use Rattle.std.proofs.Common.{refl}
use Rattle.shown_texts.specs.Shown.{staying_size, spelling}
use Rattle.build_view.specs.Escaped.{entity}
use Rattle.build_view.proofs.examples.texts.Goals as goal

pub returns : goal.returns
unfolding staying_size spelling entity
returns c = record { markup = refl; twice = refl; control = refl }
