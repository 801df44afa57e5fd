use Rattle.std.proofs.Common.{rules}
use Rattle.shown_texts.specs.Shown.{staying_size}
use Rattle.shown_texts.proofs.shown.staying_size.Goals as goal

pub returns : goal.returns
unfolding staying_size
returns c = search rules
