use Rattle.std.proofs.Common.{refl}
use Rattle.shown_texts.specs.Shown.{staying_size, spelling}
use Rattle.shown_texts.proofs.examples.no_characters.Goals as goal

pub returns : goal.returns
unfolding staying_size spelling
returns c = record { alone = refl; cut = refl; overlong = refl; surrogate = refl; past = refl }
