use Rattle.std.proofs.Common.{refl}
use Rattle.shown_texts.specs.Shown.{staying_size, spelling}
use Rattle.std.specs.Char.{encode_utf8}
use Rattle.shown_texts.proofs.examples.letters.Goals as goal

pub returns : goal.returns
unfolding staying_size spelling encode_utf8
returns c = record { ascii = refl; two = refl; three = refl; four = refl }
