use Rattle.std.proofs.Common.{refl}
use Rattle.meaning_texts.proofs.examples.escaped_texts.Goals as goal

pub returns : goal.returns
returns c = record { tab = refl; backslash = refl; high = refl }
