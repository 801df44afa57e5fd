use Rattle.std.proofs.Common.{refl}
use Rattle.meaning_commands.proofs.examples.sizes.Goals as goal

pub returns : goal.returns
returns c = record { put = refl; bad_name = refl; take = refl; bad = refl; quit = refl; other = refl }
