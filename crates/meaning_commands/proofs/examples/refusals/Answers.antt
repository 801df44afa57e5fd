use Rattle.std.proofs.Common.{refl}
use Rattle.std.specs.Fmt.{digits}
use Rattle.meaning_commands.proofs.examples.refusals.Goals as goal

pub returns : goal.returns
unfolding digits
returns c = record { command = refl; name = refl; size = refl; read = refl; expression = refl; param = refl; type = refl; path = refl; start = refl; circular = refl; deep = refl }
