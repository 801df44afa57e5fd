use Rattle.std.proofs.Common.{refl}
use Rattle.std.specs.Fmt.{digits}
use Rattle.meaning_commands.proofs.examples.objects.Goals as goal

pub returns : goal.returns
unfolding digits
returns c = record { empty = refl; simple = refl; list = refl; compound = refl; aborted = refl; messages = refl }
