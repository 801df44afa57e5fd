use Rattle.std.proofs.Common.{refl}
use Rattle.std.specs.Fmt.{digits}
use Rattle.meaning_commands.proofs.examples.other_replies.Goals as goal

pub returns : goal.returns
unfolding digits
returns c = record { kept = refl; plan = refl; no_steps = refl; bye = refl }
