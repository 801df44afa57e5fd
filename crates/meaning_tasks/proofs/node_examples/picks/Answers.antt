use Rattle.std.proofs.Common.{refl}
use Rattle.std.specs.Fmt.{digits}
use Rattle.meaning_tasks.proofs.node_examples.picks.Goals as goal

pub returns : goal.returns
unfolding digits
returns c = record { first = refl; second = refl; past = refl; leading_zero = refl; part = refl; no_part = refl; simple = refl }
