use Rattle.std.proofs.Common.{refl}
use Rattle.std.specs.Fmt.{digits}
use Rattle.meaning_commands.proofs.examples.source_replies.Goals as goal

pub returns : goal.returns
unfolding digits
returns c = record { put = refl; took = refl; no_file = refl; dropped = refl; no_source = refl; none = refl; two = refl }
