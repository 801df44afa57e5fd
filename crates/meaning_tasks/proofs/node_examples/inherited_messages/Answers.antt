use Rattle.std.proofs.Common.{refl}
use Rattle.meaning_tasks.specs.Values.{inherit}
use Rattle.meaning_tasks.proofs.node_examples.inherited_messages.Goals as goal

pub returns : goal.returns
unfolding inherit
returns c = record { order = refl; levels = refl }
