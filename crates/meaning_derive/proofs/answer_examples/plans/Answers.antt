use Rattle.std.proofs.Common.{refl}
use Rattle.meaning_derive.proofs.answer_examples.plans.Goals as goal

pub returns : goal.returns
returns c = record { makers = refl; keyed = refl; empty = refl }
