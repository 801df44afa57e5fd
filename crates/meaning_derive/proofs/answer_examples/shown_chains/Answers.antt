use Rattle.std.proofs.Common.{refl}
use Rattle.meaning_derive.proofs.answer_examples.shown_chains.Goals as goal

pub returns : goal.returns
returns c = record { circular = refl; deep = refl }
