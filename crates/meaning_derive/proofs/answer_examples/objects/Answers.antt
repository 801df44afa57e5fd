use Rattle.std.proofs.Common.{refl}
use Rattle.meaning_derive.proofs.answer_examples.objects.Goals as goal

pub returns : goal.returns
returns c = record { empty = refl; listed = refl; compound = refl; failed = refl; aborted = refl; tabbed = refl }
