use Rattle.meaning_texts.proofs.Canonical.{canonical}
use Rattle.meaning_texts.proofs.laws.expression_is_canonical.Goals as goal

pub returns : goal.returns
returns c = canonical
