use Rattle.meaning_records.specs.FormLemmas.{one_item}
use Rattle.meaning_records.proofs.laws.items_are_one.Goals as goal

pub returns : goal.returns
returns c = one_item
