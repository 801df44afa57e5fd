use Rattle.meaning_records.specs.ImageLemmas.{one_stored, one_end}
use Rattle.meaning_records.proofs.file_laws.records_are_one.Goals as goal

pub returns : goal.returns
returns c = record { stored = one_stored; ends = λ image records other end last store also. (one_end image records other end last store also).1 }
