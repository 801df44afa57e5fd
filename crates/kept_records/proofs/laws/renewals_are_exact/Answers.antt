use Rattle.kept_records.specs.Records.{renew_record}
use Rattle.kept_records.proofs.RecordLemmas.{renew_lasting, renew_others, renew_own}
use Rattle.kept_records.proofs.PlaceLemmas.{renew_nodes, same_once}
use Rattle.kept_records.proofs.laws.renewals_are_exact.Goals as goal

pub returns : goal.returns
returns c = record {
  own = renew_own;
  others = λ node other present epoch records apart. renew_others node present epoch other apart records;
  lasting = renew_lasting;
  once = λ node present epoch records once. same_once records (renew_record node present epoch records) (renew_nodes node present epoch records) once;
}
