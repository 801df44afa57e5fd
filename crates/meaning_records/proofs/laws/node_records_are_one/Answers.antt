use Rattle.meaning_records.specs.FormLemmas.{one_message, one_dep, one_node_record}
use Rattle.meaning_records.proofs.laws.node_records_are_one.Goals as goal

pub returns : goal.returns
returns c = record { message = one_message; dep = one_dep; node_record = one_node_record }
