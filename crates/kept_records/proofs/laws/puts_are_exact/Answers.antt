use Rattle.kept_records.proofs.RecordLemmas.{put_last, put_nodes, put_others, put_own}
use Rattle.kept_records.proofs.PlaceLemmas.{put_once}
use Rattle.kept_records.proofs.laws.puts_are_exact.Goals as goal

pub returns : goal.returns
returns c = record {
  own = put_own;
  others = λ noted node records other. put_others noted node other records;
  nodes_stay = put_nodes;
  new_last = put_last;
  once = put_once;
}
