use Rattle.odin_store.proofs.GoingLemmas.{stops_failed, stops_behind, stops_left, stops_more}
use Rattle.odin_store.proofs.laws.changes_stop.Goals as goal

pub returns : goal.returns
returns g c =
    let told = g.D.Disk.told in
    record {
      failed = stops_failed told;
      behind = stops_behind told;
      left = stops_left told;
      longer = stops_more told;
    }
