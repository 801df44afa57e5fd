use Rattle.odin_store.proofs.CompactLemmas.{compaction_goes, compaction_stops, compaction_opened}
use Rattle.odin_store.proofs.laws.compactions_keep.Goals as goal

pub returns : goal.returns
returns g c =
    let told = g.D.Disk.told in
    let law = c.last_were_noted.ensures in
    record {
      goes = compaction_goes law told;
      stops = compaction_stops law told;
      opened = compaction_opened law told c.reads_in_one_way.ensures c.stands_for_one.ensures;
    }
