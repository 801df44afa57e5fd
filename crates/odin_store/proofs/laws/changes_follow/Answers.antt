use Rattle.meaning_records.specs.Batches.{facts_of}
use Rattle.odin_store.specs.Held.{puts, drops, keeps, notes}
use Rattle.odin_store.proofs.GoingLemmas.{goes_none, goes_one, goes_on, batch_noted}
use Rattle.odin_store.proofs.laws.changes_follow.Goals as goal

pub returns : goal.returns
returns g c =
    let told = g.D.Disk.told in
    let law = c.reads_in_one_way.ensures in
    record {
      none = goes_none told;
      put = λ name text store next disk after edits leaves. goes_one told law (puts name text) store next disk after edits.holds edits.adds leaves;
      drop = λ name store next disk after edits leaves. goes_one told law (drops name) store next disk after edits.holds edits.adds leaves;
      keep = λ call outcome store next disk after kept leaves. goes_one told law (keeps call outcome) store next disk after kept.holds kept.adds leaves;
      note = λ fresh store next disk after noted leaves. goes_one told law (notes (facts_of fresh)) store next disk after noted.holds (batch_noted fresh store next (told disk) (told after) noted.adds) leaves;
      behind = goes_on told;
    }
