use Rattle.std.proofs.Common.{◌≢◌, Some, IsSome}
use Rattle.std.specs.FinMap as map
use Rattle.odin_store.specs.Held.{puts, drops}
use Rattle.odin_store.proofs.GoingLemmas.{edited, has_failed}
use Rattle.odin_store.proofs.laws.edits_are_told.Goals as goal

pub returns : goal.returns
returns g c =
    let told = g.D.Disk.told in
    let law = c.reads_in_one_way.ensures in
    record {
      put = λ name text store next disk after. edited told law (map.get store.sources.texts name ≢ Some text) (puts name text) store next disk after;
      drop = λ name store next disk after. edited told law (IsSome (map.get store.sources.texts name)) (drops name) store next disk after;
      failed = has_failed told;
    }
