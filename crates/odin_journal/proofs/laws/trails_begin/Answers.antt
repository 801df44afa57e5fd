use Rattle.odin_journal.specs.TrailLemmas.{opened_trail, unopened_leaves}
use Rattle.odin_journal.proofs.laws.trails_begin.Goals as goal

pub returns : goal.returns
returns g c =
    let told = g.D.Disk.told in
    let m = g.K.Keeper.keeping in
    record {
      opened = λ first start now. opened_trail m first (told start) (told now);
      unopened = λ first start now. unopened_leaves m first (told start) (told now);
    }
