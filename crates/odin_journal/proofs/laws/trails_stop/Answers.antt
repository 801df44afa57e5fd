use Rattle.odin_journal.specs.TrailLemmas.{grows_left, stops_longer, leaves_less}
use Rattle.odin_journal.proofs.laws.trails_stop.Goals as goal

pub returns : goal.returns
returns g c =
    let told = g.D.Disk.told in
    let m = g.K.Keeper.keeping in
    record {
      left = grows_left m told;
      longer = stops_longer m told;
      less = λ first start now. leaves_less m first (told start) (told now);
    }
