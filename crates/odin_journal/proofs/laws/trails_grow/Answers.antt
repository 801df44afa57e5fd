use Rattle.odin_journal.specs.TrailLemmas.{keeps_grows, stops_within, untouched_grows, grows_on, grows_stops}
use Rattle.odin_journal.proofs.laws.trails_grow.Goals as goal

pub returns : goal.returns
returns g c =
    let told = g.D.Disk.told in
    let m = g.K.Keeper.keeping in
    record {
      one = keeps_grows m told;
      stop = stops_within m told;
      none = untouched_grows m told;
      behind = grows_on m told;
      stop_behind = grows_stops m told;
    }
