use Rattle.odin_store.proofs.KeepingLemmas.{opened, opened_records, kept_on, stops_in, same_rests, left_durably}
use Rattle.odin_store.proofs.laws.keeps_changes.Goals as goal

pub returns : goal.returns
returns g c =
    let told = g.D.Disk.told in
    record {
      opens = λ graph store old new. opened c.reads_in_one_way.ensures graph store (told old) (told new);
      records = λ graph store old new. opened_records c.reads_in_one_way.ensures graph store (told old) (told new);
      keeps = λ items change store next old new. kept_on items change store next (told old) (told new);
      stops = λ change store old new. stops_in change store (told old) (told new);
      same = λ store next disk after held. same_rests told store next disk after held;
      durable = λ disk store held. left_durably (told disk) store held;
    }
