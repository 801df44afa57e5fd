use Rattle.std.proofs.Common.{refl, ap}
use Rattle.meaning_records.specs.Tables.{Tables}
use Rattle.odin_store.proofs.FitLemmas.{same_fit}
use Rattle.odin_store.proofs.StampLemmas.{renewed_stamped}
use Rattle.odin_store.proofs.store.Store.renew.Goals as goal

pub invariant_of-self : goal.invariant_of-self
invariant_of-self c =
    let store = c.args.self.now in
    record {
      are = store.are;
      stamped = renewed_stamped store.epoch c.args.node.now c.args.present store.kept.records.records c.renew.new.self.records.records c.renew.ensures.renewed store.stamped;
      fits = same_fit store.graph store.graph store.kept.tables.records c.renew.new.self.tables.records refl (ap (λ (t : Tables). t.records) c.renew.ensures.tables) store.fits;
    }
